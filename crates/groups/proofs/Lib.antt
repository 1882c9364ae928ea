pub mod Seen
pub mod Exchanges
