pub mod Walks
pub mod Growing
pub mod Checking
pub mod Forming
