pub mod Algebra
pub mod Chains
pub mod Ways
pub mod Hanging
pub mod Joining
pub mod Keeping
pub mod Answering
