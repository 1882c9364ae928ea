pub mod Facts
pub mod Tables
pub mod Calls
