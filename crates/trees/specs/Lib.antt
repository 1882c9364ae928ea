pub mod Names
pub mod Trees
