pub mod Fronts
pub mod Room
