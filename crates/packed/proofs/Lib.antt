pub mod Packing
pub mod Forms
pub mod Laying
