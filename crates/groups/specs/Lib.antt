pub mod Laws
pub mod Renamings
pub mod Ticks
pub mod RenamingsLemmas
pub mod Gathers
pub mod Digits
pub mod Packs
