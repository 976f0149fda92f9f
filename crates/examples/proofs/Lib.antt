pub mod Reflexive
pub mod Handed
