pub mod Over
pub mod Packed
pub mod Examples
