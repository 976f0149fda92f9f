pub mod Sketch
pub mod Alone
pub mod Lawful
pub mod Nibbles
pub mod Packed
