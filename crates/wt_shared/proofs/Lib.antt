pub mod Counting
pub mod Peeking
pub mod Placing
pub mod Refusals
pub mod Serving
