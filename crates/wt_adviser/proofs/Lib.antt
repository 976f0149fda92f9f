pub mod Examples
pub mod Looks
pub mod Shown
pub mod SlidBy
