pub mod Shared
pub mod Peeks
pub mod Numbers
pub mod Served
pub mod Runs
