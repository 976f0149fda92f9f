pub mod Check
pub mod Requests
