pub mod Acted
pub mod Dealt
pub mod Faulty
pub mod Passed
