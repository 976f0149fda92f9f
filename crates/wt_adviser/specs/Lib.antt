pub mod Small
pub mod Tally
pub mod Advice
pub mod Follow
