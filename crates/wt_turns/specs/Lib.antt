pub mod Loading
pub mod Turns
pub mod ByTurn
pub mod Contract
