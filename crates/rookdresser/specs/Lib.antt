pub mod Doors
pub mod Gets
pub mod Services
pub mod Young
