pub mod Bytes
pub mod Commands
pub mod Worlds
pub mod Scripts
pub mod Orders
