pub mod Turns
pub mod Finding
pub mod Answering
pub mod Stepping
