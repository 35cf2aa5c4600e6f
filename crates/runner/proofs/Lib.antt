pub mod Steps
pub mod Shorter
pub mod Obeying
pub mod Running
