pub mod Refusals
pub mod Slots
pub mod Reversal
pub mod Services
