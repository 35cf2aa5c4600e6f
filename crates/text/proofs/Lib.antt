pub mod Scans
pub mod Digits
pub mod Cuts
pub mod Gathers
pub mod Puts
pub mod Ends
pub mod Readings
