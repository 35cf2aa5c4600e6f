pub mod Calls
pub mod Histories
pub mod Questions
pub mod Worlds
pub mod Guarantee
pub mod Witness
pub mod Bookings
