pub mod Reversals
pub mod Spacings
pub mod Weights
pub mod Tables
pub mod Given
