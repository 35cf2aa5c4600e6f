pub mod Counts
pub mod Fitting
pub mod Kept
pub mod Written
