pub mod Cases
pub mod Fitting
pub mod Once
pub mod Runs
