pub mod Bays
pub mod Runs
