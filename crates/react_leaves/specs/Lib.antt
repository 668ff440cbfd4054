pub mod Emissions
pub mod Started
