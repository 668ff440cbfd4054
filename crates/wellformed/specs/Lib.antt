pub mod Clashes
pub mod Exclusion
pub mod Rows
pub mod Survey
pub mod Triggers
