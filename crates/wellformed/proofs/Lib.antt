pub mod Clashes
pub mod Formed
pub mod Passing
pub mod Rows
pub mod Surveyed
