pub mod Labelled
pub mod Resumed
