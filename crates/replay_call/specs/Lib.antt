pub mod Comparing
pub mod Following
