pub mod Activity
pub mod Compatibility
