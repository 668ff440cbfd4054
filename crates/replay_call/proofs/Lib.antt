pub mod Bytes
pub mod Comparing
pub mod Following
pub mod Standing
pub mod Walking
