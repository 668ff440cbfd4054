pub mod Calling
pub mod Entering
pub mod Summing
