pub mod Bytes
pub mod Leaving
pub mod Parting
pub mod Reading
