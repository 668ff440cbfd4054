pub mod Reading
pub mod Rooms
pub mod Scanning
