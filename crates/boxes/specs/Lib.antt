pub mod Entries
pub mod Moving
