pub mod Differences
pub mod Numbers
pub mod Paper
pub mod Recordings
pub mod Replacements
pub mod Theorems
