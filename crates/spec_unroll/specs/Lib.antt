pub mod Call
pub mod Claims
pub mod Entries
pub mod Rows
pub mod Runs
pub mod Unrolled
pub mod Worked
