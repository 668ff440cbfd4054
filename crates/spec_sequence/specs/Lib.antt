pub mod Amounts
pub mod Ceilings
pub mod Check
pub mod Commands
pub mod Program
pub mod Reader
pub mod Rows
pub mod Writer
