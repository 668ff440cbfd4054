pub mod Parts
pub mod Noting
pub mod Marks
pub mod Leaves
pub mod Walk
pub mod Laid
