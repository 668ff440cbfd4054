pub mod Ceilings
pub mod Extents
pub mod Plans
