pub mod Admitting
pub mod Capped
pub mod Charging
pub mod Positioning
pub mod Previewing
pub mod Recording
pub mod Storing
pub mod Ticking
