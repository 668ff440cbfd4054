pub mod Asked
pub mod Farms
pub mod InstantRules
pub mod LabelRows
pub mod RankedExamples
pub mod RankedExpansion
pub mod Ranks
pub mod Traced
