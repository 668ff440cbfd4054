pub mod Replay
pub mod ReplayClaims
pub mod ReplayExamples
