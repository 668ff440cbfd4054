pub mod ReplayExamples
