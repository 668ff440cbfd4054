pub mod PreviewExamples
