mod LineExamples
mod LineLemmas
