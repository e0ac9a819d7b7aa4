pub mod DeedLemmas
pub mod RunLemmas
pub mod LeadingLemmas
pub mod HunkLemmas
pub mod TurningLemmas
pub mod StepLemmas
pub mod ComposingExamples
