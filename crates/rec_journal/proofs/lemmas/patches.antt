pub mod AppendLemmas
pub mod PatchLemmas
pub mod SplicingLemmas
pub mod StepLemmas
pub mod PatchExamples
