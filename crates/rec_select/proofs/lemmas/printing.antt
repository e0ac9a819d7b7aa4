pub mod PutsLemmas
pub mod BlockLemmas
pub mod ExcerptLemmas
pub mod PrintingLemmas
pub mod PrintingExamples
