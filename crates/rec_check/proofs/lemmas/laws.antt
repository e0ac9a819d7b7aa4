pub mod SoundLemmas
pub mod SameDescriptorLemmas
pub mod SameLemmas
pub mod AlikeLemmas
pub mod SameTypeLemmas
pub mod OneReportLemmas
pub mod CheckLemmas
pub mod SchemaExamples
