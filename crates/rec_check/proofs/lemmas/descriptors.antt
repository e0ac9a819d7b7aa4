pub mod WordLemmas
pub mod DescriptorLemmas
pub mod PlaceLemmas
pub mod FlawLemmas
pub mod StandsLemmas
pub mod SchemaLemmas
pub mod BuiltLemmas
