pub mod descriptors
pub mod field_types
pub mod TypeLemmas
pub mod SetLemmas
pub mod DescribedLemmas
pub mod checks
pub mod laws
pub mod automatic
