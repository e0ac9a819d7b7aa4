-- what the descriptors of a text say, and what breaks their rules
pub mod Words
pub mod Types
pub mod Resolving
pub mod Meanings
pub mod Descriptors
pub mod Breaches
pub mod Rules
pub mod Sets
pub mod Schemas
pub mod Stored
pub mod DescribedTexts
pub mod Violations
pub mod Checks
pub mod Automatic
pub mod Counting
pub mod Counters
pub mod Walking
pub mod Soundness
-- what serves proofs
pub mod proving
