-- what an edit is, and what it means
pub mod Task
pub mod Script
pub mod Blocks
pub mod Rules
pub mod Insertions
pub mod Wording
pub mod Automatic
pub mod Outcome
pub mod Effect
pub mod Batch
pub mod Options
-- what serves proofs
pub mod proving
