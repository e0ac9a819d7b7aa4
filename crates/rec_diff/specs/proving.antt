-- What serves proofs.
pub mod Runs
pub mod Turns
pub mod Ranks
pub mod SortedLines
pub mod Cutting
pub mod Passages
pub mod Headings
pub mod Backs
pub mod Moving
pub mod Moved
pub mod Weaving
pub mod Numbering
pub mod Reading
pub mod Making
pub mod Keeping
pub mod Taking
