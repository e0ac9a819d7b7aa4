-- What serves proofs.
pub mod Filters
pub mod Excerpts
pub mod Blocks
pub mod Heads
