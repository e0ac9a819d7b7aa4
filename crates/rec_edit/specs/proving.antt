-- What serves proofs.
pub mod Changes
pub mod Drafts
pub mod Edits
pub mod Laying
pub mod Given
pub mod Causes
pub mod Sites
pub mod Filling
pub mod Files
pub mod Batches
