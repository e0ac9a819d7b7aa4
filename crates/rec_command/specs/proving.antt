-- What serves proofs.
pub mod Tools
