-- What serves proofs.
pub mod Places
