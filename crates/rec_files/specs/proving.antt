-- What serves proofs.
pub mod Replacing
pub mod Recovering
pub mod Succeeding
pub mod Steps
