-- What serves proofs.
pub mod Splicing
pub mod Prefixes
pub mod Head
pub mod Reading
pub mod Scan
pub mod Ways
