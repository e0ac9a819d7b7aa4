-- what the home of files promises of paths, of leftovers, and of contents on a disk, and what it means
pub mod Paths
pub mod Leftovers
pub mod OnDisk
pub mod Succeeding
-- what serves proofs
pub mod proving
