-- what a disk holds, and what each call does
pub mod Disk
-- what a stop or a crash may leave of it, and what is seen at a place whatever they leave
pub mod Lasting
-- the rights of a file
pub mod Rights
-- the folder in which a path stands
pub mod Folders
-- the paths of a file and its journal
pub mod Paths
-- how paths and words are told
pub mod Escapes
-- a disk in memory
pub mod Memory
-- what serves proofs
pub mod proving
