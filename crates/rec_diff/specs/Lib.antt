-- what changes of a text are, and what several patches do, one after another
pub mod Changes
pub mod Composing
-- a change in whole lines, and its printed text
pub mod Lines
pub mod WholeLines
pub mod Diff
-- what it tells
pub mod Patched
-- the diff of an edit
pub mod Diffs
-- one change taken back
pub mod Strands
pub mod Placed
pub mod Making
pub mod Keeping
pub mod Reverts
-- two texts compared
pub mod Comparing
-- what serves proofs
pub mod proving
