-- what patches, events, histories and plans are, which texts edits have, with which text a history ends, what a stop
-- leaves, and what forgetting does
pub mod Direction
pub mod Patch
pub mod Revisions
pub mod Event
pub mod History
pub mod Listing
pub mod Plans
pub mod Numbers
pub mod EditTexts
pub mod Ending
pub mod Stops
pub mod Bound
pub mod Promises
pub mod Forgetting
-- what serves proofs
pub mod proving
