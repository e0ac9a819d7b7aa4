pub mod NewRecordLemmas
pub mod PlacedLemmas
pub mod InsertLemmas
pub mod SiteLemmas
