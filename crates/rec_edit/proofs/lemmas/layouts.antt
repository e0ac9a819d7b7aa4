pub mod CommentLemmas
pub mod PickLemmas
pub mod NeatLemmas
pub mod NameLemmas
pub mod NewFieldLemmas
