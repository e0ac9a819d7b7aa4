pub mod NumberLemmas
pub mod NoNewlineLemmas
pub mod RowLemmas
pub mod HeadLemmas
pub mod HunkLemmas
pub mod ViewLemmas
pub mod CountLemmas
pub mod NameLemmas
