pub mod TypedRecordLemmas
pub mod FitLemmas
pub mod ClosedLemmas
pub mod MemberLemmas
