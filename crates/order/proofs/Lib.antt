pub mod MemoLemmas
pub mod TotalLemmas
pub mod WayLemmas
pub mod LineLemmas
pub mod OrderLemmas
