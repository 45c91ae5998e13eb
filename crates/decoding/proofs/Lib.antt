pub mod DumpLemmas
pub mod EndedLemmas
pub mod TakingLemmas
pub mod DecodingLemmas
pub mod PartLemmas
