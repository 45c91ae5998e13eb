pub mod ByteLemmas
pub mod DecodedLemmas
pub mod WritingLemmas
