pub mod Checked
pub mod WireLemmas
pub mod TallyLemmas
pub mod MemoLemmas
pub mod AnswerLemmas
pub mod QuickLemmas
pub mod FedLemmas
