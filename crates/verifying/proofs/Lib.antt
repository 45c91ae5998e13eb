pub mod AcceptLemmas
pub mod AnswerReading
pub mod VerifiedLemmas
