pub mod Accepts
pub mod Refused
pub mod Right
pub mod Answers
pub mod Answering
pub mod Verified
