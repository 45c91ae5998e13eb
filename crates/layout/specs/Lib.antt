pub mod SameWords
pub mod Refusals
pub mod Strangers
