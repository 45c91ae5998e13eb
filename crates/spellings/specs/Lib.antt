pub mod Canonical
pub mod Writing
pub mod Spelling
pub mod Runs
pub mod Kinds
pub mod Spellings
