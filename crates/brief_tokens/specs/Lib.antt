pub mod Tokens
pub mod Names
pub mod Heads
pub mod Reading
