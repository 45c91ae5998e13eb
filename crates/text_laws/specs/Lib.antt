pub mod Several
pub mod Sendings
pub mod Adding
pub mod Covering
