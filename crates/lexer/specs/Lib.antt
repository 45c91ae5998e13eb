pub mod Lexemes
pub mod Fronts
pub mod Reading
