pub mod LexemeLemmas
