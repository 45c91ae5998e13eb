pub mod TokenLemmas
pub mod HeadLemmas
