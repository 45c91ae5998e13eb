pub mod BitLemmas
pub mod KindLemmas
pub mod TextLaws
pub mod TextLengths
