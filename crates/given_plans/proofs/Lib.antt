mod GivenLemmas
mod SourceLemmas
