pub mod UncheckedLemmas
