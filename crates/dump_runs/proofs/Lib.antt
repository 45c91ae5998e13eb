mod LearnedLemmas
