-- What a tally holds.
use Rattle.std.specs.Prelude.{ℕ}
use Rattle.plays.specs.declared.tally.Tally.{Tally}

-- the word that it was made of
abbrev pub word_in : Tally → ℕ
word_in t = t.word
