use Rattle.std.proofs.Common.{◌≡◌}
use Rattle.lexer.specs.Lexemes.{Alphabet, letters, later}
use Rattle.lexer.specs.Reading.{left_of, alphabet}
use Rattle.layout.specs.Refusals.{stranger}
use Rattle.layout.specs.Strangers.{size}
use Rattle.layout.proofs.strangers.stranger_from.Given as goal

-- what is left is refused for what all was
abbrev pub invariant-loop-unread : goal.invariant-loop-unread
invariant-loop-unread l = record {
  same : l.lexer.letters ≡ l.initial.lexer.letters;
  back : (a : Alphabet) → letters a ≡ l.initial.lexer.letters → later a ≡ a →
      stranger (left_of a l.initial.lexer) ≡ stranger (left_of a l.lexer);
}

abbrev pub decreases-loop-unread : goal.decreases-loop-unread
decreases-loop-unread l = size (left_of (alphabet l.lexer.letters) l.lexer)
