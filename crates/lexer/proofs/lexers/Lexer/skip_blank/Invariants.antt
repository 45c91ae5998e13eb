use Rattle.std.proofs.Common.{◌≡◌, ◌≤◌}
use Rattle.lexer.specs.Lexemes.{Alphabet, letters}
use Rattle.lexer.specs.Reading.{left_of, unread}
use Rattle.lexer.proofs.lexers.Lexer.skip_blank.Given as goal

-- what is left has the same lexemes, and never grows
abbrev pub invariant-loop-self : goal.invariant-loop-self
invariant-loop-self l = record {
  same : (a : Alphabet) → letters a ≡ l.initial.self.letters → left_of a l.self ≡ left_of a l.initial.self;
  letters : l.self.letters ≡ l.initial.self.letters;
  shorter : unread l.self ≤ unread l.initial.self;
}

abbrev pub decreases-loop-self : goal.decreases-loop-self
decreases-loop-self l = unread l.self
