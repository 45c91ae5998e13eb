use Rattle.std.proofs.Common.{◌≡◌}
use Rattle.lexer.specs.Lexemes.{Alphabet, letters, later}
use Rattle.lexer.specs.Reading.{left_of}
use Rattle.layout.specs.SameWords.{Alike}
use Rattle.layout.proofs.words.are_alike.Given as goal

-- where what is left is alike, all was
abbrev pub invariant-loop : goal.invariant-loop
invariant-loop l = record {
  same_one : l.one.letters ≡ l.initial.one.letters;
  same_other : l.other.letters ≡ l.initial.other.letters;
  back : (a : Alphabet) → letters a ≡ l.initial.one.letters → letters a ≡ l.initial.other.letters → later a ≡ a →
      Alike (left_of a l.one) (left_of a l.other) → Alike (left_of a l.initial.one) (left_of a l.initial.other);
}
