-- Two texts with the same words: what a reader of plans or of briefs takes in of them, but for the lines of refusals.
use Rattle.std.specs.Prelude.{◌≡◌, ℕ, Bool, not, ◌||◌, ◌==◌, List}
use Rattle.std.specs.List.{filter}
use Rattle.message_tree.specs.Codes.{code}
use Rattle.lexer.specs.Lexemes.{Alphabet, no_dots, dots_after, briefs, boards, Lexemes, next, last, lexemes_of}

-- these lexemes, all of them on line 0
abbrev pub without_lines : Lexemes → Lexemes
without_lines (next lexeme line rest) = next lexeme 0 (without_lines rest)
without_lines (last ending line) = last ending 0

-- they differ in their lines alone
abbrev pub Alike : Lexemes → Lexemes → Type 0
Alike one other = without_lines one ≡ without_lines other

-- the texts have the same lexemes by these letters
abbrev pub SameBy : Alphabet → List ℕ → List ℕ → Type 0
SameBy a one other = Alike (lexemes_of a 1 one) (lexemes_of a 1 other)

-- by those of the first and of the second version of plans, and of briefs
abbrev pub SameWords : List ℕ → List ℕ → Type 0
SameWords one other =
    SameBy no_dots one other × SameBy (dots_after 2) one other × SameBy briefs one other × SameBy boards one other

-- space, tab, carriage return and line feed
abbrev pub is_white : ℕ → Bool
is_white byte = byte == code " " || byte == code "\t" || byte == code "\r" || byte == code "\n"

-- the texts differ in white space alone: comments are kept too
abbrev pub SameBytes : List ℕ → List ℕ → Type 0
SameBytes one other = filter (λ byte. not (is_white byte)) one ≡ filter (λ byte. not (is_white byte)) other
