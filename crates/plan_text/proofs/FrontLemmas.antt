-- The tokens of bytes where more than one of them is taken at once.
use Rattle.std.proofs.Common.{◌≡◌, ◌≤◌, ◌-◌, ℕ, List, ◌∷◌, ◌++◌, codes, refl, ap, sym, ◌∙◌, length, take, drop, get_or, inr}
use Rattle.std.proofs.lemmas.List.{take-append-drop}
use Rattle.lexer.specs.declared.lexemes.Letters.{Letters}
use Rattle.lexer.specs.declared.lexemes.Letters.TheVariants.{Plain, Dots, Brief, Board}
use Rattle.lexer.specs.Lexemes.{lexemes_of, letters}
use Rattle.lexer.specs.Reading.{alphabet}
use Rattle.lexer.proofs.LexemeLemmas.{front_is, later_alphabet}
use Rattle.message_tree.specs.Patterns.{pattern_bits}
use Rattle.message_tree.specs.declared.bits.Pattern.{Pattern}
use Rattle.plan_text.specs.declared.symbols.Keyword.TheVariants as keywords
use Rattle.plan_text.specs.Symbols.{pattern_word}
use Rattle.plan_text.specs.Tokens.{next, word, keyword, tokens_of, token_of_word}
use Rattle.plan_text.proofs.WholeWords.{word_token}
use Rattle.plan_text.proofs.WholeWords.{space_apart, bits_are_word, bits_token, pattern_some}
use Rattle.plan_text.proofs.TokenLemmas.{skips_space}

-- a data byte between two blanks
pub data_byte_here : (l : Letters) (line : ℕ) (p : Pattern) (whole w rest : List ℕ) → 1 ≤ length whole → get_or whole 0 0 ≡ 32 →
    w ≡ take 8 (take (length whole - 1) (drop 1 whole)) → rest ≡ drop 8 (take (length whole - 1) (drop 1 whole)) → 1 ≤ length rest → get_or rest 0 0 ≡ 32 → pattern_word p ≡ w →
    tokens_of (alphabet l) line whole ≡ next (word (pattern_word p)) line (tokens_of (alphabet l) line rest)
data_byte_here l line p whole w rest some first front back more second is =
    let d = alphabet l in
    let after : List ℕ = take (length rest - 1) (drop 1 rest) in
    let tail : List ℕ = take (length whole - 1) (drop 1 whole) in
    let blank : rest ≡ 32 ∷ after = front_is rest 32 more second in
    let parts : tail ≡ pattern_word p ++ rest = sym (take-append-drop 8 tail) ∙ ap (λ xs. xs ++ drop 8 tail) (sym front ∙ sym is) ∙ ap (λ xs. pattern_word p ++ xs) (sym back) in
    sym (skips_space d line 32 whole tail (front_is whole 32 some first) (inr (inr refl)))
    ∙ ap (tokens_of d line) (parts ∙ ap (λ xs. pattern_word p ++ xs) blank)
    ∙ word_token d (later_alphabet l) line (pattern_word p) (32 ∷ after) (word (pattern_word p)) (bits_are_word (letters d) (pattern_bits p) (pattern_some p)) (bits_token (pattern_bits p) (pattern_some p)) (space_apart (letters d) after)
    ∙ ap (λ xs. next (word (pattern_word p)) line (tokens_of d line xs)) (sym blank)

-- `else stop` before a blank
pub else_stop_here : (l : Letters) (line : ℕ) (whole rest : List ℕ) → whole ≡ codes " else stop" ++ rest → 1 ≤ length rest → get_or rest 0 0 ≡ 32 →
    tokens_of (alphabet l) line whole ≡ next (keyword keywords.Else) line (next (keyword keywords.Stop) line (tokens_of (alphabet l) line rest))
unfolding tokens_of token_of_word lexemes_of
else_stop_here l line whole rest is more blank =
    let front = front_is rest 32 more blank in
    let after : List ℕ = take (length rest - 1) (drop 1 rest) in
    ap (tokens_of (alphabet l) line) (is ∙ ap (λ xs. codes " else stop" ++ xs) front) ∙ both l line after
    ∙ ap (λ xs. next (keyword keywords.Else) line (next (keyword keywords.Stop) line (tokens_of (alphabet l) line xs))) (sym front)
  where
    both : (l : Letters) (line : ℕ) (after : List ℕ) → tokens_of (alphabet l) line (codes " else stop" ++ (32 ∷ after))
        ≡ next (keyword keywords.Else) line (next (keyword keywords.Stop) line (tokens_of (alphabet l) line (32 ∷ after)))
    both Plain line after = refl
    both Dots line after = refl
    both Brief line after = refl
    both Board line after = refl
