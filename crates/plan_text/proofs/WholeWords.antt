-- Words, each by itself: what they are made of, and which tokens they are.
use Rattle.std.proofs.Common.{◌≡◌, ◌<◌, ◌≤◌, ◌+◌, ℕ, suc, Bool, true, false, ◌&&◌, cond, List, [], ◌∷◌, ◌++◌, length, map, drop, refl, ap, sym, ◌∙◌, arith, one-add, true≢false, lit<}
use Rattle.std.specs.List.{list_all, prefix_len}
use Rattle.std.proofs.lemmas.Bool.{and_parts, and_from, ne_eqb}
use Rattle.std.proofs.lemmas.List.{take_at, drop_at}
use Rattle.lexer.specs.declared.lexemes.Letters.{Letters}
use Rattle.lexer.specs.declared.lexemes.Letters.TheVariants.{Plain, Dots, Brief, Board}
use Rattle.lexer.specs.Lexemes.{Alphabet, letters, later, is_word_part, begins_with_part}
use Rattle.message_tree.proofs.BitLemmas.{length-bits_below}
use Rattle.message_tree.specs.declared.bits.Bit.{Bit}
use Rattle.message_tree.specs.declared.bits.Bit.TheVariants.{Zero, One, Either}
use Rattle.message_tree.specs.declared.bits.Address.{Address}
use Rattle.message_tree.specs.declared.bits.Pattern.{Pattern}
use Rattle.message_tree.specs.Patterns.{address_bits, pattern_bits}
use Rattle.plan_text.specs.Symbols.{bit_symbol}
use Rattle.plan_text.specs.Tokens.{Token, word, next, tokens_of, token_of_word}
use Rattle.plan_text.proofs.TokenLemmas.{word_here}

-- a part of words, and then more of them or none
abbrev pub is_word : Letters → List ℕ → Bool
is_word ls [] = false
is_word ls (byte ∷ bytes) = is_word_part ls byte && list_all (is_word_part ls) bytes

-- these bytes do not go on with a word
abbrev pub Apart : Letters → List ℕ → Type 0
Apart ls rest = begins_with_part ls rest ≡ false

pub parts_before : (ls : Letters) (w rest : List ℕ) → list_all (is_word_part ls) w ≡ true → Apart ls rest → prefix_len (is_word_part ls) (w ++ rest) ≡ length w
parts_before ls [] [] all apart = refl
parts_before ls [] (b ∷ rest) all apart = ap (λ t. cond t (1 + prefix_len (is_word_part ls) rest) 0) apart
parts_before ls (b ∷ w) rest all apart =
    let parts = and_parts _ _ all in
    ap (λ t. cond t (1 + prefix_len (is_word_part ls) (w ++ rest)) 0) parts.0 ∙ one-add (prefix_len (is_word_part ls) (w ++ rest)) ∙ ap suc (parts_before ls w rest parts.1 apart)

pub space_apart : (ls : Letters) (rest : List ℕ) → Apart ls (32 ∷ rest)
space_apart Plain rest = refl
space_apart Dots rest = refl
space_apart Brief rest = refl
space_apart Board rest = refl

-- a word that begins with no letter from `a` to `w` is no keyword
pub no_keyword : (byte : ℕ) (bytes : List ℕ) → (97 ≤ byte → 119 < byte) → token_of_word (byte ∷ bytes) ≡ word (byte ∷ bytes)
unfolding token_of_word
no_keyword byte bytes other =
    rw (ne_eqb byte 112 (λ e. omega arith), ne_eqb byte 109 (λ e. omega arith), ne_eqb byte 99 (λ e. omega arith), ne_eqb byte 105 (λ e. omega arith), ne_eqb byte 110 (λ e. omega arith), ne_eqb byte 119 (λ e. omega arith), ne_eqb byte 114 (λ e. omega arith), ne_eqb byte 97 (λ e. omega arith), ne_eqb byte 101 (λ e. omega arith), ne_eqb byte 115 (λ e. omega arith)) refl

symbol_is_part : (ls : Letters) (bit : Bit) → is_word_part ls (bit_symbol bit) ≡ true
symbol_is_part ls Zero = refl
symbol_is_part ls One = refl
symbol_is_part ls Either = refl

symbols_are_parts : (ls : Letters) (bits : List Bit) → list_all (is_word_part ls) (map bit_symbol bits) ≡ true
symbols_are_parts ls [] = refl
symbols_are_parts ls (bit ∷ bits) = and_from _ _ (symbol_is_part ls bit) (symbols_are_parts ls bits)

pub bits_are_word : (ls : Letters) (bits : List Bit) → 0 < length bits → is_word ls (map bit_symbol bits) ≡ true
bits_are_word ls [] some = absurd (omega arith)
bits_are_word ls (bit ∷ bits) some = symbols_are_parts ls (bit ∷ bits)

symbol_begins : (bit : Bit) → 97 ≤ bit_symbol bit → 119 < bit_symbol bit
symbol_begins Zero h = absurd (omega arith)
symbol_begins One h = absurd (omega arith)
symbol_begins Either h = lit< tt

pub bits_token : (bits : List Bit) → 0 < length bits → token_of_word (map bit_symbol bits) ≡ word (map bit_symbol bits)
bits_token [] some = absurd (omega arith)
bits_token (bit ∷ bits) some = no_keyword (bit_symbol bit) (map bit_symbol bits) (symbol_begins bit)

pub address_some : (a : Address) → 0 < length (address_bits a)
unfolding address_bits
address_some a = omega (arith, length-bits_below 7 a.known a.value)

pub pattern_some : (p : Pattern) → 0 < length (pattern_bits p)
unfolding pattern_bits
pattern_some p = omega (arith, length-bits_below 8 p.known p.value)

module _ (d : Alphabet) (steady : later d ≡ d) where
  -- a word is one token
  pub word_token : (line : ℕ) (w rest : List ℕ) (t : Token) → is_word (letters d) w ≡ true → token_of_word w ≡ t → Apart (letters d) rest → tokens_of d line (w ++ rest) ≡ next t line (tokens_of d line rest)
  word_token line [] rest t is e apart = absurd (true≢false (sym is))
  word_token line (b ∷ bytes) rest t is e apart =
      let w : List ℕ = b ∷ bytes in
      let parts = and_parts (is_word_part (letters d) b) _ is in
      let count : suc (length bytes) ≡ prefix_len (is_word_part (letters d)) (w ++ rest) = sym (parts_before (letters d) w rest is apart) in
      word_here d line b (suc (length bytes)) (w ++ rest) (bytes ++ rest) refl parts.0 count
      ∙ ap (λ x. next (token_of_word x) line (tokens_of (later d) line (drop (suc (length bytes)) (w ++ rest)))) (take_at w rest (suc (length bytes)) refl)
      ∙ ap (λ x. next x line (tokens_of (later d) line (drop (suc (length bytes)) (w ++ rest)))) e
      ∙ ap (λ x. next t line (tokens_of (later d) line x)) (drop_at w rest (suc (length bytes)) refl)
      ∙ ap (λ x. next t line (tokens_of x line rest)) steady
