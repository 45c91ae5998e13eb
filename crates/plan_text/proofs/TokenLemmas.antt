-- The tokens of bytes by what stands at their front: those of their lexemes.
use Rattle.std.proofs.Common.{◌≡◌, ◌+◌, ℕ, List, [], ◌∷◌, true, refl, ap, take, drop, ◌⊎◌}
use Rattle.std.specs.List.{prefix_len}
use Rattle.lexer.specs.declared.lexemes.Letters.{Letters}
use Rattle.lexer.specs.declared.lexemes.Letters.TheVariants.{Plain, Dots, Brief, Board}
use Rattle.lexer.specs.Lexemes.{Alphabet, letters, later, is_word_part, is_sign, text_end}
use Rattle.lexer.proofs.LexemeLemmas as lexemes
use Rattle.plan_text.specs.Tokens.{next, last, semicolon, tokens_from, tokens_of, token_of_word}

-- white space has no tokens
pub skips_line_feed : (a : Alphabet) (line : ℕ) (rest others : List ℕ) → rest ≡ 10 ∷ others → tokens_of a (line + 1) others ≡ tokens_of a line rest
unfolding tokens_of
skips_line_feed a line rest others front = ap tokens_from (lexemes.skips_line_feed a line rest others front)

pub skips_space : (a : Alphabet) (line byte : ℕ) (rest others : List ℕ) → rest ≡ byte ∷ others → (byte ≡ 9) ⊎ ((byte ≡ 13) ⊎ (byte ≡ 32)) → tokens_of a line others ≡ tokens_of a line rest
unfolding tokens_of
skips_space a line byte rest others front is = ap tokens_from (lexemes.skips_space a line byte rest others front is)

-- what the tokens begin with, by the first byte
pub ends_here : (a : Alphabet) (line : ℕ) (rest : List ℕ) → rest ≡ [] → tokens_of a line rest ≡ last text_end line
unfolding tokens_of
ends_here a line rest e = ap tokens_from (lexemes.ends_here a line rest e)

is_semicolon : (l : Letters) → is_sign l 59 ≡ true
is_semicolon Plain = refl
is_semicolon Dots = refl
is_semicolon Brief = refl
is_semicolon Board = refl

pub semicolon_here : (a : Alphabet) (line : ℕ) (rest others : List ℕ) → rest ≡ 59 ∷ others → tokens_of a line rest ≡ next semicolon line (tokens_of (later a) line others)
unfolding tokens_of
semicolon_here a line rest others front = ap tokens_from (lexemes.sign_here a line 59 rest others front (is_semicolon (letters a)))

-- the whole run of word parts at the front is the first token
pub word_here : (a : Alphabet) (line byte n : ℕ) (rest others : List ℕ) → rest ≡ byte ∷ others → is_word_part (letters a) byte ≡ true → n ≡ prefix_len (is_word_part (letters a)) rest →
    tokens_of a line rest ≡ next (token_of_word (take n rest)) line (tokens_of (later a) line (drop n rest))
unfolding tokens_of
word_here a line byte n rest others front part count = ap tokens_from (lexemes.word_here a line byte n rest others front part count)
