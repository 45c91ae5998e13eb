-- The tokens of bytes by what stands at their front: those of their lexemes.
use Rattle.std.proofs.Common.{◌≡◌, ◌+◌, ℕ, List, [], ◌∷◌, true, ap, sym, ◌∙◌, refl, take, drop, ◌⊎◌}
use Rattle.std.specs.List.{prefix_len}
use Rattle.lexer.specs.declared.lexemes.Letters.{Letters}
use Rattle.lexer.specs.declared.lexemes.Letters.TheVariants.{Plain, Dots, Brief, Board}
use Rattle.lexer.specs.declared.lexemes.Lexeme.{Lexeme}
use Rattle.lexer.specs.Lexemes.{Alphabet, letters, later, briefs, boards, Lexemes, lexemes_of, is_of_brief, is_word_part, is_sign, text_end}
use Rattle.lexer.specs.Reading.{with_lexeme}
use Rattle.lexer.proofs.LexemeLemmas as lexemes
use Rattle.brief_tokens.specs.declared.symbols.Token.{Token}
use Rattle.brief_tokens.specs.Reading.{with_token}
use Rattle.brief_tokens.specs.Tokens.{next, last, sign, sign_of, tokens_by, tokens_from, tokens_of, tokens_in, told_in, board_told, board_tokens_of, token_of_word}

-- white space has no tokens
pub skips_line_feed : (line : ℕ) (rest others : List ℕ) → rest ≡ 10 ∷ others → tokens_of (line + 1) others ≡ tokens_of line rest
unfolding tokens_of
skips_line_feed line rest others front = ap tokens_from (lexemes.skips_line_feed briefs line rest others front)

pub skips_space : (line byte : ℕ) (rest others : List ℕ) → rest ≡ byte ∷ others → (byte ≡ 9) ⊎ ((byte ≡ 13) ⊎ (byte ≡ 32)) → tokens_of line others ≡ tokens_of line rest
unfolding tokens_of
skips_space line byte rest others front is = ap tokens_from (lexemes.skips_space briefs line byte rest others front is)

-- what the tokens begin with, by the first byte
pub ends_here : (line : ℕ) (rest : List ℕ) → rest ≡ [] → tokens_of line rest ≡ last text_end line
unfolding tokens_of
ends_here line rest e = ap tokens_from (lexemes.ends_here briefs line rest e)

pub sign_here : (line byte : ℕ) (rest others : List ℕ) → rest ≡ byte ∷ others → is_sign Brief byte ≡ true → tokens_of line rest ≡ next (sign (sign_of byte)) line (tokens_of line others)
unfolding tokens_of
sign_here line byte rest others front is = ap tokens_from (lexemes.sign_here briefs line byte rest others front is)

-- the whole run of word parts at the front is the first token
pub word_here : (line byte n : ℕ) (rest others : List ℕ) → rest ≡ byte ∷ others → is_word_part Brief byte ≡ true → n ≡ prefix_len (is_word_part Brief) rest →
    tokens_of line rest ≡ next (token_of_word (take n rest)) line (tokens_of line (drop n rest))
unfolding tokens_of
word_here line byte n rest others front part count = ap tokens_from (lexemes.word_here briefs line byte n rest others front part count)

-- ---- whatever the letters

-- what is left at first
pub left_briefs : (l : Letters) (line place : ℕ) (bytes text : List ℕ) → l ≡ Brief → lexemes_of briefs line bytes ≡ lexemes_of briefs place text → tokens_in l line bytes ≡ tokens_of place text
unfolding tokens_of
left_briefs l line place bytes text by same = ap (λ m. tokens_in m line bytes) by ∙ ap tokens_from same

pub left_boards : (l : Letters) (line place : ℕ) (bytes text : List ℕ) → l ≡ Board → lexemes_of boards line bytes ≡ lexemes_of boards place text → tokens_in l line bytes ≡ board_tokens_of place text
unfolding board_tokens_of
left_boards l line place bytes text by same = ap (λ m. tokens_in m line bytes) by ∙ ap (tokens_by board_told) same

-- a lexeme is taken as the token that it is
pub taken : (l m : Letters) (line place : ℕ) (bytes rest : List ℕ) (lexeme : Lexeme) (token : Token)
    → ((a : Alphabet) → letters a ≡ l → lexemes_of a line bytes ≡ with_lexeme lexeme (lexemes_of (later a) place rest))
    → ((after : Lexemes) → tokens_by (told_in l) (with_lexeme lexeme after) ≡ with_token token (tokens_by (told_in l) after))
    → is_of_brief l ≡ true → m ≡ l → tokens_in l line bytes ≡ with_token token (tokens_in m place rest)
unfolding tokens_of board_tokens_of
taken Plain m line place bytes rest lexeme token lexed said is same = absurd cc
taken Dots m line place bytes rest lexeme token lexed said is same = absurd cc
taken Brief m line place bytes rest lexeme token lexed said is same =
    ap tokens_from (lexed briefs refl) ∙ said (lexemes_of briefs place rest) ∙ ap (λ l. with_token token (tokens_in l place rest)) (sym same)
taken Board m line place bytes rest lexeme token lexed said is same =
    ap (tokens_by board_told) (lexed boards refl) ∙ said (lexemes_of boards place rest) ∙ ap (λ l. with_token token (tokens_in l place rest)) (sym same)
