-- What a lexer says of the lexemes that are left.
use Rattle.std.specs.Prelude.{◌≡◌, ℕ, Bool, false, ◌||◌, ◌==◌, List, [], ◌∷◌, length}
use Rattle.message_tree.specs.Codes.{code}
use Rattle.lexer.specs.declared.lexemes.Letters.{Letters}
use Rattle.lexer.specs.declared.lexemes.Letters.TheVariants.{Plain, Dots, Brief, Board}
use Rattle.lexer.specs.declared.lexemes.Symbol.{Symbol}
use Rattle.lexer.specs.declared.lexemes.Symbol.TheVariants as symbols
use Rattle.lexer.specs.declared.lexemes.Lexeme.{Lexeme}
use Rattle.lexer.specs.declared.lexers.Lexer.{Lexer}
use Rattle.lexer.specs.Lexemes as spec

-- the bytes that are left
abbrev pub unread : Lexer → ℕ
unread lexer = length lexer.rest.now

-- the lexemes that are left
abbrev pub left_of : spec.Alphabet → Lexer → spec.Lexemes
left_of a lexer = spec.lexemes_of a lexer.line lexer.rest.now

-- white space, or the sign that begins a comment
abbrev pub is_skipped : ℕ → Bool
is_skipped byte = byte == code "\n" || byte == code " " || byte == code "\t" || byte == code "\r" || byte == code "#"

-- neither white space nor a comment stands at the front
abbrev pub BeginsHere : List ℕ → Type 0
BeginsHere [] = Unit {0}
BeginsHere (byte ∷ bytes) = is_skipped byte ≡ false

-- an alphabet that stays the same from here on
abbrev pub alphabet : Letters → spec.Alphabet
alphabet Plain = spec.no_dots
alphabet Dots = spec.dots_after 0
alphabet Brief = spec.briefs
alphabet Board = spec.boards

-- a symbol on its line, and these lexemes after it
abbrev pub with_symbol : Symbol → ℕ → spec.Lexemes → spec.Lexemes
with_symbol (symbols.Word w) line rest = spec.next (spec.word w.now) line rest
with_symbol (symbols.Sign byte) line rest = spec.next (spec.sign byte) line rest
with_symbol symbols.Stray line rest = spec.last spec.stray line
with_symbol symbols.Foreign line rest = spec.last spec.foreign line
with_symbol symbols.End line rest = spec.last spec.text_end line

abbrev pub with_lexeme : Lexeme → spec.Lexemes → spec.Lexemes
with_lexeme lexeme rest = with_symbol lexeme.symbol lexeme.line rest
