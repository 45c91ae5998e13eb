-- The tokens of a plan text: its lexemes, each with its line, with keywords told from other words.
use Rattle.std.specs.Prelude.{ℕ, List, Option, Some, None, codes, if◌then◌else◌}
use Rattle.std.specs.Str.{bytes_eq}
use Rattle.lexer.specs.Lexemes.{Alphabet, Lexeme, sign, Lexemes, Ending, lexemes_of}
use Rattle.lexer.specs.Lexemes as lexemes
use Rattle.plan_text.specs.declared.symbols.Keyword.{Keyword}
use Rattle.plan_text.specs.declared.symbols.Keyword.TheVariants.{Plan, Message, Controller, Interrupt, Never, Write}
use Rattle.plan_text.specs.declared.symbols.Keyword.TheVariants.{Read, Again, Else, Stop}

-- a word that the grammar has in fixed places, any other word, or `;`
pub data Token : Type 0 where
  keyword : (k : Keyword) → Token
  word : (bytes : List ℕ) → Token
  semicolon : Token

-- tokens with their lines, and what they end with
pub data Tokens : Type 0 where
  next : (token : Token) (line : ℕ) (rest : Tokens) → Tokens
  last : (ending : Ending) (line : ℕ) → Tokens

abbrev pub keyword_of : List ℕ → Option Keyword
keyword_of bytes =
    if bytes_eq bytes (codes "plan") then Some Plan
    else if bytes_eq bytes (codes "message") then Some Message
    else if bytes_eq bytes (codes "controller") then Some Controller
    else if bytes_eq bytes (codes "interrupt") then Some Interrupt
    else if bytes_eq bytes (codes "never") then Some Never
    else if bytes_eq bytes (codes "write") then Some Write
    else if bytes_eq bytes (codes "read") then Some Read
    else if bytes_eq bytes (codes "again") then Some Again
    else if bytes_eq bytes (codes "else") then Some Else
    else if bytes_eq bytes (codes "stop") then Some Stop
    else None

abbrev token_by : Option Keyword → List ℕ → Token
token_by (Some k) bytes = keyword k
token_by None bytes = word bytes

-- the token of these bytes, a maximal run of letters, digits and `_`, and of `.` where it is a part of words
unfoldable pub token_of_word : List ℕ → Token
token_of_word bytes = token_by (keyword_of bytes) bytes

-- the token that a lexeme is (no character stands by itself in a plan but `;`)
abbrev pub told : Lexeme → Token
told (lexemes.word bytes) = token_of_word bytes
told (sign byte) = semicolon

-- lexemes, with keywords told from other words
abbrev pub tokens_from : Lexemes → Tokens
tokens_from (lexemes.next lexeme line rest) = next (told lexeme) line (tokens_from rest)
tokens_from (lexemes.last ending line) = last ending line

-- the tokens of these bytes, of which the first byte stands on this line
unfoldable pub tokens_of : Alphabet → ℕ → List ℕ → Tokens
tokens_of a line bytes = tokens_from (lexemes_of a line bytes)
