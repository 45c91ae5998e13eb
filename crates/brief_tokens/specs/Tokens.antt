-- The tokens of a brief: its lexemes, each with its line, with keywords told from other words. The second version of briefs has
-- keywords that are words in the first, and strings.
use Rattle.std.specs.Prelude.{ℕ, ◌+◌, ◌*◌, ◌-◌, Bool, ◌&&◌, ◌==◌, nat_lt, List, [], ◌∷◌, ◌++◌, length, take, drop, Option, Some, None, codes, if◌then◌else◌}
use Rattle.std.specs.Char.{digit_value}
use Rattle.std.specs.Str.{bytes_eq}
use Rattle.message_tree.specs.Codes.{code}
use Rattle.lexer.specs.Lexemes.{Lexeme, Lexemes, Ending, briefs, boards, lexemes_of}
use Rattle.lexer.specs.Lexemes as lexemes
use Rattle.lexer.specs.declared.lexemes.Letters.{Letters}
use Rattle.lexer.specs.declared.lexemes.Letters.TheVariants.{Board}
use Rattle.brief_tokens.specs.declared.symbols.Keyword.{Keyword}
use Rattle.brief_tokens.specs.declared.symbols.Keyword.TheVariants.{Brief, Device, Byte, Any, Message, Controller, Interrupt}
use Rattle.brief_tokens.specs.declared.symbols.Keyword.TheVariants.{Never, Write, Read, Else, Stop}
use Rattle.brief_tokens.specs.declared.symbols.Keyword.TheVariants.{With, Group, Extend, But, Wr, Rd, Pec, Sum}
use Rattle.brief_tokens.specs.declared.symbols.Sign.{Sign}
use Rattle.brief_tokens.specs.declared.symbols.Sign.TheVariants.{Semicolon, Open, Close, Star}

-- a word that the language has in fixed places, any other word, one of `;`, `(`, `)` and `*`, what stands in a string, or the
-- ends of a span
pub data Token : Type 0 where
  keyword : (k : Keyword) → Token
  word : (bytes : List ℕ) → Token
  sign : (s : Sign) → Token
  quoted : (bytes : List ℕ) → Token
  span : (least greatest : ℕ) → Token

-- tokens with their lines, and what they end with
pub data Tokens : Type 0 where
  next : (token : Token) (line : ℕ) (rest : Tokens) → Tokens
  last : (ending : Ending) (line : ℕ) → Tokens

abbrev pub keyword_of : List ℕ → Option Keyword
keyword_of bytes =
    if bytes_eq bytes (codes "brief") then Some Brief
    else if bytes_eq bytes (codes "device") then Some Device
    else if bytes_eq bytes (codes "byte") then Some Byte
    else if bytes_eq bytes (codes "any") then Some Any
    else if bytes_eq bytes (codes "message") then Some Message
    else if bytes_eq bytes (codes "controller") then Some Controller
    else if bytes_eq bytes (codes "interrupt") then Some Interrupt
    else if bytes_eq bytes (codes "never") then Some Never
    else if bytes_eq bytes (codes "write") then Some Write
    else if bytes_eq bytes (codes "read") then Some Read
    else if bytes_eq bytes (codes "else") then Some Else
    else if bytes_eq bytes (codes "stop") then Some Stop
    else None

abbrev token_by : Option Keyword → List ℕ → Token
token_by (Some k) bytes = keyword k
token_by None bytes = word bytes

-- the token of these bytes, a maximal run of letters, digits, `_`, `.` and `/`
unfoldable pub token_of_word : List ℕ → Token
token_of_word bytes = token_by (keyword_of bytes) bytes

-- the character that stands by itself (no other does in a brief)
abbrev pub sign_of : ℕ → Sign
sign_of byte =
    if byte == code "(" then Open
    else if byte == code ")" then Close
    else if byte == code "*" then Star
    else Semicolon

-- the token that a lexeme is
abbrev pub told : Lexeme → Token
told (lexemes.word bytes) = token_of_word bytes
told (lexemes.sign byte) = sign (sign_of byte)

-- ---- the second version

abbrev pub further_keyword_of : List ℕ → Option Keyword
further_keyword_of bytes =
    if bytes_eq bytes (codes "with") then Some With
    else if bytes_eq bytes (codes "group") then Some Group
    else if bytes_eq bytes (codes "extend") then Some Extend
    else if bytes_eq bytes (codes "but") then Some But
    else if bytes_eq bytes (codes "wr") then Some Wr
    else if bytes_eq bytes (codes "rd") then Some Rd
    else if bytes_eq bytes (codes "pec") then Some Pec
    else if bytes_eq bytes (codes "sum") then Some Sum
    else None

abbrev pub or_keyword : Option Keyword → Option Keyword → Option Keyword
or_keyword (Some k) other = Some k
or_keyword None other = other

abbrev pub board_keyword_of : List ℕ → Option Keyword
board_keyword_of bytes = or_keyword (keyword_of bytes) (further_keyword_of bytes)

-- what stands between the quotes of a string
abbrev pub string_of : List ℕ → Option (List ℕ)
string_of [] = None
string_of (first ∷ rest) = if first == code "\"" then Some (take (length rest - 1) rest) else None

-- the number of two digits in base 16
abbrev pub hex_number : ℕ → ℕ → Option ℕ
hex_number high low =
    if nat_lt (digit_value high) 16 && nat_lt (digit_value low) 16 then Some (digit_value high * 16 + digit_value low) else None

abbrev pub both_ends : Option ℕ → Option ℕ → Option (ℕ × ℕ)
both_ends (Some least) (Some greatest) = Some (least, greatest)
both_ends least greatest = None

-- LO and HI of `0xLO..0xHI`
abbrev pub span_of : List ℕ → Option (ℕ × ℕ)
span_of (a ∷ b ∷ c ∷ d ∷ e ∷ f ∷ g ∷ h ∷ i ∷ j ∷ []) =
    if bytes_eq (a ∷ b ∷ []) (codes "0x") && bytes_eq (e ∷ f ∷ g ∷ h ∷ []) (codes "..0x") then both_ends (hex_number c d) (hex_number i j) else None
span_of bytes = None

abbrev pub plain_token_by : Option (ℕ × ℕ) → List ℕ → Token
plain_token_by (Some ends) bytes = span ends.0 ends.1
plain_token_by None bytes = token_by (board_keyword_of bytes) bytes

abbrev pub board_token_by : Option (List ℕ) → List ℕ → Token
board_token_by (Some text) bytes = quoted text
board_token_by None bytes = plain_token_by (span_of bytes) bytes

unfoldable pub board_token_of_word : List ℕ → Token
board_token_of_word bytes = board_token_by (string_of bytes) bytes

abbrev pub board_told : Lexeme → Token
board_told (lexemes.word bytes) = board_token_of_word bytes
board_told (lexemes.sign byte) = sign (sign_of byte)

-- ---- texts

-- lexemes as these tokens
abbrev pub tokens_by : (Lexeme → Token) → Lexemes → Tokens
tokens_by said (lexemes.next lexeme line rest) = next (said lexeme) line (tokens_by said rest)
tokens_by said (lexemes.last ending line) = last ending line

-- lexemes, with keywords told from other words
abbrev pub tokens_from : Lexemes → Tokens
tokens_from = tokens_by told

-- the tokens of these bytes, of which the first byte stands on this line
unfoldable pub tokens_of : ℕ → List ℕ → Tokens
tokens_of line bytes = tokens_from (lexemes_of briefs line bytes)

-- the same in the second version
unfoldable pub board_tokens_of : ℕ → List ℕ → Tokens
board_tokens_of line bytes = tokens_by board_told (lexemes_of boards line bytes)

-- those of a text with these letters
abbrev pub tokens_in : Letters → ℕ → List ℕ → Tokens
tokens_in Board = board_tokens_of
tokens_in letters = tokens_of

abbrev pub told_in : Letters → Lexeme → Token
told_in Board = board_told
told_in letters = told
