-- What a brief begins with: `brief` and its version, and in the second version the files that it names.
use Rattle.std.specs.Prelude.{ℕ, Bool, ◌&&◌, nat_le, List, length, Option, Some, None, Result, Ok, Err, codes, if◌then◌else◌}
use Rattle.std.specs.Str.{bytes_eq}
use Rattle.lexer.specs.Lexemes.{text_end, foreign, stray}
use Rattle.lexer.specs.declared.lexemes.Letters.{Letters}
use Rattle.lexer.specs.declared.lexemes.Letters.TheVariants.{Brief, Board}
use Rattle.plan_text.specs.declared.errors.PlanError.{PlanError}
use Rattle.plan_text.specs.declared.errors.PlanError.TheVariants.{Unexpected, NotAscii, Version}
use Rattle.brief_tokens.specs.declared.symbols.Keyword.TheVariants as keywords
use Rattle.brief_tokens.specs.declared.symbols.Sign.TheVariants.{Semicolon}
use Rattle.brief_tokens.specs.Tokens.{keyword, word, sign, quoted, Tokens, next, last, tokens_of, board_tokens_of}

-- the refusal of what stands in the place of `brief` or of `1`
abbrev pub no_version : Tokens → PlanError
no_version (last stray line) = Unexpected line
no_version (last foreign line) = NotAscii line
no_version (last text_end line) = Version line
no_version (next token line rest) = Version line

-- `1`, and the tokens after it
abbrev pub after_version : Tokens → Result Tokens PlanError
after_version (next (word bytes) line rest) = if bytes_eq bytes (codes "1") then Ok rest else Err (Version line)
after_version tokens = Err (no_version tokens)

-- `brief`, `1`, and the tokens after them
abbrev pub after_head : Tokens → Result Tokens PlanError
after_head (next (keyword keywords.Brief) line rest) = after_version rest
after_head tokens = Err (no_version tokens)

-- `brief`, `2`, and the tokens after them
abbrev pub after_second_version : Tokens → Option Tokens
after_second_version (next (word bytes) line rest) = if bytes_eq bytes (codes "2") then Some rest else None
after_second_version tokens = None

abbrev pub after_second_head : Tokens → Option Tokens
after_second_head (next (keyword keywords.Brief) line rest) = after_second_version rest
after_second_head tokens = None

abbrev pub begun_by : Result Tokens PlanError → Option Tokens → Result (Letters × Tokens) PlanError
begun_by (Ok rest) second = Ok (Brief, rest)
begun_by (Err e) (Some rest) = Ok (Board, rest)
begun_by (Err e) None = Err e

-- The letters of a text, and its tokens after `brief` and its version. What is no brief of the second version is refused as one of
-- the first.
unfoldable pub begun : List ℕ → Result (Letters × Tokens) PlanError
begun text = begun_by (after_head (tokens_of 1 text)) (after_second_head (board_tokens_of 1 text))

-- ---- the files that a head of the second version names: "with" STRING ";"

-- the refusal of what stands first, where it may not
abbrev pub unexpected_first : Tokens → PlanError
unexpected_first (next token line rest) = Unexpected line
unexpected_first (last text_end line) = Unexpected line
unexpected_first (last stray line) = Unexpected line
unexpected_first (last foreign line) = NotAscii line

-- a string names a file by 1 to 255 characters
abbrev pub is_file_name : List ℕ → Bool
is_file_name bytes = nat_le 1 (length bytes) && nat_le (length bytes) 255

-- what comes next in a head: a file, by the string on this line, with the tokens after that; no further one, and there the items
-- begin; or what is refused
pub data Naming : Type 0 where
  names : (file : List ℕ) (line : ℕ) (rest : Tokens) → Naming
  no_more : (rest : Tokens) → Naming
  wrong : (e : PlanError) → Naming

-- after `with`
abbrev pub string_first : Tokens → Naming
string_first (next (quoted bytes) line rest) = if is_file_name bytes then names bytes line rest else wrong (Unexpected line)
string_first tokens = wrong (unexpected_first tokens)

abbrev pub next_file : Tokens → Naming
next_file (next (keyword keywords.With) line rest) = string_first rest
next_file tokens = no_more tokens

-- the `;` after the string
abbrev pub after_file : Tokens → Result Tokens PlanError
after_file (next (sign Semicolon) line rest) = Ok rest
after_file tokens = Err (unexpected_first tokens)

-- the tokens after all of these files
abbrev mutual
  pub after_files : Tokens → Result Tokens PlanError
  after_files (next (keyword keywords.With) line rest) = after_with rest
  after_files tokens = Ok tokens

  pub after_with : Tokens → Result Tokens PlanError
  after_with (next (quoted bytes) line rest) = if is_file_name bytes then after_string rest else Err (Unexpected line)
  after_with tokens = Err (unexpected_first tokens)

  pub after_string : Tokens → Result Tokens PlanError
  after_string (next (sign Semicolon) line rest) = after_files rest
  after_string tokens = Err (unexpected_first tokens)

-- ---- the whole head

abbrev pub with_board : Result Tokens PlanError → Result (Letters × Tokens) PlanError
with_board (Ok rest) = Ok (Board, rest)
with_board (Err e) = Err e

abbrev pub past_files : Result (Letters × Tokens) PlanError → Result (Letters × Tokens) PlanError
past_files (Ok (Board, tokens)) = with_board (after_files tokens)
past_files other = other

-- the letters of a text, and its tokens after the head
unfoldable pub opened : List ℕ → Result (Letters × Tokens) PlanError
opened text = past_files (begun text)
