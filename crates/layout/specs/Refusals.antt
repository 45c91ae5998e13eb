-- Which texts have no layout, and why: the first two lexemes are those of no plan and of no brief, or what the lexemes end with is
-- not the end of the text.
use Rattle.std.specs.Prelude.{ℕ, Bool, true, false, List, Option, Some, None, Result, Ok, Err, codes, unwrap_or, if◌then◌else◌}
use Rattle.std.specs.Str.{bytes_eq}
use Rattle.lexer.specs.Lexemes.{Alphabet, no_dots, dots_after, briefs, boards, Lexemes, next, last, word, sign, text_end, stray, foreign, lexemes_of}
use Rattle.lexer.specs.declared.lexemes.Letters.{Letters}
use Rattle.lexer.specs.declared.lexemes.Letters.TheVariants.{Plain, Dots, Brief, Board}
use Rattle.plan_text.specs.declared.errors.PlanError.{PlanError}
use Rattle.plan_text.specs.declared.errors.PlanError.TheVariants.{Unexpected, NotAscii, Version}

-- the refusal of what stands first, in the place of a word that says the language or the version
abbrev pub no_version : Lexemes → PlanError
no_version (next lexeme line rest) = Version line
no_version (last text_end line) = Version line
no_version (last stray line) = Unexpected line
no_version (last foreign line) = NotAscii line

-- what a text has after its first two lexemes: the letters of each version of plans and of briefs
abbrev pub alphabet_of : Letters → Alphabet
alphabet_of Plain = no_dots
alphabet_of Dots = dots_after 2
alphabet_of Brief = briefs
alphabet_of Board = boards

-- after `plan`
abbrev pub plan_letters : Lexemes → Result Letters PlanError
plan_letters (next (word bytes) line rest) =
    if bytes_eq bytes (codes "1") then Ok Plain
    else if bytes_eq bytes (codes "2") then Ok Dots
    else Err (Version line)
plan_letters lexemes = Err (no_version lexemes)

-- after `brief`; before another version it is no brief of the first
abbrev pub brief_letters : Lexemes → Option (Result Letters PlanError)
brief_letters (next (word bytes) line rest) = if bytes_eq bytes (codes "1") then Some (Ok Brief) else None
brief_letters (next (sign byte) line rest) = None
brief_letters (last text_end line) = None
brief_letters (last stray line) = Some (Err (Unexpected line))
brief_letters (last foreign line) = Some (Err (NotAscii line))

-- where the first word is `brief`
abbrev pub brief_head : Lexemes → Option (Result Letters PlanError)
brief_head (next (word bytes) line rest) = if bytes_eq bytes (codes "brief") then brief_letters rest else None
brief_head lexemes = None

-- whether the first two words are `brief` and `2`
abbrev pub is_second_version : Lexemes → Bool
is_second_version (next (word bytes) line rest) = bytes_eq bytes (codes "2")
is_second_version lexemes = false

abbrev pub is_board : Lexemes → Bool
is_board (next (word bytes) line rest) = if bytes_eq bytes (codes "brief") then is_second_version rest else false
is_board lexemes = false

-- the letters of a brief of either version; what is none of the second is judged as one of the first
abbrev pub or_board : Option (Result Letters PlanError) → Bool → Option (Result Letters PlanError)
or_board (Some (Ok letters)) second = Some (Ok letters)
or_board brief true = Some (Ok Board)
or_board brief false = brief

-- where it is `plan`; else the letters are those of a brief, if it is one
abbrev pub head_or : Option (Result Letters PlanError) → Lexemes → Result Letters PlanError
head_or brief (next (word bytes) line rest) =
    if bytes_eq bytes (codes "plan") then plan_letters rest else unwrap_or brief (Err (Version line))
head_or brief lexemes = unwrap_or brief (Err (no_version lexemes))

-- the letters of a text, or the refusal of its first two lexemes
unfoldable pub letters_in : List ℕ → Result Letters PlanError
letters_in text =
    head_or (or_board (brief_head (lexemes_of briefs 1 text)) (is_board (lexemes_of boards 1 text))) (lexemes_of no_dots 1 text)

-- the refusal of what the lexemes end with
abbrev pub stranger : Lexemes → Option PlanError
stranger (next lexeme line rest) = stranger rest
stranger (last text_end line) = None
stranger (last stray line) = Some (Unexpected line)
stranger (last foreign line) = Some (NotAscii line)

abbrev pub refusal_by : Result Letters PlanError → List ℕ → Option PlanError
refusal_by (Ok letters) text = stranger (lexemes_of (alphabet_of letters) 1 text)
refusal_by (Err e) text = Some e

-- why the text has no layout; where there is no such cause, it has one
unfoldable pub refusal_of : List ℕ → Option PlanError
refusal_of text = refusal_by (letters_in text) text
