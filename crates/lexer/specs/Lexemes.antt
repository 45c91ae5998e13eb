-- The lexemes of a text of plans or of briefs, each with its line. A line is one more than the number of line feeds before it.
use Rattle.std.specs.Prelude.{ℕ, zero, suc, ◌+◌, Bool, true, false, ◌&&◌, ◌||◌, not, ◌==◌, nat_le, nat_lt, List, [], ◌∷◌, if◌then◌else◌}
use Rattle.message_tree.specs.Codes.{code}
use Rattle.plan_core.specs.Names.{is_name_byte}
use Rattle.lexer.specs.declared.lexemes.Letters.{Letters}
use Rattle.lexer.specs.declared.lexemes.Letters.TheVariants.{Plain, Dots, Brief, Board}

-- a word, or a character that stands by itself; a string with its quotes is a word
pub data Lexeme : Type 0 where
  word : (bytes : List ℕ) → Lexeme
  sign : (byte : ℕ) → Lexeme

-- what the lexemes end with: the end of the text, a byte of 128 or more, in a comment too, or an ASCII character that
-- belongs to no lexeme
pub data Ending : Type 0 where
  text_end : Ending
  foreign : Ending
  stray : Ending

-- lexemes with their lines, and what they end with
pub data Lexemes : Type 0 where
  next : (lexeme : Lexeme) (line : ℕ) (rest : Lexemes) → Lexemes
  last : (ending : Ending) (line : ℕ) → Lexemes

-- the letters of a text: of a plan, in which `.` is a part of words after so many lexemes, or never; or of a brief, in its
-- first version, or in its second, which has strings, and comments of any bytes
pub data Alphabet : Type 0 where
  no_dots : Alphabet
  dots_after : (lexemes : ℕ) → Alphabet
  briefs : Alphabet
  boards : Alphabet

-- those of the next lexeme
abbrev pub letters : Alphabet → Letters
letters no_dots = Plain
letters (dots_after zero) = Dots
letters (dots_after (suc n)) = Plain
letters briefs = Brief
letters boards = Board

-- one lexeme later
abbrev pub later : Alphabet → Alphabet
later no_dots = no_dots
later (dots_after zero) = dots_after zero
later (dots_after (suc n)) = dots_after n
later briefs = briefs
later boards = boards

-- beside letters, digits and `_`
abbrev pub is_joined : Letters → ℕ → Bool
is_joined Plain byte = false
is_joined Dots byte = byte == code "."
is_joined Brief byte = byte == code "." || byte == code "/"
is_joined Board byte = byte == code "." || byte == code "/"

abbrev pub is_word_part : Letters → ℕ → Bool
is_word_part l byte = is_name_byte byte || is_joined l byte

abbrev pub is_sign : Letters → ℕ → Bool
is_sign Plain byte = byte == code ";"
is_sign Dots byte = byte == code ";"
is_sign Brief byte = byte == code ";" || byte == code "(" || byte == code ")" || byte == code "*"
is_sign Board byte = byte == code ";" || byte == code "(" || byte == code ")" || byte == code "*"

abbrev pub is_of_brief : Letters → Bool
is_of_brief Plain = false
is_of_brief Dots = false
is_of_brief Brief = true
is_of_brief Board = true

-- what begins a string, and ends it
abbrev pub is_quote : Letters → ℕ → Bool
is_quote Board byte = byte == code "\""
is_quote l byte = false

-- what stands in one: from blank to `~`, but `"` and `\`
abbrev pub is_string_part : ℕ → Bool
is_string_part byte = nat_le 32 byte && nat_le byte 126 && not (byte == code "\"") && not (byte == code "\\")

-- comments have bytes of 128 and more
abbrev pub has_any_comment : Letters → Bool
has_any_comment Board = true
has_any_comment l = false

-- what a byte is, between lexemes and inside words and comments
pub data Class : Type 0 where
  line_feed : Class
  blank : Class
  number_sign : Class
  sign_byte : Class
  word_part : Class
  quote : Class
  foreign_byte : Class
  stray_byte : Class

abbrev pub class_of : Letters → ℕ → Class
class_of l byte =
    if byte == code "\n" then line_feed
    else if byte == code " " || byte == code "\t" || byte == code "\r" then blank
    else if byte == code "#" then number_sign
    else if is_sign l byte then sign_byte
    else if is_word_part l byte then word_part
    else if is_quote l byte then quote
    else if nat_lt byte 128 then stray_byte
    else foreign_byte

-- The part of a word goes onto the rest of the word, which follows it. (It is used only where a word follows, or no string.)
abbrev pub put_before : ℕ → Lexemes → Lexemes
put_before byte (next (word bytes) line rest) = next (word (byte ∷ bytes)) line rest
put_before byte lexemes = lexemes

abbrev pub begins_with_part : Letters → List ℕ → Bool
begins_with_part l [] = false
begins_with_part l (byte ∷ bytes) = is_word_part l byte

-- the lexemes of the bytes from this line on, outside and inside a comment, and inside a string
abbrev mutual
  pub raw_lexemes : Alphabet → ℕ → List ℕ → Lexemes
  raw_lexemes a line [] = last text_end line
  raw_lexemes a line (byte ∷ bytes) =
      elim (class_of (letters a) byte) [
        | line_feed ↦ raw_lexemes a (line + 1) bytes
        | blank ↦ raw_lexemes a line bytes
        | number_sign ↦ in_comment a line bytes
        | sign_byte ↦ next (sign byte) line (raw_lexemes (later a) line bytes)
        | word_part ↦ elim (begins_with_part (letters a) bytes) [
          | true ↦ put_before byte (raw_lexemes a line bytes)
          | false ↦ next (word (byte ∷ [])) line (raw_lexemes (later a) line bytes)
        ]
        | quote ↦ put_before byte (in_string a line bytes)
        | foreign_byte ↦ last foreign line
        | stray_byte ↦ last stray line
      ]

  -- a comment goes up to the end of its line
  pub in_comment : Alphabet → ℕ → List ℕ → Lexemes
  in_comment a line [] = last text_end line
  in_comment a line (byte ∷ bytes) =
      elim (class_of (letters a) byte) [
        | line_feed ↦ raw_lexemes a (line + 1) bytes
        | foreign_byte ↦ elim (has_any_comment (letters a)) [
          | true ↦ in_comment a line bytes
          | false ↦ last foreign line
        ]
        | _ ↦ in_comment a line bytes
      ]

  -- a string goes up to its second quote; where it has none, the first belongs to no lexeme
  pub in_string : Alphabet → ℕ → List ℕ → Lexemes
  in_string a line [] = last stray line
  in_string a line (byte ∷ bytes) =
      if byte == code "\"" then next (word (byte ∷ [])) line (raw_lexemes (later a) line bytes)
      else if is_string_part byte then put_before byte (in_string a line bytes)
      else last stray line

-- the lexemes of these bytes, of which the first byte stands on this line
unfoldable pub lexemes_of : Alphabet → ℕ → List ℕ → Lexemes
lexemes_of a line bytes = raw_lexemes a line bytes
