-- The tokens of a dump, each with its line (IEEE 1364-2005, 18.2.1: the file is free-format, its tokens are separated
-- by white space). A line is one more than the number of line feeds before the token.
use Rattle.std.specs.Prelude.{ℕ, ◌+◌, ◌-◌, ◌^◌, min, Bool, true, false, ◌&&◌, ◌||◌, ◌==◌, nat_le, List, [], ◌∷◌}
use Rattle.std.specs.Prelude.{if◌then◌else◌}

-- bytes 9 to 13 (tab, line feed, vertical tab, form feed, carriage return) and the space
abbrev pub is_white : ℕ → Bool
is_white byte = (nat_le 9 byte && nat_le byte 13) || byte == 32

-- the line of what stands after this byte, where the byte stands on this line; lines are counted up to 2 ^ 64 - 1
abbrev pub line_after : ℕ → ℕ → ℕ
line_after line byte = if byte == 10 then min (line + 1) (2 ^ 64 - 1) else line

-- the bytes of a token, and its line
pub record Token : Type 0 where
  pub bytes : List ℕ
  pub line : ℕ

-- whether a token that stands before these bytes ends there
abbrev pub ends_before : List ℕ → Bool
ends_before [] = true
ends_before (byte ∷ bytes) = is_white byte

-- One more byte in front of the first token. (It is used only where a token follows directly.)
abbrev pub put_before : ℕ → List Token → List Token
put_before byte [] = []
put_before byte (token ∷ tokens) = record token { bytes = byte ∷ token.bytes } ∷ tokens

-- The tokens of the bytes from this line on: the maximal runs of bytes that are not white space. The last may end with
-- the text.
abbrev pub tokens_of : ℕ → List ℕ → List Token
tokens_of line [] = []
tokens_of line (byte ∷ bytes) =
    if is_white byte then tokens_of (line_after line byte) bytes
    else if ends_before bytes then record { bytes = byte ∷ []; line = line } ∷ tokens_of line bytes
    else put_before byte (tokens_of line bytes)

abbrev pub has_white : List ℕ → Bool
has_white [] = false
has_white (byte ∷ bytes) = is_white byte || has_white bytes

-- What stands up to the last white space, and that. In a dump that goes on, the tokens of this part have come to their
-- end.
abbrev pub up_to_white : List ℕ → List ℕ
up_to_white [] = []
up_to_white (byte ∷ bytes) = if has_white (byte ∷ bytes) then byte ∷ up_to_white bytes else []
