-- The form of a name in a plan, by its bytes.
use Rattle.std.specs.Prelude.{◌≡◌, ℕ, Bool, true, false, ◌&&◌, ◌||◌, ◌==◌, not, nat_le, List, [], ◌∷◌, length, codes}
use Rattle.std.specs.Char.{is_ascii_alphabetic, is_ascii_alphanumeric}
use Rattle.std.specs.List.{list_all, list_any}
use Rattle.std.specs.Str.{bytes_eq}
use Rattle.message_tree.specs.Codes.{code}

-- the words that the plan's text keeps for itself
abbrev pub reserved_words : List (List ℕ)
reserved_words =
    codes "plan" ∷ codes "message" ∷ codes "controller" ∷ codes "interrupt" ∷ codes "write" ∷ codes "read" ∷
    codes "again" ∷ codes "else" ∷ codes "stop" ∷ codes "never" ∷ []

abbrev pub is_reserved : List ℕ → Bool
is_reserved bytes = list_any (bytes_eq bytes) reserved_words

-- the first byte is an ASCII letter, and there is one
abbrev pub begins_with_letter : List ℕ → Bool
begins_with_letter [] = false
begins_with_letter (byte ∷ bytes) = is_ascii_alphabetic byte

-- an ASCII letter, a digit or `_`
abbrev pub is_name_byte : ℕ → Bool
is_name_byte byte = is_ascii_alphanumeric byte || byte == code "_"

-- a letter, then letters, digits and `_`, of 1 to 32 bytes, and no reserved word
unfoldable pub is_name : List ℕ → Bool
is_name bytes =
    begins_with_letter bytes && list_all is_name_byte bytes && nat_le (length bytes) 32 && not (is_reserved bytes)

abbrev pub IsName : List ℕ → Type 0
IsName bytes = is_name bytes ≡ true
