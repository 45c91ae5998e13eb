-- The words of patterns, addresses and counts.
use Rattle.std.specs.Prelude.{◌≡◌, ℕ, Bool, false, ◌&&◌, ◌||◌, ◌==◌, nat_le, List, [], ◌∷◌, length, Option, Some, None}
use Rattle.std.specs.Prelude.{if◌then◌else◌}
use Rattle.std.specs.Char.{is_ascii_digit}
use Rattle.std.specs.List.{list_all}
use Rattle.std.specs.Str.Parse.{digits_value}
use Rattle.message_tree.specs.Codes.{code}
use Rattle.message_tree.specs.declared.counts.Count.{Count}
use Rattle.message_tree.specs.Counts.{least_of, greatest_of}

-- `0`, `1` or `x`
abbrev pub is_bit : ℕ → Bool
is_bit byte = byte == code "0" || byte == code "1" || byte == code "x"

-- n characters, each `0`, `1` or `x`
abbrev pub is_pattern : ℕ → List ℕ → Bool
is_pattern n bytes = length bytes == n && list_all is_bit bytes

abbrev pub is_known_bit : ℕ → Bool
is_known_bit byte = byte == code "0" || byte == code "1"

-- seven characters, each `0` or `1`
abbrev pub is_known_address : List ℕ → Bool
is_known_address bytes = length bytes == 7 && list_all is_known_bit bytes

-- digits alone, and at least one
abbrev pub is_digits : List ℕ → Bool
is_digits [] = false
is_digits (byte ∷ bytes) = is_ascii_digit byte && list_all is_ascii_digit bytes

abbrev add_front : ℕ → Option (List ℕ × List ℕ) → Option (List ℕ × List ℕ)
add_front byte (Some parts) = Some (byte ∷ parts.0, parts.1)
add_front byte None = None

-- what stands before and after the first `.`, where another `.` follows it directly
abbrev pub around_dots : List ℕ → Option (List ℕ × List ℕ)
around_dots [] = None
around_dots (byte ∷ []) = None
around_dots (byte ∷ second ∷ bytes) =
    if byte == code "." then (if second == code "." then Some ([], bytes) else None)
    else add_front byte (around_dots (second ∷ bytes))

abbrev both_digits : Option (List ℕ × List ℕ) → Option (List ℕ × List ℕ)
both_digits (Some ends) = if is_digits ends.0 && is_digits ends.1 then Some ends else None
both_digits None = None

-- The two ends of a count as they are written: digits alone are both ends, or they stand before and after `..`.
unfoldable pub count_ends : List ℕ → Option (List ℕ × List ℕ)
count_ends bytes = if is_digits bytes then Some (bytes, bytes) else both_digits (around_dots bytes)

-- the number that digits write
abbrev pub number : List ℕ → ℕ
number digits = digits_value 10 digits

-- whether both ends are 1 to 255, the first not greater than the second
abbrev pub in_range : List ℕ × List ℕ → Bool
in_range ends = nat_le 1 (number ends.0) && nat_le (number ends.0) (number ends.1) && nat_le (number ends.1) 255

-- the word writes this count, which is 1 to 255 at both ends, the first not greater than the second, as every count is
pub record WritesCount (bytes : List ℕ) (count : Count) : Type 0 where
  pub ends : List ℕ × List ℕ
  pub form : count_ends bytes ≡ Some ends
  pub least : number ends.0 ≡ least_of count
  pub greatest : number ends.1 ≡ greatest_of count
