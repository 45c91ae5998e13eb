-- What a word says by itself: an address or a data byte, in base 2 after `0b`, in base 16 after `0x`; a number or a range
-- after `*`; and a label.
use Rattle.std.specs.Prelude.{ℕ, ◌+◌, ◌*◌, Bool, true, false, ◌&&◌, not, ◌==◌, nat_le, nat_lt, List, [], ◌∷◌, ◌++◌, length, map, take, drop}
use Rattle.std.specs.Prelude.{Option, Some, None, codes, if◌then◌else◌}
use Rattle.std.specs.Char.{digit_value}
use Rattle.std.specs.List.{prefix_len}
use Rattle.message_tree.specs.Bits.{bits_below}
use Rattle.message_tree.specs.Codes.{code}
use Rattle.message_tree.specs.Patterns.{pattern_bits}
use Rattle.message_tree.specs.declared.bits.Address.{Address}
use Rattle.message_tree.specs.declared.bits.Bit.{Bit}
use Rattle.message_tree.specs.declared.bits.Bit.TheVariants.{Zero, One, Either}
use Rattle.message_tree.specs.declared.bits.Pattern.{Pattern}
use Rattle.plan_text.specs.Symbols.{bit_symbol}
use Rattle.plan_core.specs.Names.{is_name}
use Rattle.plan_text.specs.Values.{address_of, pattern_of, pattern_by}
use Rattle.plan_text.specs.Words.{is_digits, number, around_dots}
use Rattle.lexer.specs.declared.lexemes.Letters.{Letters}
use Rattle.lexer.specs.declared.lexemes.Letters.TheVariants.{Board}
use Rattle.brief_tokens.specs.Names.{is_brief_word, is_board_word}
use Rattle.brief_text.specs.Trees.{Side}

-- the four bits of a digit, as a plan text has them: those of `X` are open
unfoldable pub digit_bits : ℕ → Option (List ℕ)
digit_bits byte =
    if byte == code "X" then Some (codes "xxxx")
    else if nat_lt (digit_value byte) 16 then Some (map bit_symbol (bits_below 4 15 (digit_value byte)))
    else None

abbrev pub both : Option (List ℕ) → Option (List ℕ) → Option (List ℕ)
both (Some high) (Some low) = Some (high ++ low)
both high low = None

-- the eight bits of two digits
abbrev pub hex_bits : List ℕ → Option (List ℕ)
hex_bits (high ∷ low ∷ []) = both (digit_bits high) (digit_bits low)
hex_bits digits = None

-- a data byte has all eight bits
abbrev pub eight_bits : Option (List ℕ) → Option Pattern
eight_bits (Some bits) = pattern_of bits
eight_bits None = None

-- an address has the last seven, and the first is no 1
abbrev pub seven_bits : Option (List ℕ) → Option Address
seven_bits (Some (first ∷ bits)) = if first == code "1" then None else address_of bits
seven_bits bits = None

abbrev pub is_base_2 : ℕ → ℕ → Bool
is_base_2 first second = first == code "0" && second == code "b"

abbrev pub is_base_16 : ℕ → ℕ → Bool
is_base_16 first second = first == code "0" && second == code "x"

-- the data byte that a word spells out
unfoldable pub data_by : List ℕ → Option Pattern
data_by (first ∷ second ∷ rest) =
    if is_base_2 first second then pattern_of rest
    else if is_base_16 first second then eight_bits (hex_bits rest)
    else None
data_by bytes = None

-- the address that a word spells out
unfoldable pub address_by : List ℕ → Option Address
address_by (first ∷ second ∷ rest) =
    if is_base_2 first second then address_of rest
    else if is_base_16 first second then seven_bits (hex_bits rest)
    else None
address_by bytes = None

-- eight open bits
abbrev pub any_byte : Pattern
any_byte = pattern_by 0 0

-- the number that these bits make up after n, where all of them are known
abbrev pub known_number : ℕ → List Bit → Option ℕ
known_number n [] = Some n
known_number n (Zero ∷ bits) = known_number (n * 2) bits
known_number n (One ∷ bits) = known_number (n * 2 + 1) bits
known_number n (Either ∷ bits) = None

-- the number of a data byte that a word spells out, where all its bits are known
abbrev pub known_bits : Option Pattern → Option ℕ
known_bits (Some bits) = known_number 0 (pattern_bits bits)
known_bits None = None

abbrev pub known_byte_by : List ℕ → Option ℕ
known_byte_by bytes = known_bits (data_by bytes)

-- ---- repetitions

-- what stands after `*`: a number, or LO and HI around `..`
pub data Repetition : Type 0 where
  so_often : (n : ℕ) → Repetition
  from_to : (least greatest : ℕ) → Repetition

abbrev pub range_by : Option (List ℕ × List ℕ) → Option Repetition
range_by (Some ends) =
    if is_digits ends.0 && is_digits ends.1 then Some (from_to (number ends.0) (number ends.1)) else None
range_by None = None

unfoldable pub repetition_by : List ℕ → Option Repetition
repetition_by bytes = if is_digits bytes then Some (so_often (number bytes)) else range_by (around_dots bytes)

-- a byte stands 1 to 255 times
abbrev pub is_countable : ℕ → Bool
is_countable n = nat_le 1 n && nat_le n 255

-- LO may be 0
abbrev pub is_range : ℕ → ℕ → Bool
is_range least greatest = is_countable greatest && nat_le least greatest

-- ---- labels

-- a word of the second version is a name in the first
abbrev pub is_further_word : Letters → List ℕ → Bool
is_further_word Board bytes = is_board_word bytes
is_further_word letters bytes = false

-- a name of briefs with these letters
abbrev pub is_brief_name : Letters → List ℕ → Bool
is_brief_name letters bytes = is_name bytes && not (is_brief_word bytes) && not (is_further_word letters bytes)

abbrev pub is_no_slash : ℕ → Bool
is_no_slash byte = not (byte == code "/")

abbrev pub halves_at : ℕ → List ℕ → Option (List ℕ × List ℕ)
halves_at slash bytes = if nat_lt slash (length bytes) then Some (take slash bytes, drop (slash + 1) bytes) else None

-- what stands before and after the first `/`
unfoldable pub around_slash : List ℕ → Option (List ℕ × List ℕ)
around_slash bytes = halves_at (prefix_len is_no_slash bytes) bytes

-- what a `never` names: a controller by its name, or what it sends by a label of 32 characters at most
abbrev pub whole_side : Bool → List ℕ → Option Side
whole_side true name = Some (record { controller = name; label = None })
whole_side false name = None

abbrev pub label_side : Bool → List ℕ × List ℕ → Option Side
label_side true halves = Some (record { controller = halves.0; label = Some halves.1 })
label_side false halves = None

abbrev pub side_from : Letters → Option (List ℕ × List ℕ) → List ℕ → Option Side
side_from letters None bytes = whole_side (is_name bytes) bytes
side_from letters (Some halves) bytes =
    label_side (nat_le (length bytes) 32 && is_brief_name letters halves.0 && is_brief_name letters halves.1) halves

unfoldable pub side_by : Letters → List ℕ → Option Side
side_by letters bytes = side_from letters (around_slash bytes) bytes
