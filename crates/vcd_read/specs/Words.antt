-- What a single token of a dump says (IEEE 1364-2005, 18.2.1 and 18.2.3).
use Rattle.std.specs.Prelude.{ℕ, ◌+◌, ◌-◌, ◌*◌, ◌^◌, Bool, true, false, ◌&&◌, ◌||◌, ◌==◌, nat_lt, nat_le, not, List, []}
use Rattle.std.specs.Prelude.{◌∷◌, length, get_or, Option, Some, None, is_some, codes, if◌then◌else◌}
use Rattle.std.specs.List.{list_all}
use Rattle.std.specs.Str.{bytes_eq}
use Rattle.vcd_read.specs.declared.samples.Level.{Level}
use Rattle.vcd_read.specs.declared.samples.Level.TheVariants.{Low, High, Unknown}
use Rattle.vcd_read.specs.declared.words.Command.{Command}
use Rattle.vcd_read.specs.declared.words.Command.TheVariants.{Var, EndDefinitions, Changes, End, Other}

abbrev pub is_empty : List ℕ → Bool
is_empty [] = true
is_empty (byte ∷ bytes) = false

-- the words that have a meaning here, as whole tokens
abbrev pub named_command : List ℕ → Command
named_command token =
    if bytes_eq token (codes "$end") then End
    else if bytes_eq token (codes "$var") then Var
    else if bytes_eq token (codes "$enddefinitions") then EndDefinitions
    else if bytes_eq token (codes "$dumpvars") then Changes
    else if bytes_eq token (codes "$dumpall") then Changes
    else if bytes_eq token (codes "$dumpoff") then Changes
    else if bytes_eq token (codes "$dumpon") then Changes
    else Other

-- The command that a token is: each token that begins with `$` is one.
abbrev pub command_of : List ℕ → Option Command
command_of [] = None
command_of (byte ∷ bytes) = if byte == 36 then Some (named_command (byte ∷ bytes)) else None

-- whether a token is `$end`
abbrev pub is_end : List ℕ → Bool
is_end token = bytes_eq token (codes "$end")

-- The level that a value `0`, `1`, `x`, `X`, `z` or `Z` stands for: a line that nobody pulls is high.
abbrev pub level_of : ℕ → Option Level
level_of value =
    if value == 48 then Some Low
    else if value == 49 || value == 122 || value == 90 then Some High
    else if value == 120 || value == 88 then Some Unknown
    else None

abbrev pub is_value : ℕ → Bool
is_value digit = is_some (level_of digit)

-- the digits of a vector change: one at least, and each a value
abbrev pub is_vector : List ℕ → Bool
is_vector digits = not (is_empty digits) && list_all is_value digits

abbrev pub level_or_unknown : Option Level → Level
level_or_unknown None = Unknown
level_or_unknown (Some level) = level

-- The level of each bit to the left of the digits, which are fewer than the bits of the signal: a 0 stands there where the
-- leftmost digit is 0 or 1, and else that digit once more (18.2.1: left-extending vector values).
abbrev pub extended : List ℕ → Level
extended [] = Unknown
extended (digit ∷ digits) = if digit == 49 then Low else level_or_unknown (level_of digit)

-- what the digits of a vector change say of the bit that stands so many places to the left of the rightmost
abbrev pub level_at : ℕ → List ℕ → Level
level_at place digits =
    if nat_lt place (length digits) then level_or_unknown (level_of (get_or digits (length digits - 1 - place) 0))
    else extended digits

-- an identifier code is one or more characters from `!` to `~`
abbrev pub is_code_byte : ℕ → Bool
is_code_byte byte = nat_le 33 byte && nat_le byte 126

abbrev pub is_code : List ℕ → Bool
is_code bytes = not (is_empty bytes) && list_all is_code_byte bytes

-- bytes as digits to the base 256, the first one lowest
abbrev pub bytes_number : List ℕ → ℕ
bytes_number [] = 0
bytes_number (byte ∷ bytes) = byte + 256 * bytes_number bytes

-- The number of an identifier code of at most three characters. 0 stands for a longer one, and for what is no code.
abbrev pub code_number : List ℕ → ℕ
code_number code = if is_code code && nat_le (length code) 3 then bytes_number code else 0

-- the level that `0` or `1` stands for
abbrev pub binary_level_of : ℕ → Option Level
binary_level_of value = if value == 48 then Some Low else if value == 49 then Some High else None

abbrev pub is_digit : ℕ → Bool
is_digit byte = nat_le 48 byte && nat_le byte 57

-- The number that the digits write after a number.
abbrev pub number_from : ℕ → List ℕ → Option ℕ
number_from number [] = Some number
number_from number (digit ∷ digits) =
    if is_digit digit then number_from (number * 10 + (digit - 48)) digits else None

abbrev pub below_limit : Option ℕ → Option ℕ
below_limit None = None
below_limit (Some number) = if nat_lt number (2 ^ 64) then Some number else None

-- the time that one or more digits write, below 2 ^ 64; leading zeros are allowed
abbrev pub time_of : List ℕ → Option ℕ
time_of digits = if is_empty digits then None else below_limit (number_from 0 digits)
