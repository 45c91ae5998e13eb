-- How a line of the bus is found among the signals of a dump (IEEE 1364-2005, 18.2.3: `$var` gives a signal a reference
-- and an identifier code).
use Rattle.std.specs.Prelude.{ℕ, Bool, ◌&&◌, List}
use Rattle.std.specs.Str.{bytes_eq}

-- a signal of one bit that has this reference, or this identifier code; or one bit of the signal that has this identifier
-- code, however many bits it has: the one that stands so many places to the left of the rightmost
pub data Finder : Type 0 where
  by_name : (name : List ℕ) → Finder
  by_code : (code : List ℕ) → Finder
  by_bit : (code : List ℕ) (place : ℕ) → Finder

-- Whether a `$var` is one of the signal: whether it has one bit, and its reference and its code.
abbrev pub declares : Finder → (one_bit : Bool) (reference code : List ℕ) → Bool
declares (by_name name) one_bit reference code = one_bit && bytes_eq reference name
declares (by_code own) one_bit reference code = one_bit && bytes_eq code own
declares (by_bit own place) one_bit reference code = bytes_eq code own

-- how many places to the left of the rightmost digit of a vector that of the line stands
abbrev pub place_of : Finder → ℕ
place_of (by_name name) = 0
place_of (by_code own) = 0
place_of (by_bit own place) = place

-- the token of a `$var` by which the signal is found
abbrev pub word_of : Finder → List ℕ
word_of (by_name name) = name
word_of (by_code own) = own
word_of (by_bit own place) = own
