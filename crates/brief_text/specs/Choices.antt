-- The values that a byte may have where it is a choice, and the blocks that they are cut into. A block is 2^k values from a multiple
-- of 2^k on: in a plan the last k bits are open. `laws::choices_are_cut_into_the_fewest_blocks` says what is found so.
use Rattle.std.specs.Prelude.{◌≡◌, ℕ, zero, suc, ◌+◌, ◌-◌, ◌^◌, ◌≤◌, Bool, ◌&&◌, ◌||◌, not, ◌==◌, nat_le, nat_lt, List, [], ◌∷◌, ◌++◌, length, if◌then◌else◌}
use Rattle.std.specs.Prelude.{slice_get, unwrap_or, All, ◌<◌, ◌%◌}
use Rattle.std.specs.List.{list_any}
use Rattle.std.specs.Option.{option_map}
use Rattle.message_tree.specs.Bits.{bits_below}
use Rattle.message_tree.specs.declared.bits.Pattern.{Pattern}
use Rattle.brief_text.specs.Codes.{byte_of}
use Rattle.brief_text.specs.Trees.{Choice, span, all_but}
use Rattle.brief_text.specs.Words.{any_byte}
use Rattle.brief_text.specs.declared.syntax.Lengths.{Lengths}

-- this value is one of them
abbrev pub allows : Choice → ℕ → Bool
allows (span least greatest) value = nat_le least value && nat_le value greatest
allows (all_but least greatest) value = nat_lt value least || nat_lt greatest value

-- so many values from this one on, at least one, are all among them
abbrev pub allows_all : Choice → ℕ → ℕ → Bool
allows_all (span least greatest) first count = nat_le least first && nat_le (first + count) (greatest + 1)
allows_all (all_but least greatest) first count = nat_le (first + count) least || nat_lt greatest first

-- 2^power values from this one on
pub record Block : Type 0 where
  pub power : ℕ
  pub first : ℕ

-- the blocks of the choice among 2^k values from this one on: all of them as one, or those of both halves
unfoldable pub blocks_in : Choice → ℕ → ℕ → List Block
blocks_in choice zero first = if allows_all choice first 1 then record { power = 0; first = first } ∷ [] else []
blocks_in choice (suc k) first =
    if allows_all choice first (2 ^ suc k) then record { power = suc k; first = first } ∷ []
    else blocks_in choice k first ++ blocks_in choice k (first + 2 ^ k)

abbrev pub blocks : Choice → List Block
blocks choice = blocks_in choice 8 0

-- its last bits are open
abbrev pub block_bits : Block → Pattern
block_bits block = byte_of (bits_below 8 (256 - 2 ^ block.power) block.first)

-- the bits of the block with this number, from 1 on
abbrev pub chosen_bits : Choice → ℕ → Pattern
chosen_bits choice n = unwrap_or (option_map block_bits (slice_get (blocks choice) (n - 1))) any_byte

-- the numbers of the blocks
abbrev pub numbers : Choice → Lengths
numbers choice = record { least = 1; greatest = length (blocks choice) }

-- LO is not above HI, which is the value of a byte, and some value is left
abbrev pub is_choice : Choice → Bool
is_choice (span least greatest) = nat_le least greatest && nat_le greatest 255
is_choice (all_but least greatest) = nat_le least greatest && nat_le greatest 255 && not (least == 0 && greatest == 255)

-- ---- what blocks are

-- the value is in the block
abbrev pub holds : ℕ → Block → Bool
holds value block = nat_le block.first value && nat_lt value (block.first + 2 ^ block.power)

-- it begins at a multiple of its size, and has values of a byte
abbrev pub IsBlock : Block → Type 0
IsBlock block = (block.first % 2 ^ block.power ≡ 0) × (block.first + 2 ^ block.power ≤ 256)

-- these blocks have the values of the choice, and no others
abbrev pub Cuts : Choice → List Block → Type 0
Cuts choice cut = All IsBlock cut × ((value : ℕ) → value < 256 → list_any (holds value) cut ≡ allows choice value)

-- each begins behind the one before it
abbrev pub AreAscending : List Block → Type 0
AreAscending [] = Unit {0}
AreAscending (block ∷ []) = Unit {0}
AreAscending (block ∷ next ∷ rest) = (block.first < next.first) × AreAscending (next ∷ rest)
