-- The bits of a byte on the bus, in the order in which they are sent: the most significant first
-- (UM10204, 3.1.5).
use Rattle.std.specs.Prelude.{◌≡◌, ℕ, suc, zero, ◌<◌, ◌⊎◌, List, [], ◌∷◌, Some, slice_get}
use Rattle.std.specs.Int.{bit_at}
use Rattle.message_tree.specs.declared.bits.Bit.{Bit}
use Rattle.message_tree.specs.declared.bits.Bit.TheVariants.{Zero, One, Either}

-- a bit by two digits: whether it is known, and its value where it is
abbrev pub bit_from : ℕ → ℕ → Bit
bit_from zero value = Either
bit_from (suc n) zero = Zero
bit_from (suc n) (suc v) = One

-- the n low bits of a byte of which some are known, the highest first
abbrev pub bits_below : ℕ → ℕ → ℕ → List Bit
bits_below zero known value = []
bits_below (suc n) known value = bit_from (bit_at known n) (bit_at value n) ∷ bits_below n known value

-- the bit at place k is known in both, and different
abbrev pub SplitAt : List Bit → List Bit → ℕ → Type 0
SplitAt xs ys k =
    ((slice_get xs k ≡ Some Zero) × (slice_get ys k ≡ Some One)) ⊎
    ((slice_get xs k ≡ Some One) × (slice_get ys k ≡ Some Zero))

-- k is the first such place
pub record IsFirstSplit (xs ys : List Bit) (k : ℕ) : Type 0 where
  pub splits : SplitAt xs ys k
  pub first : (j : ℕ) → j < k → SplitAt xs ys j → ⊥

-- there is no such place
abbrev pub NeverSplit : List Bit → List Bit → Type 0
NeverSplit xs ys = (k : ℕ) → SplitAt xs ys k → ⊥
