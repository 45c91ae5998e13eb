-- Which bits may be sent as 0, and which as 1. Only private contracts and proofs use this.
use Rattle.std.specs.Prelude.{◌≡◌, ℕ, ◌<◌, ◌↔◌, Bool, true, false, Some, List, length, slice_get}
use Rattle.std.specs.Int.{bit_at}
use Rattle.message_tree.specs.declared.bits.Bit.{Bit}
use Rattle.message_tree.specs.Texts.{Allows}
use Rattle.arbitration.specs.declared.bits.Choices.{Choices}

-- the digit of value 2 to the power k is 1
abbrev pub HasDigit : ℕ → ℕ → Type 0
HasDigit digits k = bit_at digits k ≡ 1

-- the bit at place k may be sent so
abbrev pub MayBe : List Bit → Bool → ℕ → Type 0
MayBe bs value k = (b : Bit) × (slice_get bs k ≡ Some b) × Allows b value

pub record AreChoices (bs : List Bit) (choices : Choices) : Type 0 where
  pub eight : length bs ≡ 8
  pub zero : (k : ℕ) → HasDigit choices.zero k ↔ MayBe bs false k
  pub one : (k : ℕ) → HasDigit choices.one k ↔ MayBe bs true k

-- none of these places is before k
abbrev pub IsBefore : ℕ → ℕ → Type 0
IsBefore places k = (j : ℕ) → j < k → HasDigit places j → ⊥
