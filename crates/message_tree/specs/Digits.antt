-- The highest 1 among the digits of a number.
-- Only private contracts and proofs use this.
use Rattle.std.specs.Prelude.{◌≡◌, ℕ, ◌-◌, ◌+◌, ◌<◌}
use Rattle.std.specs.Int.{bit_at}

-- k places down from the highest of the width low digits is the highest 1
pub record IsHighestOne (width digits k : ℕ) : Type 0 where
  pub within : k < width
  pub one : bit_at digits (width - (k + 1)) ≡ 1
  pub zeros : (j : ℕ) → j < k → bit_at digits (width - (j + 1)) ≡ 0
