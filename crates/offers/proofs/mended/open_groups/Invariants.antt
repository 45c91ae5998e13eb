use Rattle.std.proofs.Common.{◌≡◌, ℕ, ◌<◌, Some, true, slice_get}
use Rattle.offers.specs.Open.{IsClosed}
use Rattle.offers.proofs.mended.open_groups.Given as goal

-- no group is closed of which one of the first pairs is left
abbrev pub invariant-loop-k : goal.invariant-loop-k
invariant-loop-k l =
    (k g : ℕ) → k < l.k → slice_get l.numbers k ≡ Some g → slice_get l.left k ≡ Some true → IsClosed l.flags.items g → ⊥
