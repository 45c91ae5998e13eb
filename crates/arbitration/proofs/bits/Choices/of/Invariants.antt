use Rattle.std.proofs.Common.{ℕ, ◌<◌, ◌↔◌, true, false}
use Rattle.arbitration.specs.Choices.{HasDigit, MayBe}
use Rattle.arbitration.proofs.bits.Choices.of.Given as goal

abbrev pub invariant-loop-k : goal.invariant-loop-k
invariant-loop-k l =
    record {
      zero : (j : ℕ) → HasDigit l.zero j ↔ ((j < l.k) × MayBe l.bits false j);
      one : (j : ℕ) → HasDigit l.one j ↔ ((j < l.k) × MayBe l.bits true j);
    }
