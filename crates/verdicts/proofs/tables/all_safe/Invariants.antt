use Rattle.std.proofs.Common.{◌≡◌, ℕ, ◌<◌, Some, slice_get}
use Rattle.pair_walk.specs.declared.walk_pair.Verdict.{Verdict}
use Rattle.verdicts.specs.Verdicts.{IsSafeOutcome}
use Rattle.verdicts.proofs.tables.all_safe.Given as goal

-- those so far are safe
abbrev pub invariant-loop-verdict : goal.invariant-loop-verdict
invariant-loop-verdict l = (k : ℕ) (v : Verdict) → k < l.verdict-index → slice_get l.verdicts k ≡ Some v → IsSafeOutcome v.outcome
