-- The verdicts of all pairs of a plan, in their order.
use Rattle.std.specs.Prelude.{◌≡◌, ℕ, List, length, Some, slice_get}
use Rattle.pair_walk.specs.declared.walk_pair.Outcome.{Outcome}
use Rattle.pair_walk.specs.declared.walk_pair.Outcome.TheVariants.{Safe, Unsafe}
use Rattle.pair_walk.specs.declared.walk_pair.Verdict.{Verdict}
use Rattle.pair_walk.specs.Verdicts.{IsVerdict}
use Rattle.plan_core.specs.Contents.{Contents}
use Rattle.plan_core.specs.Pairs.{pairs_of}

-- each of these is the verdict of the pair with its place, and carries its number
abbrev pub AreVerdictsOf : Contents → List Verdict → Type 0
AreVerdictsOf plan verdicts =
    (i x y : ℕ) (v : Verdict) → slice_get verdicts i ≡ Some v → slice_get (pairs_of plan) i ≡ Some (x, y) →
    (v.pair ≡ i) × IsVerdict plan x y v.outcome

-- one for each pair of the plan
pub record AreVerdicts (plan : Contents) (verdicts : List Verdict) : Type 0 where
  pub each : AreVerdictsOf plan verdicts
  pub whole : length verdicts ≡ length (pairs_of plan)

abbrev pub IsSafeOutcome : Outcome → Type 0
IsSafeOutcome (Safe cert) = Unit {0}
IsSafeOutcome (Unsafe fault) = ⊥

-- each is safe
abbrev pub AreSafe : List Verdict → Type 0
AreSafe verdicts = (i : ℕ) (v : Verdict) → slice_get verdicts i ≡ Some v → IsSafeOutcome v.outcome
