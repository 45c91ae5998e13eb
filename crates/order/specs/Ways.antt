-- Who may win between two participants of a plan who start alone (UM10204, 3.1.8).
use Rattle.std.specs.Prelude.{◌≡◌, ℕ, Option, Some, None, List, length, slice_get}
use Rattle.arbitration.specs.declared.spans.Outcomes.{Outcomes}
use Rattle.arbitration.specs.Laws.{EndsAt, BeatsAt}
use Rattle.arbitration.specs.Spans.{IsSpan}
use Rattle.plan_core.specs.Contents.{Contents}
use Rattle.plan_core.specs.Faults.{IsFaulty}
use Rattle.plan_core.specs.Lawful.{pair}
use Rattle.plan_core.specs.Pairs.{pairs_of}

-- the two have no fault, and of the slots in which both may end these are the earliest and the latest; of those in which x may
-- beat y; and of those in which y may beat x
pub record AreOutcomes (plan : Contents) (x y : ℕ) (outcomes : Outcomes) : Type 0 where
  pub no_fault : IsFaulty plan (pair x y) → ⊥
  pub both : IsSpan (EndsAt plan x y) outcomes.both
  pub first : IsSpan (BeatsAt plan (pair x y) x y) outcomes.first
  pub second : IsSpan (BeatsAt plan (pair x y) y x) outcomes.second

-- these are their outcomes, or the two have a fault
abbrev pub IsWay : Contents → ℕ → ℕ → Option Outcomes → Type 0
IsWay plan x y (Some outcomes) = AreOutcomes plan x y outcomes
IsWay plan x y None = IsFaulty plan (pair x y)

abbrev pub AreWaysOf : Contents → List (Option Outcomes) → Type 0
AreWaysOf plan ways =
    (i x y : ℕ) (way : Option Outcomes) → slice_get ways i ≡ Some way → slice_get (pairs_of plan) i ≡ Some (x, y) →
    IsWay plan x y way

-- one for each pair of the plan
pub record AreWays (plan : Contents) (ways : List (Option Outcomes)) : Type 0 where
  pub each : AreWaysOf plan ways
  pub whole : length ways ≡ length (pairs_of plan)
