-- What is known of the pairs of a plan, kept at the places of their senders.
-- Only private contracts and proofs use this.
use Rattle.std.specs.Prelude.{◌≡◌, ℕ, ◌<◌, Option, Some, None, List, length, slice_get}
use Rattle.certificate.specs.declared.values.Fault.{Fault}
use Rattle.pair_walk.specs.Verdicts.{IsFirstFaultIfAny}
use Rattle.plan_core.specs.Contents.{Contents}
use Rattle.plan_core.specs.Pairs.{pairs_of}
use Rattle.plan_core.specs.SenderPlaces.{place, place_count}
use Rattle.verdicts.specs.declared.known.Known.{Known}
use Rattle.verdicts.specs.declared.known.Known.TheVariants.{NotYet, Safe, Unsafe}

abbrev pub known_as : Option Fault → Known
known_as None = Safe
known_as (Some fault) = Unsafe fault

-- what is known of a pair is its first fault, or that it has none
abbrev pub IsKnown : Contents → ℕ → ℕ → Known → Type 0
IsKnown plan x y NotYet = ⊥
IsKnown plan x y Safe = IsFirstFaultIfAny plan x y None
IsKnown plan x y (Unsafe fault) = IsFirstFaultIfAny plan x y (Some fault)

abbrev pub IsKnownIfAny : Contents → ℕ → ℕ → Known → Type 0
IsKnownIfAny plan x y NotYet = Unit {0}
IsKnownIfAny plan x y known = IsKnown plan x y known

-- whatever is known of a pair is right
pub record IsMemo (plan : Contents) (known : List Known) : Type 0 where
  pub sized : length known ≡ place_count plan
  pub right : (i x y : ℕ) (k : Known) → slice_get (pairs_of plan) i ≡ Some (x, y) →
      slice_get known (place plan x y) ≡ Some k → IsKnownIfAny plan x y k

-- it is known what pair i comes to
abbrev pub KnowsPair : Contents → List Known → ℕ → Type 0
KnowsPair plan known i =
    (x y : ℕ) → slice_get (pairs_of plan) i ≡ Some (x, y) →
    (k : Known) × (slice_get known (place plan x y) ≡ Some k) × IsKnown plan x y k

-- it is known of the first n pairs
abbrev pub KnowsPairs : Contents → List Known → ℕ → Type 0
KnowsPairs plan known n = (i : ℕ) → i < n → KnowsPair plan known i
