-- For each place of two senders, a pair of them.
-- Only private contracts and proofs use this.
use Rattle.std.specs.Prelude.{◌≡◌, ℕ, ◌<◌, Option, Some, List, length, slice_get}
use Rattle.plan_core.specs.Contents.{Contents}
use Rattle.plan_core.specs.Pairs.{pairs_of}
use Rattle.verdicts.specs.Known.{IsKnown}
use Rattle.plan_core.specs.SenderPlaces.{place, place_count}
use Rattle.verdicts.specs.declared.known.Known.{Known}

-- the senders of pair i have this place
pub record IsPairAt (plan : Contents) (i k : ℕ) : Type 0 where
  pub is_pair : i < length (pairs_of plan)
  pub at : (x y : ℕ) → slice_get (pairs_of plan) i ≡ Some (x, y) → place plan x y ≡ k

-- what stands at a place is a pair whose senders have this place, and there is one for each of the first n pairs
pub record AreSamples (plan : Contents) (samples : List (Option ℕ)) (n : ℕ) : Type 0 where
  pub sized : length samples ≡ place_count plan
  pub right : (k i : ℕ) → slice_get samples k ≡ Some (Some i) → IsPairAt plan i k
  pub covers : (i x y : ℕ) → i < n → slice_get (pairs_of plan) i ≡ Some (x, y) →
      (j : ℕ) × (slice_get samples (place plan x y) ≡ Some (Some j))

-- if a pair stands at place k, this is known of it
abbrev pub IsKnownAt : Contents → List (Option ℕ) → ℕ → Known → Type 0
IsKnownAt plan samples k known =
    (i x y : ℕ) → slice_get samples k ≡ Some (Some i) → slice_get (pairs_of plan) i ≡ Some (x, y) →
    IsKnown plan x y known
