-- The lines of proofs, kept at the places of the senders whose proofs they are.
-- Only private contracts and proofs use this.
use Rattle.std.specs.Prelude.{◌≡◌, ◌⊎◌, ℕ, ◌<◌, Some, List, [], Vec, length, slice_get}
use Rattle.std.specs.declared.alloc.Global.{Global}
use Rattle.certificate.specs.Proofs.{ProofTree}
use Rattle.certificate.specs.Texts.{proof_line}
use Rattle.pair_walk.specs.Verdicts.{IsSafeProof}
use Rattle.plan_core.specs.Contents.{Contents}
use Rattle.plan_core.specs.Pairs.{pairs_of}
use Rattle.plan_core.specs.SenderPlaces.{place, place_count}

-- the line of the proof that the verdict of x and y gives
abbrev pub IsProofLine : Contents → ℕ → ℕ → List ℕ → Type 0
IsProofLine plan x y line = (p : ProofTree) × IsSafeProof plan x y p × (line ≡ proof_line p)

-- each line that is made is that of the pairs whose place it has
pub record AreLines (plan : Contents) (lines : List (Vec ℕ Global)) : Type 0 where
  pub sized : length lines ≡ place_count plan
  pub right : (i x y : ℕ) (line : Vec ℕ Global) → slice_get (pairs_of plan) i ≡ Some (x, y) →
      slice_get lines (place plan x y) ≡ Some line → (line.items ≡ []) ⊎ IsProofLine plan x y line.items

-- the line of pair i is made
abbrev pub HasLine : Contents → List (Vec ℕ Global) → ℕ → Type 0
HasLine plan lines i =
    (x y : ℕ) → slice_get (pairs_of plan) i ≡ Some (x, y) →
    (line : Vec ℕ Global) × (slice_get lines (place plan x y) ≡ Some line) × IsProofLine plan x y line.items

-- the lines of the first n pairs are made
abbrev pub HaveLines : Contents → List (Vec ℕ Global) → ℕ → Type 0
HaveLines plan lines n = (i : ℕ) → i < n → HasLine plan lines i
