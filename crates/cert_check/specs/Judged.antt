-- What the parts of `check_certificate` answer. Only private contracts and proofs use this.
use Rattle.std.specs.Prelude.{◌≡◌, ◌↔◌, ℕ, ◌-◌, ◌<◌, ◌^◌, min, List, [], ◌∷◌, ◌++◌, length, Option, Some, None}
use Rattle.std.specs.declared.alloc.Global.{Global}
use Rattle.std.specs.Prelude.{Vec, slice_get, Bool, IsTrue, IfSome, nat_lt, if◌then◌else◌}
use Rattle.certificate.specs.declared.lines.ProofLines.{ProofLines}
use Rattle.certificate.specs.Reading.{ReadSoFar}
use Rattle.certificate.specs.Texts.{SpellsLine}
use Rattle.plan_core.specs.SenderPlaces.{place, place_count}
use Rattle.certificate.specs.Proofs.{ProofTree}
use Rattle.plan_core.specs.Contents.{Contents}
use Rattle.plan_core.specs.Pairs.{pairs_of}
use Rattle.cert_check.specs.declared.memos.Memo.{Memo}
use Rattle.cert_check.specs.declared.tallies.Tally.{Tally}
use Rattle.cert_check.specs.Proved.{ProvesPair, FirstUnproved}

-- the first of these that does not prove its pair, among those that have a pair
abbrev pub FirstOf : Contents → List ProofTree → Option ℕ → Type 0
FirstOf plan trees None =
    (k : ℕ) (tree : ProofTree) → k < length (pairs_of plan) → slice_get trees k ≡ Some tree → ProvesPair plan k tree
FirstOf plan trees (Some i) = (i < length (pairs_of plan)) × FirstUnproved plan trees i

-- the tally of these proofs
pub record Tallies (plan : Contents) (trees : List ProofTree) (tally : Tally) : Type 0 where
  pub count : tally.proofs ≡ min (length trees) (2 ^ 64 - 1)
  pub unproved : FirstOf plan trees tally.unproved

-- the pair that the next proof is to prove, where there is one and each before is proved
abbrev pub next_after : ℕ → Option ℕ → ℕ → Option ℕ
next_after pairs (Some i) proofs = None
next_after pairs None proofs = if nat_lt proofs pairs then Some proofs else None

abbrev pub next_pair : Contents → Tally → Option ℕ
next_pair plan tally = next_after (length (pairs_of plan)) tally.unproved tally.proofs

-- whether the proof proves the pair that is next, if there is one
abbrev pub TellsNext : Contents → Tally → ProofTree → Bool → Type 0
TellsNext plan tally tree proves = IfSome (next_pair plan tally) (λ i. IsTrue proves ↔ ProvesPair plan i tree)

-- these bytes are the line of a proof, which proves each pair whose senders have this place
abbrev pub ProvesAt : Contents → ℕ → List ℕ → Type 0
ProvesAt plan k bytes =
    (tree : ProofTree) × SpellsLine bytes tree
    × ((i x y : ℕ) → slice_get (pairs_of plan) i ≡ Some (x, y) → place plan x y ≡ k → ProvesPair plan i tree)

-- what is remembered of two senders, at their place, is the line of a proof that proves them
pub record AreProved (plan : Contents) (lines : List (Option (Vec ℕ Global))) : Type 0 where
  pub sized : length lines ≡ place_count plan
  pub right : (k : ℕ) (line : Vec ℕ Global) → slice_get lines k ≡ Some (Some line) → ProvesAt plan k line.items

abbrev pub IsMemo : Contents → Memo → Type 0
IsMemo plan memo = AreProved plan memo.lines.items

-- one more proof has been read and counted
abbrev pub AddsOne : Contents → ProofLines × Tally → ProofLines × Tally → Type 0
AddsOne plan old new =
    (text : List ℕ) (trees : List ProofTree) → ReadSoFar text trees old.0 → Tallies plan trees old.1 →
    (tree : ProofTree) × ReadSoFar text (trees ++ tree ∷ []) new.0 × Tallies plan (trees ++ tree ∷ []) new.1

-- nothing has been read
abbrev pub Stays : ProofLines × Tally → ProofLines × Tally → Type 0
Stays old new = (new.0 ≡ old.0) × (new.1 ≡ old.1)
