-- Lines that are remembered: a proof of two senders is one of each pair of them.
use Rattle.std.proofs.Common.{◌≡◌, ℕ, ◌<◌, Option, Some, List, Vec, Global, length, set, slice_get, ap, sym, ◌∙◌, subst, arith, inl, inr}
use Rattle.std.proofs.lemmas.Bool.{cases_eq}
use Rattle.std.proofs.lemmas.List.{length-set}
use Rattle.certificate.specs.Proofs.{ProofTree}
use Rattle.certificate.specs.Texts.{SpellsLine}
use Rattle.plan_core.proofs.ListLemmas.{some_at, get_set_same, get_set_other}
use Rattle.plan_core.proofs.SenderPlaceLemmas.{senders_at_place}
use Rattle.plan_core.specs.Contents.{Contents}
use Rattle.plan_core.specs.Limits.{IsWithinLimits}
use Rattle.plan_core.specs.Pairs.{pairs_of}
use Rattle.plan_core.specs.Participants.{sender_at}
use Rattle.plan_core.specs.SenderPlaces.{place, place_count}
use Rattle.cert_check.specs.Judged.{AreProved, ProvesAt}
use Rattle.cert_check.specs.Proved.{ProvesPair}
use Rattle.cert_check.proofs.Checked.{same_pair}

-- a proof of one pair is one of each pair at its place
same_proved : (plan : Contents) → IsWithinLimits plan → (i j x y v w : ℕ) (tree : ProofTree) → slice_get (pairs_of plan) i ≡ Some (x, y) → slice_get (pairs_of plan) j ≡ Some (v, w)
    → place plan v w ≡ place plan x y → ProvesPair plan i tree → ProvesPair plan j tree
same_proved plan within i j x y v w tree e f same r =
    let is = same_pair plan i r.x r.y x y r.listed e in
    let at = senders_at_place plan within i j x y v w e f same in
    record {
      x = v;
      y = w;
      listed = f;
      s = r.s;
      t = r.t;
      first = sym at.2 ∙ (ap (sender_at plan) (sym is.0) ∙ r.first);
      second = sym at.3 ∙ (ap (sender_at plan) (sym is.1) ∙ r.second);
      proved = r.proved;
    }

module _ (plan : Contents) (within : IsWithinLimits plan) (known : List (Option (Vec ℕ Global))) (memo : AreProved plan known) (i q : ℕ) (is_pair : i < length (pairs_of plan)) (is_place : (x y : ℕ) → slice_get (pairs_of plan) i ≡ Some (x, y) → q ≡ place plan x y) where
  -- what is remembered at the place of a pair proves it
  pub recalled : (line : Vec ℕ Global) → slice_get known q ≡ Some (Some line) → (tree : ProofTree) × SpellsLine line.items tree × ProvesPair plan i tree
  recalled line e =
      let p = some_at (pairs_of plan) i is_pair in
      let at = memo.right q line e in
      (at.0, at.1, at.2 i p.0.0 p.0.1 p.1 (sym (is_place p.0.0 p.0.1 p.1)))

  -- the line of a proof of this pair is remembered at its place
  pub learned : (line : Vec ℕ Global) (tree : ProofTree) → q < place_count plan → SpellsLine line.items tree → ProvesPair plan i tree → AreProved plan (set known q (Some line))
  learned line tree inside spelled proves =
      let p = some_at (pairs_of plan) i is_pair in
      record {
        sized = length-set known q (Some line) ∙ memo.sized;
        right = λ k other e. elim (cases_eq k q) [
          | inl here ↦
              let got : slice_get (set known q (Some line)) q ≡ Some (Some other) = ap (slice_get (set known q (Some line))) (sym here) ∙ e in
              let same : Some (Some line) ≡ Some (Some other) = sym (get_set_same known q (Some line) (omega (arith, inside, memo.sized))) ∙ got in
              let line_is : line ≡ other = cc in
              subst (λ (l : Vec ℕ Global). ProvesAt plan k l.items) line_is
              (tree, spelled, λ j v w listed at. same_proved plan within i j p.0.0 p.0.1 v w tree p.1 listed (at ∙ (here ∙ is_place p.0.0 p.0.1 p.1)) proves)
          | inr elsewhere ↦ memo.right k other (sym (get_set_other known q k (Some line) elsewhere) ∙ e)
        ];
      }
