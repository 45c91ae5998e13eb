-- For each place of two senders, a pair of them; and what is known of this pair is known of every pair at the place.
use Rattle.std.proofs.Common.{◌≡◌, ℕ, ◌+◌, ◌<◌, Option, Some, None, List, length, replicate, set, get_or, slice_get, ap, sym, ◌∙◌, subst, arith, inl, inr}
use Rattle.std.proofs.lemmas.Bool.{cases_eq}
use Rattle.std.proofs.lemmas.List.{length-set}
use Rattle.std.proofs.lemmas.Option.{slice_get-get_or, slice_get_within}
use Rattle.pair_walk.proofs.Faulty.{pair_is_below}
use Rattle.plan_core.specs.Contents.{Contents}
use Rattle.plan_core.specs.Limits.{IsWithinLimits}
use Rattle.plan_core.specs.Pairs.{pairs_of}
use Rattle.verdicts.specs.declared.known.Known.{Known}
use Rattle.verdicts.specs.declared.known.Known.TheVariants.{NotYet, Safe, Unsafe}
use Rattle.verdicts.specs.Known.{IsKnown, KnowsPairs}
use Rattle.verdicts.specs.Samples.{IsPairAt, AreSamples, IsKnownAt}
use Rattle.plan_core.specs.SenderPlaces.{place, place_count}
use Rattle.plan_core.proofs.ListLemmas.{some_at, get_set_same, get_set_other, get_replicate}
use Rattle.plan_core.proofs.SenderPlaceLemmas.{place_within}
use Rattle.verdicts.proofs.KnownLemmas.{same_got, known_at_place}

pub samples_of_none : (plan : Contents) (samples : List (Option ℕ)) (n : ℕ) → samples ≡ replicate n None → length samples ≡ n → n ≡ place_count plan → AreSamples plan samples 0
samples_of_none plan samples n all l e = record {
  sized = l ∙ e;
  right = λ k i at.
      let got : slice_get (replicate n None) k ≡ Some (Some i) = ap (λ ks. slice_get ks k) (sym all) ∙ at in
      let no : None ≡ Some i = get_replicate n k None (Some i) got in
      cc;
  covers = λ i x y h p. absurd (omega (arith, h));
}

module _ (plan : Contents) (samples : List (Option ℕ)) (n q : ℕ) (before : AreSamples plan samples n) (is_pair : n < length (pairs_of plan)) (within : q < length samples) (is_place : (x y : ℕ) → slice_get (pairs_of plan) n ≡ Some (x, y) → q ≡ place plan x y) where
  pub samples_more : AreSamples plan (set samples q (Some n)) (n + 1)
  samples_more = record {
    sized = length-set samples q (Some n) ∙ before.sized;
    right = λ k i e. elim (cases_eq k q) [
      | inl here ↦
          let got : slice_get (set samples q (Some n)) q ≡ Some (Some i) = ap (slice_get (set samples q (Some n))) (sym here) ∙ e in
          let same : Some n ≡ Some i = same_got (set samples q (Some n)) q (Some n) (Some i) (get_set_same samples q (Some n) within) got in
          let number : n ≡ i = cc in
          subst (λ (j : ℕ). IsPairAt plan j k) number (record { is_pair = is_pair; at = λ x y p. sym (is_place x y p) ∙ sym here })
      | inr other ↦ before.right k i (sym (get_set_other samples q k (Some n) other) ∙ e)
    ];
    covers = λ i x y h p. elim (cases_eq (place plan x y) q) [
      | inl here ↦ (n, ap (slice_get (set samples q (Some n))) here ∙ get_set_same samples q (Some n) within)
      | inr other ↦
          let not_last : i ≡ n → ⊥ = λ e. other (sym (is_place x y (subst (λ (j : ℕ). slice_get (pairs_of plan) j ≡ Some (x, y)) e p))) in
          let s = before.covers i x y (omega (arith, h, not_last)) p in
          (s.0, get_set_other samples q (place plan x y) (Some n) other ∙ s.1)
    ];
  }

-- what is known of the pair at each place is known of all pairs
module _ (plan : Contents) (limits : IsWithinLimits plan) where
  known_moves : (i j x y v w : ℕ) → slice_get (pairs_of plan) i ≡ Some (x, y) → slice_get (pairs_of plan) j ≡ Some (v, w) → place plan v w ≡ place plan x y → (k : Known) → IsKnown plan x y k → IsKnown plan v w k
  known_moves i j x y v w e f same NotYet h = h
  known_moves i j x y v w e f same Safe h = known_at_place plan limits i j x y v w e f same None h
  known_moves i j x y v w e f same (Unsafe fault) h = known_at_place plan limits i j x y v w e f same (Some fault) h

  pub known_by_samples : (samples : List (Option ℕ)) (known : List Known) → AreSamples plan samples (length (pairs_of plan)) → length known ≡ length samples
      → ((k : ℕ) (d : Known) → k < length samples → IsKnownAt plan samples k (get_or known k d)) → KnowsPairs plan known (length (pairs_of plan))
  known_by_samples samples known are len each i is_pair v w f =
      let s = are.covers i v w is_pair f in
      let q = place plan v w in
      let is_at = are.right q s.0 s.1 in
      let p = some_at (pairs_of plan) s.0 is_at.is_pair in
      let inside = slice_get_within samples q (Some s.0) s.1 in
      let k = get_or known q NotYet in
      let here : IsKnown plan p.0.0 p.0.1 k = each q NotYet inside s.0 p.0.0 p.0.1 s.1 p.1 in
      (k, slice_get-get_or known q NotYet (omega (arith, inside, len)), known_moves s.0 i p.0.0 p.0.1 v w p.1 f (sym (is_at.at p.0.0 p.0.1 p.1)) k here)

-- a pair has a place
pub pair_has_place : (plan : Contents) → IsWithinLimits plan → (i q : ℕ) → i < length (pairs_of plan) → ((x y : ℕ) → slice_get (pairs_of plan) i ≡ Some (x, y) → q ≡ place plan x y) → q < place_count plan
pair_has_place plan limits i q is_pair is_place =
    let p = some_at (pairs_of plan) i is_pair in
    let b = pair_is_below plan i p.0 p.1 in
    omega (arith, is_place p.0.0 p.0.1 p.1, place_within plan limits p.0.0 p.0.1 (omega (arith, b.0, b.1)) b.1)
