-- What is known of pairs, at the places of their senders.
use Rattle.std.proofs.Common.{◌≡◌, ℕ, ◌+◌, ◌<◌, Option, Some, None, List, length, replicate, set, slice_get, refl, ap, sym, ◌∙◌, subst, arith, inl, inr}
use Rattle.std.proofs.lemmas.Bool.{cases_eq}
use Rattle.std.proofs.lemmas.List.{length-set}
use Rattle.std.proofs.lemmas.Option.{slice_get_within}
use Rattle.plan_core.proofs.ListLemmas.{some_at, get_set_same, get_set_other, get_replicate}
use Rattle.plan_core.proofs.SenderPlaceLemmas.{place_within, senders_at_place}
use Rattle.certificate.specs.declared.values.Fault.{Fault}
use Rattle.pair_walk.proofs.Faulty.{pair_is_below, same_senders}
use Rattle.pair_walk.specs.Verdicts.{IsFirstFaultIfAny}
use Rattle.plan_core.specs.Contents.{Contents}
use Rattle.plan_core.specs.Limits.{IsWithinLimits}
use Rattle.plan_core.specs.Pairs.{pairs_of}
use Rattle.verdicts.specs.declared.known.Known.{Known}
use Rattle.verdicts.specs.declared.known.Known.TheVariants.{NotYet, Safe, Unsafe}
use Rattle.plan_core.specs.SenderPlaces.{place, place_count}
use Rattle.verdicts.specs.Known.{known_as, IsKnown, IsKnownIfAny, IsMemo, KnowsPair, KnowsPairs}

module _ {X : Type 0} where
  pub same_got : (xs : List X) (k : ℕ) (x y : X) → slice_get xs k ≡ Some x → slice_get xs k ≡ Some y → x ≡ y
  same_got xs k x y e f = let d : Some x ≡ Some y = sym e ∙ f in cc

-- ---- places

module _ (plan : Contents) (within : IsWithinLimits plan) where
  -- two pairs at one place have the same senders, so what is known of one is known of the other
  pub known_at_place : (i j x y v w : ℕ) → slice_get (pairs_of plan) i ≡ Some (x, y) → slice_get (pairs_of plan) j ≡ Some (v, w) → place plan v w ≡ place plan x y → (found : Option Fault) → IsFirstFaultIfAny plan x y found → IsFirstFaultIfAny plan v w found
  known_at_place i j x y v w e f same found h =
      let s = senders_at_place plan within i j x y v w e f same in
      same_senders plan x y v w s.0 s.1 s.2 s.3 found h

  -- ---- one more pair is known

  known_if_any : (x y : ℕ) (k : Known) → IsKnown plan x y k → IsKnownIfAny plan x y k
  known_if_any x y NotYet h = tt
  known_if_any x y Safe h = h
  known_if_any x y (Unsafe fault) h = h

  pub known_of : (x y : ℕ) (k : Known) → IsKnownIfAny plan x y k → (k ≡ NotYet → ⊥) → IsKnown plan x y k
  known_of x y NotYet h n = absurd (n refl)
  known_of x y Safe h n = h
  known_of x y (Unsafe fault) h n = h

  as_known : (x y : ℕ) (found : Option Fault) → IsFirstFaultIfAny plan x y found → IsKnown plan x y (known_as found)
  as_known x y None h = h
  as_known x y (Some fault) h = h

  module _ (known : List Known) (memo : IsMemo plan known) (i x y : ℕ) (is : slice_get (pairs_of plan) i ≡ Some (x, y)) (found : Option Fault) (right : IsFirstFaultIfAny plan x y found) where
    added : List Known
    added = set known (place plan x y) (known_as found)

    place_in : place plan x y < length known
    place_in =
        let b = pair_is_below plan i (x, y) is in
        omega (arith, memo.sized, place_within plan within x y (omega (arith, b.0, b.1)) b.1)

    at_added : (j v w : ℕ) → slice_get (pairs_of plan) j ≡ Some (v, w) → place plan v w ≡ place plan x y → (slice_get (set known (place plan x y) (known_as found)) (place plan v w) ≡ Some (known_as found)) × IsKnown plan v w (known_as found)
    at_added j v w e same =
        (ap (slice_get (set known (place plan x y) (known_as found))) same ∙ get_set_same known (place plan x y) (known_as found) place_in, as_known v w found (known_at_place i j x y v w is e same found right))

    pub memo_more : IsMemo plan (set known (place plan x y) (known_as found))
    memo_more = record {
      sized = length-set known (place plan x y) (known_as found) ∙ memo.sized;
      right = λ j v w k e f. elim (cases_eq (place plan v w) (place plan x y)) [
        | inl same ↦
            let here = at_added j v w e same in
            subst (IsKnownIfAny plan v w) (same_got (set known (place plan x y) (known_as found)) (place plan v w) (known_as found) k here.0 f) (known_if_any v w (known_as found) here.1)
        | inr other ↦ memo.right j v w k e (sym (get_set_other known (place plan x y) (place plan v w) (known_as found) other) ∙ f)
      ];
    }

    pub knows_added : KnowsPair plan (set known (place plan x y) (known_as found)) i
    knows_added v w e =
        let d : (x, y) ≡ (v, w) = same_got (pairs_of plan) i (x, y) (v, w) is e in
        let a : x ≡ v = ap (λ (p : ℕ × ℕ). p.0) d in
        let b : y ≡ w = ap (λ (p : ℕ × ℕ). p.1) d in
        let same : place plan v w ≡ place plan x y = ap (place plan v) (sym b) ∙ ap (λ u. place plan u y) (sym a) in
        let here = at_added i v w e same in
        (known_as found, here.0, here.1)

    pub knows_still : (j : ℕ) → KnowsPair plan known j → KnowsPair plan (set known (place plan x y) (known_as found)) j
    knows_still j knows v w e = elim (cases_eq (place plan v w) (place plan x y)) [
      | inl same ↦ let here = at_added j v w e same in (known_as found, here.0, here.1)
      | inr other ↦
          let k = knows v w e in
          (k.0, get_set_other known (place plan x y) (place plan v w) (known_as found) other ∙ k.1, k.2)
    ]

-- ---- what the place of a pair's senders holds

module _ (plan : Contents) (within : IsWithinLimits plan) (known : List Known) (memo : IsMemo plan known) (i q : ℕ) (is_pair : i < length (pairs_of plan)) (is_place : (x y : ℕ) → slice_get (pairs_of plan) i ≡ Some (x, y) → q ≡ place plan x y) where
  pub place_of_pair : q < length known
  place_of_pair =
      let p = some_at (pairs_of plan) i is_pair in
      let b = pair_is_below plan i p.0 p.1 in
      omega (arith, is_place p.0.0 p.0.1 p.1, memo.sized, place_within plan within p.0.0 p.0.1 (omega (arith, b.0, b.1)) b.1)

  pub learned : (k : Known) (found : Option Fault) → k ≡ known_as found → ((x y : ℕ) → slice_get (pairs_of plan) i ≡ Some (x, y) → IsFirstFaultIfAny plan x y found)
      → IsMemo plan (set known q k) × KnowsPair plan (set known q k) i × ((j : ℕ) → KnowsPair plan known j → KnowsPair plan (set known q k) j)
  learned k found is_found right =
      let p = some_at (pairs_of plan) i is_pair in
      let x = p.0.0 in
      let y = p.0.1 in
      let first = right x y p.1 in
      let at : q ≡ place plan x y = is_place x y p.1 in
      let all : IsMemo plan (set known (place plan x y) (known_as found)) × KnowsPair plan (set known (place plan x y) (known_as found)) i × ((j : ℕ) → KnowsPair plan known j → KnowsPair plan (set known (place plan x y) (known_as found)) j) =
      (memo_more plan within known memo i x y p.1 found first, knows_added plan within known memo i x y p.1 found first, knows_still plan within known memo i x y p.1 found first) in
      rw (at, is_found) all

  pub was_known : (k : Known) → slice_get known q ≡ Some k → (k ≡ NotYet → ⊥) → KnowsPair plan known i
  was_known k got some x y e =
      let here : slice_get known (place plan x y) ≡ Some k = ap (slice_get known) (sym (is_place x y e)) ∙ got in
      (k, here, known_of plan within x y k (memo.right i x y k e here) some)

pub memo_of_none : (plan : Contents) (known : List Known) (n : ℕ) → known ≡ replicate n NotYet → length known ≡ n → n ≡ place_count plan → IsMemo plan known
memo_of_none plan known n all l e = record {
  sized = l ∙ e;
  right = λ i x y k p at.
      let got : slice_get (replicate n NotYet) (place plan x y) ≡ Some k = ap (λ ks. slice_get ks (place plan x y)) (sym all) ∙ at in
      subst (IsKnownIfAny plan x y) (get_replicate n (place plan x y) NotYet k got) tt;
}

pub knows_next : (plan : Contents) (known : List Known) (n : ℕ) → KnowsPairs plan known n → KnowsPair plan known n → KnowsPairs plan known (n + 1)
knows_next plan known n before here i h =
    elim (cases_eq i n) [ inl e ↦ subst (KnowsPair plan known) (sym e) here | inr ne ↦ before i (omega (arith, ne)) ]

pub place_known : (plan : Contents) (known : List Known) (i q : ℕ) → KnowsPairs plan known (length (pairs_of plan)) → i < length (pairs_of plan) → ((x y : ℕ) → slice_get (pairs_of plan) i ≡ Some (x, y) → q ≡ place plan x y) → q < length known
place_known plan known i q knows is_pair is_place =
    let p = some_at (pairs_of plan) i is_pair in
    let k = knows i is_pair p.0.0 p.0.1 p.1 in
    omega (arith, is_place p.0.0 p.0.1 p.1, slice_get_within known (place plan p.0.0 p.0.1) k.0 k.1)
