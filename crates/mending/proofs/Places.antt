-- Where a name stands among others.
use Rattle.std.proofs.Common.{◌≡◌, ◌≢◌, ℕ, ◌<◌, ◌≤◌, Bool, true, false, Some, List, [], length, get_or, slice_get, refl, ap, sym, ◌∙◌, inl, inr, arith}
use Rattle.std.specs.Prelude.{AllPairs}
use Rattle.std.specs.List.{position_or_len}
use Rattle.std.specs.Str.{bytes_eq}
use Rattle.std.proofs.lemmas.Bool.{cases_lt}
use Rattle.std.proofs.lemmas.List.Sums.{position_or_len_is, fails_before_first, passes_at_first, prefix_len-le-length}
use Rattle.std.proofs.lemmas.Option.{get_or_from_slice_get, slice_get_within, slice_get-get_or}
use Rattle.std.proofs.lemmas.Slice.Eq.{bytes_eq-Decides}

pub not_true : (b : Bool) → (b ≡ true → ⊥) → b ≡ false
not_true true never = absurd (never refl)
not_true false never = refl

module _ (name : List ℕ) (names : List (List ℕ)) where
  test_at : (k : ℕ) → slice_get names k ≡ Some name → bytes_eq name (get_or names k []) ≡ true
  test_at k e = (bytes_eq-Decides name (get_or names k [])).1 (sym (get_or_from_slice_get names k name [] e))

  no_test_at : (k : ℕ) → k < length names → (slice_get names k ≡ Some name → ⊥) → bytes_eq name (get_or names k []) ≡ false
  no_test_at k h other =
      not_true (bytes_eq name (get_or names k [])) (λ e. other (slice_get-get_or names k [] h ∙ ap Some (sym ((bytes_eq-Decides name (get_or names k [])).0 e))))

  -- nowhere before k, and at k unless that is the end
  pub place_is : (k : ℕ) → k ≤ length names → ((j : ℕ) → j < k → slice_get names j ≡ Some name → ⊥) → (k < length names → slice_get names k ≡ Some name) → k ≡ position_or_len (bytes_eq name) names
  place_is k h before here =
      sym (position_or_len_is (bytes_eq name) names k [] h (λ j lt. no_test_at j (omega (arith, lt, h)) (before j lt)) (λ lt. test_at k (here lt)))

  -- where no two are equal
  pub near_is : AllPairs ◌≢◌ names → (k : ℕ) → slice_get names k ≡ Some name → k ≡ position_or_len (bytes_eq name) names
  near_is distinct k e =
      let h = slice_get_within names k name e in
      place_is k (omega (arith, h)) (λ j lt same. distinct j k [] lt h (get_or_from_slice_get names j name [] same ∙ sym (get_or_from_slice_get names k name [] e))) (λ lt. e)

  pub place_few : position_or_len (bytes_eq name) names ≤ length names
  place_few = prefix_len-le-length _ names

  pub place_within : (k : ℕ) → slice_get names k ≡ Some name → position_or_len (bytes_eq name) names < length names
  place_within k e =
      let p = position_or_len (bytes_eq name) names in
      elim (cases_lt p (length names)) [
        | inl within ↦ within
        | inr past ↦
            let h = slice_get_within names k name e in
            let before : k < p = omega (arith, h, past) in
            let impossible : true ≡ false = sym (test_at k e) ∙ fails_before_first (bytes_eq name) names k [] before in
            cc
      ]

  stands_there : position_or_len (bytes_eq name) names < length names → name ≡ get_or names (position_or_len (bytes_eq name) names) []
  stands_there h = (bytes_eq-Decides name (get_or names (position_or_len (bytes_eq name) names) [])).0 (passes_at_first (bytes_eq name) names [] h)

-- no other name has the place of one that stands somewhere
pub place_decides : (v w : List ℕ) (names : List (List ℕ)) (k : ℕ) → slice_get names k ≡ Some v → position_or_len (bytes_eq v) names ≡ position_or_len (bytes_eq w) names → v ≡ w
place_decides v w names k e same =
    let h = place_within v names k e in
    let i : position_or_len (bytes_eq w) names < length names = omega (arith, h, same) in
    stands_there v names h ∙ (ap (λ (p : ℕ). get_or names p []) same ∙ sym (stands_there w names i))
