-- The first of each cause in an order, one more at a time.
use Rattle.std.proofs.Common.{◌≡◌, ℕ, ◌+◌, ◌<◌, ◌≤◌, Bool, true, false, inl, inr, Some, List, [], ◌∷◌, ◌++◌, length, slice_get, refl, ap, sym, ◌∙◌, arith, length-append}
use Rattle.std.specs.Prelude.{not, if◌then◌else◌}
use Rattle.std.specs.List.{list_any}
use Rattle.std.proofs.lemmas.Bool.{cases_lt}
use Rattle.std.proofs.lemmas.Option.{slice_get_within, slice_get-get_or}
use Rattle.indexmap.specs.IndexSet.{insert_key}
use Rattle.indexmap.proofs.CallerLemmas.{Contains-list_any}
use Rattle.causes.specs.declared.meetings.Cause.{Cause}
use Rattle.causes.specs.Orders.{AreFirsts}
use Rattle.causes.specs.contracts.meetings.CausePartialEq.TheImpl.{eq-value}
use Rattle.causes.proofs.Exact.{exact}
use Rattle.causes.proofs.Lookups.{any_at}
use Rattle.causes.proofs.Pushes.{push_old, push_new, push_cases}

pub firsts_none : (causes : List Cause) (order : List (ℕ × ℕ)) → AreFirsts causes order 0 [] []
firsts_none causes order = record {
  paired = refl;
  below = λ g i e. cc;
  of = λ g i p c e f h. cc;
  known = λ j p c lt e f. absurd (omega (arith, lt));
  once = λ g h c e f. cc;
  earliest = λ g i j p c e f lt h k. cc;
  ascending = λ g h i j lt e f. cc;
}

module _ (causes : List Cause) (order : List (ℕ × ℕ)) (n : ℕ) (keys : List Cause) (places : List ℕ) (so_far : AreFirsts causes order n keys places) (p : ℕ × ℕ) (at : slice_get order n ≡ Some p) (c : Cause) (has : slice_get causes p.1 ≡ Some c) where
  -- what stands at n
  at_n : (j : ℕ) (q : ℕ × ℕ) (d : Cause) → j ≡ n → slice_get order j ≡ Some q → slice_get causes q.1 ≡ Some d → d ≡ c
  at_n j q d same e f =
      let one : Some q ≡ Some p = sym e ∙ (ap (slice_get order) same ∙ at) in
      let this : q ≡ p = cc in
      let two : Some d ≡ Some c = sym f ∙ (ap (λ (it : ℕ × ℕ). slice_get causes it.1) this ∙ has) in
      cc

  -- its cause is known
  pub firsts_known : (g : ℕ) → slice_get keys g ≡ Some c → AreFirsts causes order (n + 1) keys places
  firsts_known g stands = record {
    paired = so_far.paired;
    below = λ h i e. omega (arith, so_far.below h i e);
    of = so_far.of;
    known = λ j q d lt e f. elim (cases_lt j n) [
      | inl below ↦ so_far.known j q d below e f
      | inr above ↦ (g, stands ∙ ap Some (sym (at_n j q d (omega (arith, lt, above)) e f)))
    ];
    once = so_far.once;
    earliest = λ h i j q d e k lt f m. elim (cases_lt j n) [
      | inl below ↦ so_far.earliest h i j q d e k below f m
      | inr above ↦ omega (arith, so_far.below h i e, above)
    ];
    ascending = so_far.ascending;
  }

  -- its cause is new
  module _ (fresh : (g : ℕ) → slice_get keys g ≡ Some c → ⊥) where
    new_of : (g i : ℕ) (q : ℕ × ℕ) (d : Cause) → slice_get (places ++ n ∷ []) g ≡ Some i → slice_get order i ≡ Some q → slice_get (keys ++ c ∷ []) g ≡ Some d → slice_get causes q.1 ≡ Some d
    new_of g i q d e f k = elim (push_cases places g i n e) [
      | inl old ↦ elim (push_cases keys g d c k) [
        | inl stands ↦ so_far.of g i q d old f stands
        | inr last ↦ absurd (omega (arith, slice_get_within places g i old, so_far.paired, last.0))
      ]
      | inr new ↦ elim (push_cases keys g d c k) [
        | inl stands ↦ absurd (omega (arith, slice_get_within keys g d stands, so_far.paired, new.0))
        | inr last ↦
            let one : Some q ≡ Some p = sym f ∙ (ap (slice_get order) new.1 ∙ at) in
            let this : q ≡ p = cc in
            ap (λ (it : ℕ × ℕ). slice_get causes it.1) this ∙ (has ∙ ap Some (sym last.1))
      ]
    ]

    new_known : (j : ℕ) (q : ℕ × ℕ) (d : Cause) → j < n + 1 → slice_get order j ≡ Some q → slice_get causes q.1 ≡ Some d → (g : ℕ) × (slice_get (keys ++ c ∷ []) g ≡ Some d)
    new_known j q d lt e f = elim (cases_lt j n) [
      | inl below ↦ let r = so_far.known j q d below e f in (r.0, push_old keys r.0 d c r.1)
      | inr above ↦ (length keys, push_new keys c ∙ ap Some (sym (at_n j q d (omega (arith, lt, above)) e f)))
    ]

    new_once : (g h : ℕ) (d : Cause) → slice_get (keys ++ c ∷ []) g ≡ Some d → slice_get (keys ++ c ∷ []) h ≡ Some d → g ≡ h
    new_once g h d e f = elim (push_cases keys g d c e) [
      | inl old ↦ elim (push_cases keys h d c f) [
        | inl stands ↦ so_far.once g h d old stands
        | inr last ↦ absurd (fresh g (old ∙ ap Some last.1))
      ]
      | inr new ↦ elim (push_cases keys h d c f) [
        | inl stands ↦ absurd (fresh h (stands ∙ ap Some new.1))
        | inr last ↦ new.0 ∙ sym last.0
      ]
    ]

    new_earliest : (g i j : ℕ) (q : ℕ × ℕ) (d : Cause) → slice_get (places ++ n ∷ []) g ≡ Some i → slice_get (keys ++ c ∷ []) g ≡ Some d → j < n + 1 → slice_get order j ≡ Some q → slice_get causes q.1 ≡ Some d → i ≤ j
    new_earliest g i j q d e k lt f m = elim (cases_lt j n) [
      | inl below ↦ elim (push_cases places g i n e) [
        | inl old ↦ elim (push_cases keys g d c k) [
          | inl stands ↦ so_far.earliest g i j q d old stands below f m
          | inr last ↦ absurd (omega (arith, slice_get_within places g i old, so_far.paired, last.0))
        ]
        | inr new ↦ elim (push_cases keys g d c k) [
          | inl stands ↦ absurd (omega (arith, slice_get_within keys g d stands, so_far.paired, new.0))
          | inr last ↦ let r = so_far.known j q d below f m in absurd (fresh r.0 (r.1 ∙ ap Some last.1))
        ]
      ]
      | inr above ↦ elim (push_cases places g i n e) [
        | inl old ↦ omega (arith, so_far.below g i old, above)
        | inr new ↦ omega (arith, new.1, above)
      ]
    ]

    new_ascending : (g h i j : ℕ) → g < h → slice_get (places ++ n ∷ []) g ≡ Some i → slice_get (places ++ n ∷ []) h ≡ Some j → i < j
    new_ascending g h i j lt e f = elim (push_cases places h j n f) [
      | inl stands ↦ elim (push_cases places g i n e) [
        | inl old ↦ so_far.ascending g h i j lt old stands
        | inr new ↦ absurd (omega (arith, slice_get_within places h j stands, lt, new.0))
      ]
      | inr last ↦ elim (push_cases places g i n e) [
        | inl old ↦ omega (arith, so_far.below g i old, last.1)
        | inr new ↦ absurd (omega (arith, lt, new.0, last.0))
      ]
    ]

    pub firsts_new : AreFirsts causes order (n + 1) (keys ++ c ∷ []) (places ++ n ∷ [])
    firsts_new = record {
      paired = omega (arith, so_far.paired, length-append places (n ∷ []), length-append keys (c ∷ []));
      below = λ g i e. elim (push_cases places g i n e) [
        | inl old ↦ omega (arith, so_far.below g i old)
        | inr new ↦ omega (arith, new.1)
      ];
      of = new_of;
      known = new_known;
      once = new_once;
      earliest = new_earliest;
      ascending = new_ascending;
    }

  -- what an insertion tells
  pub firsts_more : (is_new : Bool) → is_new ≡ not (list_any (eq-value.it c) keys) → AreFirsts causes order (n + 1) (insert_key eq-value.it keys c) (if is_new then places ++ n ∷ [] else places)
  firsts_more is_new e = by (list_any (eq-value.it c) keys) refl is_new e
    where
      by : (b : Bool) → list_any (eq-value.it c) keys ≡ b → (new : Bool) → new ≡ not b → AreFirsts causes order (n + 1) (if b then keys else keys ++ c ∷ []) (if new then places ++ n ∷ [] else places)
      by true stands false e =
          let r = Contains-list_any eq-value.it exact keys c stands in
          firsts_known r.0 (slice_get-get_or keys r.0 c r.1 ∙ ap Some r.2)
      by true stands true e = cc
      by false none true e = firsts_new (λ g stands. let both : true ≡ false = sym (any_at c keys g stands) ∙ none in cc)
      by false none false e = cc
