-- One step of the loops that number causes, count numbers and make groups.
use Rattle.std.proofs.Common.{◌≡◌, ℕ, ◌+◌, ◌<◌, inl, inr, Some, List, [], ◌∷◌, ◌++◌, length, get_or, replicate, set, slice_get, take, refl, ap, sym, ◌∙◌, arith, length-append}
use Rattle.std.specs.Prelude.{nat_eq}
use Rattle.std.specs.List.{count_by}
use Rattle.std.proofs.lemmas.Bool.Decides.{eqb_tells}
use Rattle.std.proofs.lemmas.List.{length-set, length-take-le}
use Rattle.std.proofs.lemmas.List.Sums.{count_by-le-length, count_by_more_no, count_by_more_yes}
use Rattle.std.proofs.lemmas.Option.{slice_get_within, get_or_from_slice_get}
use Rattle.plan_core.proofs.ListLemmas.{get_replicate, get_set_same, get_set_other, length_of_all, some_at}
use Rattle.causes.specs.declared.groups.Group.{Group}
use Rattle.causes.specs.declared.meetings.Cause.{Cause}
use Rattle.causes.specs.Orders.{AreNumbers, AreCounts, AreGroupsAt}
use Rattle.causes.proofs.Pushes.{push_cases}

pub numbers_none : (keys causes : List Cause) → AreNumbers keys causes 0 []
numbers_none keys causes = record { whole = refl; each = λ k g e. cc; within = λ k g e. cc }

pub numbers_more : (keys causes : List Cause) (n : ℕ) (numbers : List ℕ) → AreNumbers keys causes n numbers → (g : ℕ) (c : Cause) → slice_get causes n ≡ Some c → slice_get keys g ≡ Some c → AreNumbers keys causes (n + 1) (numbers ++ g ∷ [])
numbers_more keys causes n numbers so_far g c e f = record {
  whole = omega (arith, so_far.whole, length-append numbers (g ∷ []));
  each = λ k h s. elim (push_cases numbers k h g s) [
    | inl old ↦ so_far.each k h old
    | inr new ↦ ap (slice_get keys) new.1 ∙ (f ∙ sym (ap (slice_get causes) (new.0 ∙ so_far.whole) ∙ e))
  ];
  within = λ k h s. elim (push_cases numbers k h g s) [
    | inl old ↦ so_far.within k h old
    | inr new ↦ omega (arith, slice_get_within keys g c f, new.1)
  ];
}

pub counts_none : (n : ℕ) (numbers : List ℕ) → AreCounts n numbers 0 (replicate n 0)
counts_none n numbers = record {
  whole = length_of_all {X = ℕ} n 0;
  each = λ g lt.
      let r = some_at (replicate n 0) g (omega (arith, lt, length_of_all {X = ℕ} n 0)) in
      r.1 ∙ ap Some (sym (get_replicate {X = ℕ} n g 0 r.0 r.1));
}

module _ (n : ℕ) (numbers : List ℕ) (m : ℕ) (counts : List ℕ) (so_far : AreCounts n numbers m counts) (g : ℕ) (lt : m < length numbers) (at : get_or numbers m 0 ≡ g) (low : g < n) where
  pub count_is : get_or counts g 0 ≡ count_by (nat_eq g) (take m numbers)
  count_is = get_or_from_slice_get counts g (count_by (nat_eq g) (take m numbers)) 0 (so_far.each g low)

  pub count_bound : get_or counts g 0 < length numbers
  count_bound = omega (arith, count_is, count_by-le-length (nat_eq g) (take m numbers), length-take-le m numbers (omega (arith, lt)), lt)

  pub counts_more : AreCounts n numbers (m + 1) (set counts g (get_or counts g 0 + 1))
  counts_more = record {
    whole = length-set counts g (get_or counts g 0 + 1) ∙ so_far.whole;
    each = λ h within. elim (eqb_tells h g) [
      | inl same ↦
          let yes = count_by_more_yes (nat_eq h) numbers m 0 lt (ap (nat_eq h) at ∙ same.0) in
          let here = ap (λ (k : ℕ). slice_get (set counts g (get_or counts g 0 + 1)) k) same.1 ∙ get_set_same counts g (get_or counts g 0 + 1) (omega (arith, low, so_far.whole)) in
          let so = ap (λ (k : ℕ). count_by (nat_eq k) (take m numbers)) same.1 in
          here ∙ ap Some (ap (λ (k : ℕ). k + 1) (count_is ∙ sym so) ∙ sym yes)
      | inr other ↦
          let no = count_by_more_no (nat_eq h) numbers m 0 lt (ap (nat_eq h) at ∙ other.0) in
          get_set_other counts g h (get_or counts g 0 + 1) other.1 ∙ (so_far.each h within ∙ ap Some (sym no))
    ];
  }

module _ (causes : List Cause) (order : List (ℕ × ℕ)) (places counts : List ℕ) where
  pub groups_none : AreGroupsAt causes order places counts 0 []
  groups_none = record {
    whole = refl;
    cause = λ g i p group e f h. cc;
    example = λ g i p group e f h. cc;
    pairs = λ g group e. cc;
  }

  module _ (n : ℕ) (groups : List Group) (so_far : AreGroupsAt causes order places counts n groups) (i : ℕ) (p : ℕ × ℕ) (group : Group) (placed : slice_get places n ≡ Some i) (ordered : slice_get order i ≡ Some p) (cause : slice_get causes p.1 ≡ Some group.cause) (example : group.example ≡ p.1) (pairs : slice_get counts n ≡ Some group.pairs) where
    -- what stands at the new place
    at_place : (g j : ℕ) (q : ℕ × ℕ) → g ≡ length groups → slice_get places g ≡ Some j → slice_get order j ≡ Some q → q ≡ p
    at_place g j q e f h =
        let one : Some j ≡ Some i = sym f ∙ (ap (slice_get places) (e ∙ so_far.whole) ∙ placed) in
        let same : j ≡ i = cc in
        let two : Some q ≡ Some p = sym h ∙ (ap (slice_get order) same ∙ ordered) in
        cc

    pub groups_more : AreGroupsAt causes order places counts (n + 1) (groups ++ group ∷ [])
    groups_more = record {
      whole = omega (arith, so_far.whole, length-append groups (group ∷ []));
      cause = λ g j q it e f h. elim (push_cases groups g it group e) [
        | inl old ↦ so_far.cause g j q it old f h
        | inr new ↦ ap (λ (x : ℕ × ℕ). slice_get causes x.1) (at_place g j q new.0 f h) ∙ (cause ∙ ap (λ (x : Group). Some x.cause) (sym new.1))
      ];
      example = λ g j q it e f h. elim (push_cases groups g it group e) [
        | inl old ↦ so_far.example g j q it old f h
        | inr new ↦ ap (λ (x : Group). x.example) new.1 ∙ (example ∙ ap (λ (x : ℕ × ℕ). x.1) (sym (at_place g j q new.0 f h)))
      ];
      pairs = λ g it e. elim (push_cases groups g it group e) [
        | inl old ↦ so_far.pairs g it old
        | inr new ↦ ap (slice_get counts) (new.0 ∙ so_far.whole) ∙ (pairs ∙ ap (λ (x : Group). Some x.pairs) (sym new.1))
      ];
    }
