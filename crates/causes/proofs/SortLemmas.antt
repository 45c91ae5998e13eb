-- What a sort of lengths with their places gives.
use Rattle.std.proofs.Common.{◌≡◌, ℕ, zero, suc, ◌+◌, ◌-◌, inl, inr, true, false, Some, List, get_or, slice_get, ap, sym, subst, ◌∙◌, arith}
use Rattle.std.specs.List.Sorted.{IsPermutation, IsSorted}
use Rattle.std.specs.Ordering.{is_lt, nat_cmp, ordering_then}
use Rattle.std.specs.Cmp.{nat_cmp_is}
use Rattle.std.specs.declared.cmp.Ordering.{Ordering}
use Rattle.std.specs.declared.cmp.Ordering.TheVariants.{Less, Equal}
use Rattle.std.proofs.lemmas.Bool.{cases_lt}
use Rattle.std.proofs.lemmas.Map.Keys.{ge_from_not_lt}
use Rattle.std.proofs.lemmas.List.Sorted.{Contains-permutation, IsPermutation-sym}
use Rattle.std.proofs.lemmas.Option.{slice_get_within, get_or_from_slice_get, slice_get-get_or}
use Rattle.plan_core.proofs.ListLemmas.{some_at}
use Rattle.causes.specs.Groupings.{IsNoLater}
use Rattle.causes.specs.Orders.{IsNumbered, IsOrder}

abbrev pub by_both : ℕ × ℕ → ℕ × ℕ → Ordering
by_both x y = ordering_then (nat_cmp x.0 y.0) (nat_cmp x.1 y.1)

not_later : (p q : ℕ × ℕ) → is_lt (by_both q p) ≡ false → IsNoLater p q
not_later p q h = elim (cases_lt p.0 q.0) [
  | inl below ↦ inl below
  | inr above ↦ elim (cases_lt q.0 p.0) [
    | inl less ↦
        let less_is : true ≡ false = ap (λ (o : Ordering). is_lt (ordering_then o (nat_cmp q.1 p.1))) (nat_cmp_is q.0 p.0 Less less) ∙ h in
        cc
    | inr most ↦
        let same : q.0 ≡ p.0 = omega (arith, above, most) in
        inr (sym same, ge_from_not_lt q.1 p.1 (ap (λ (o : Ordering). is_lt (ordering_then o (nat_cmp q.1 p.1))) (nat_cmp_is q.0 p.0 Equal same) ∙ h))
  ]
]

no_later_both : (p q r : ℕ × ℕ) → IsNoLater p q → IsNoLater q r → IsNoLater p r
no_later_both p q r e f = elim e [
  | inl a ↦ elim f [
    | inl b ↦ inl (omega (arith, a, b))
    | inr b ↦ inl (omega (arith, a, b.0))
  ]
  | inr a ↦ elim f [
    | inl b ↦ inl (omega (arith, a.0, b))
    | inr b ↦ inr (a.0 ∙ b.0, omega (arith, a.1, b.1))
  ]
]

-- each two that stand side by side are in order, so each two are
in_order_by : (order : List (ℕ × ℕ)) → IsSorted by_both order → (n i : ℕ) (p q : ℕ × ℕ) → slice_get order i ≡ Some p → slice_get order (i + n) ≡ Some q → IsNoLater p q
in_order_by order h zero i p q e f =
    let one : Some p ≡ Some q = sym e ∙ (ap (slice_get order) (omega arith) ∙ f) in
    let same : p ≡ q = cc in
    inr (ap (λ (it : ℕ × ℕ). it.0) same, omega (arith, ap (λ (it : ℕ × ℕ). it.1) same))
in_order_by order h (suc n) i p q e f =
    let within = slice_get_within order (i + suc n) q f in
    let r = some_at order (i + n) (omega (arith, within)) in
    let next : slice_get order (i + n + 1) ≡ Some q = ap (slice_get order) (omega arith) ∙ f in
    let step = h (i + n) q (omega arith) (omega (arith, within)) in
    let tested = subst (λ (x : ℕ × ℕ). is_lt (by_both x (get_or order (i + n) q)) ≡ false) (get_or_from_slice_get order (i + n + 1) q q next) step in
    let both = subst (λ (x : ℕ × ℕ). is_lt (by_both q x) ≡ false) (get_or_from_slice_get order (i + n) r.0 q r.1) tested in
    no_later_both p r.0 q (in_order_by order h n i p r.0 e r.1) (not_later r.0 q both)

pub order_of_sort : (wires : List ℕ) (listed order : List (ℕ × ℕ)) → IsNumbered wires listed → IsPermutation listed order → IsSorted by_both order → IsOrder wires order
order_of_sort wires listed order numbered moved sorted = record {
  of = λ i p e.
      let r = Contains-permutation order listed p (IsPermutation-sym listed order moved) (i, slice_get_within order i p e, get_or_from_slice_get order i p p e) in
      let l = some_at wires r.0 (omega (arith, r.1, numbered.whole)) in
      let here : slice_get listed r.0 ≡ Some p = slice_get-get_or listed r.0 p r.1 ∙ ap Some r.2 in
      let one : Some (l.0, r.0) ≡ Some p = sym (numbered.each r.0 l.0 l.1) ∙ here in
      let same : (l.0, r.0) ≡ p = cc in
      subst (λ (it : ℕ × ℕ). slice_get wires it.1 ≡ Some it.0) same l.1;
  all = λ k l e.
      let stands = numbered.each k l e in
      let r = Contains-permutation listed order (l, k) moved (k, slice_get_within listed k (l, k) stands, get_or_from_slice_get listed k (l, k) (l, k) stands) in
      (r.0, slice_get-get_or order r.0 (l, k) r.1 ∙ ap Some r.2);
  sorted = λ i j p q le e f.
      in_order_by order sorted (j - i) i p q e (ap (slice_get order) (omega (arith, le)) ∙ f);
}
