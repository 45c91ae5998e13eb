-- A table's verdicts, and what they say of the plan.
use Rattle.std.proofs.Common.{◌≡◌, ℕ, zero, suc, ◌<◌, Some, List, [], ◌∷◌, ◌++◌, length, get_or, slice_get, refl, ap, sym, ◌∙◌, subst, arith, inl, inr, ◌⊎◌}
use Rattle.pair_walk.specs.declared.walk_pair.Outcome.{Outcome}
use Rattle.pair_walk.specs.declared.walk_pair.Outcome.TheVariants.{Safe, Unsafe}
use Rattle.pair_walk.specs.declared.walk_pair.Verdict.{Verdict}
use Rattle.pair_walk.specs.Verdicts.{IsVerdict}
use Rattle.plan_core.specs.Contents.{Contents}
use Rattle.plan_core.specs.Lawful.{pair, IsPair}
use Rattle.plan_core.specs.Pairs.{pairs_of}
use Rattle.plan_core.specs.Faults.{IsFaulty, IsSafe}
use Rattle.plan_core.proofs.Model.{safe_by_pairs}
use Rattle.plan_core.proofs.PairLaws.{to_pairs, from_pairs, parts_of_IsPair, IsPair-from_parts}
use Rattle.verdicts.specs.Verdicts.{AreVerdicts, AreVerdictsOf, IsSafeOutcome, AreSafe}

module _ {X : Type 0} where
  -- what stands in a list with one more
  get_pushed : (xs : List X) (x : X) (i : ℕ) (y : X) → slice_get (xs ++ x ∷ []) i ≡ Some y → (slice_get xs i ≡ Some y) ⊎ ((i ≡ length xs) × (x ≡ y))
  get_pushed [] x zero y e = inr (refl, cc)
  get_pushed [] x (suc i) y e = cc
  get_pushed (z ∷ xs) x zero y e = inl e
  get_pushed (z ∷ xs) x (suc i) y e =
      elim (get_pushed xs x i y e) [ inl h ↦ inl h | inr h ↦ inr (ap suc (h.0), h.1) ]

  get_at : (xs : List X) (k : ℕ) (x : X) → k < length xs → get_or xs k x ≡ x → slice_get xs k ≡ Some x
  get_at [] k x h e = absurd (omega arith)
  get_at (y ∷ xs) zero x h e = ap Some e
  get_at (y ∷ xs) (suc k) x h e = get_at xs k x (omega arith) e

  at_get : (xs : List X) (k : ℕ) (x : X) → slice_get xs k ≡ Some x → (k < length xs) × (get_or xs k x ≡ x)
  at_get [] k x e = cc
  at_get (y ∷ xs) zero x e = (omega arith, cc)
  at_get (y ∷ xs) (suc k) x e = let r = at_get xs k x e in (omega (arith, r.0), r.1)

  some_at : (xs : List X) (k : ℕ) → k < length xs → (x : X) × (slice_get xs k ≡ Some x)
  some_at [] k h = absurd (omega arith)
  some_at (y ∷ xs) zero h = (y, refl)
  some_at (y ∷ xs) (suc k) h = some_at xs k (omega arith)

pub verdicts_more : (plan : Contents) (verdicts : List Verdict) (n : ℕ) (last : Verdict) → length verdicts ≡ n → AreVerdictsOf plan verdicts → last.pair ≡ n → ((x y : ℕ) → slice_get (pairs_of plan) n ≡ Some (x, y) → IsVerdict plan x y last.outcome) → AreVerdictsOf plan (verdicts ++ last ∷ [])
verdicts_more plan verdicts n last l each number verdict i x y v e p =
    elim (get_pushed verdicts last i v e) [
      | inl h ↦ each i x y v h p
      | inr h ↦
          let here : i ≡ n = h.0 ∙ l in
          let same : last ≡ v = h.1 in
          let says : (last.pair ≡ i) × IsVerdict plan x y last.outcome = (number ∙ sym here, verdict x y (subst (λ (k : ℕ). slice_get (pairs_of plan) k ≡ Some (x, y)) here p)) in
          subst (λ (w : Verdict). (w.pair ≡ i) × IsVerdict plan x y w.outcome) same says
    ]

no_fault : (plan : Contents) (x y : ℕ) (o : Outcome) → IsVerdict plan x y o → IsSafeOutcome o → IsFaulty plan (pair x y) → ⊥
no_fault plan x y (Safe cert) v s = v.no_fault
no_fault plan x y (Unsafe fault) v s = λ f. s

pub safe_plan : (plan : Contents) (verdicts : List Verdict) → AreVerdicts plan verdicts → AreSafe verdicts → IsSafe plan
safe_plan plan verdicts t all =
    safe_by_pairs plan (λ x y p.
    let parts = parts_of_IsPair plan x y p in
    let listed = to_pairs plan x y parts.0 parts.1 parts.2 in
    let v = some_at verdicts listed.0 (omega (arith, listed.1, t.whole)) in
    no_fault plan x y v.0.outcome (t.each listed.0 x y v.0 v.1 (get_at (pairs_of plan) listed.0 (x, y) listed.1 listed.2)).1 (all listed.0 v.0 v.1))

safe_outcome : (plan : Contents) (x y : ℕ) (o : Outcome) → IsSafe plan → IsPair plan x y → IsVerdict plan x y o → IsSafeOutcome o
safe_outcome plan x y (Safe cert) s p v = tt
safe_outcome plan x y (Unsafe fault) s p v =
    s (pair x y) p.1 (fault.wire.items, x, y, fault.first, fault.second, v.fault)

pub safe_verdicts : (plan : Contents) (verdicts : List Verdict) → AreVerdicts plan verdicts → IsSafe plan → AreSafe verdicts
safe_verdicts plan verdicts t safe i v e =
    let within = at_get verdicts i v e in
    let p = some_at (pairs_of plan) i (omega (arith, within.0, t.whole)) in
    let listed = at_get (pairs_of plan) i p.0 p.1 in
    let parts = from_pairs plan p.0.0 p.0.1 (i, listed.0, listed.1) in
    safe_outcome plan p.0.0 p.0.1 v.outcome safe (IsPair-from_parts plan p.0.0 p.0.1 parts.0 parts.1 parts.2) (t.each i p.0.0 p.0.1 v e p.1).1

-- no pair of a safe plan has the verdict of a fault
pub safe_pair : (plan : Contents) (i x y : ℕ) (o : Outcome) → IsSafe plan → slice_get (pairs_of plan) i ≡ Some (x, y) → IsVerdict plan x y o → IsSafeOutcome o
safe_pair plan i x y o safe e v =
    let listed = at_get (pairs_of plan) i (x, y) e in
    let parts = from_pairs plan x y (i, listed.0, listed.1) in
    safe_outcome plan x y o safe (IsPair-from_parts plan x y parts.0 parts.1 parts.2) v
