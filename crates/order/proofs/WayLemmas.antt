-- How the pairs of a plan may end, one after another, beside its faults.
use Rattle.std.proofs.Common.{◌≡◌, ℕ, zero, suc, ◌+◌, ◌<◌, true, false, ◌==◌, Option, Some, None, List, [], ◌∷◌, ◌++◌, length, drop, slice_get, refl, ap, sym, ◌∙◌, subst, arith, add-one, inl, inr}
use Rattle.std.proofs.lemmas.Bool.{cases_eq, eqb-false, ne_eqb}
use Rattle.certificate.specs.declared.values.Fault.{Fault}
use Rattle.arbitration.specs.declared.spans.Outcomes.{Outcomes}
use Rattle.arbitration.proofs.Runs.{ends_span, first_in_runs, second_in_runs}
use Rattle.order.specs.Known.{Between}
use Rattle.order.specs.Listed.{is_first}
use Rattle.order.specs.Ways.{AreOutcomes, IsWay, AreWaysOf}
use Rattle.pair_walk.specs.declared.walk_pair.Outcome.{Outcome}
use Rattle.pair_walk.specs.declared.walk_pair.Outcome.TheVariants.{Safe, Unsafe}
use Rattle.pair_walk.specs.declared.walk_pair.Verdict.{Verdict}
use Rattle.pair_walk.specs.Verdicts.{IsVerdict}
use Rattle.plan_core.proofs.ListLemmas.{some_at, at_get}
use Rattle.plan_core.specs.Contents.{Contents}
use Rattle.plan_core.specs.Faults.{IsFaulty}
use Rattle.plan_core.specs.Lawful.{pair}
use Rattle.plan_core.specs.Pairs.{pairs_of}
use Rattle.plan_core.specs.Participants.{Text}
use Rattle.verdicts.specs.Faults.{AreFaults, faults_of, outcome_fault}
use Rattle.verdicts.specs.Verdicts.{AreVerdicts}

-- ---- the way of one pair

pub way_of_texts : (plan : Contents) (x y : ℕ) (o : Outcomes) → x < y → (IsFaulty plan (pair x y) → ⊥) → Between (Text plan x) (Text plan y) o → AreOutcomes plan x y o
way_of_texts plan x y o lt safe b =
    let ne : x ≡ y → ⊥ = λ e. absurd (omega (arith, e)) in
    record {
      no_fault = safe;
      both = ends_span plan x y ne o.both b.both;
      first = first_in_runs plan x y ne o.first b.first;
      second = second_in_runs plan x y ne o.second b.second;
    }

unsafe_way : (plan : Contents) (x y : ℕ) (fault : Fault) → IsVerdict plan x y (Unsafe fault) → IsFaulty plan (pair x y)
unsafe_way plan x y fault v = (fault.wire.items, x, y, fault.first, fault.second, v.fault)

-- ---- one pair more

pub ways_more : (plan : Contents) (ways : List (Option Outcomes)) (n x y : ℕ) (way : Option Outcomes) → length ways ≡ n → AreWaysOf plan ways → slice_get (pairs_of plan) n ≡ Some (x, y) → IsWay plan x y way → AreWaysOf plan (ways ++ way ∷ [])
ways_more plan ways n x y way count each here right i v w other at p =
    elim (cases_eq i n) [
      | inl e ↦
          let pair_is : Some (x, y) ≡ Some (v, w) = sym here ∙ (ap (slice_get (pairs_of plan)) (sym e) ∙ p) in
          let way_is : Some way ≡ Some other = sym (last_of ways way n count) ∙ (ap (slice_get (ways ++ way ∷ [])) (sym e) ∙ at) in
          let same : (x, y) ≡ (v, w) = cc in
          let same_way : way ≡ other = cc in
          subst (λ (q : ℕ × ℕ). IsWay plan q.0 q.1 other) same (subst (λ (o : Option Outcomes). IsWay plan x y o) same_way right)
      | inr ne ↦ each i v w other (not_last ways way i (λ e. ne (e ∙ count)) ∙ at) p
    ]
  where
    last_of : (ws : List (Option Outcomes)) (w : Option Outcomes) (n : ℕ) → length ws ≡ n → slice_get (ws ++ w ∷ []) n ≡ Some w
    last_of [] w n e = ap (slice_get (w ∷ [])) (sym e)
    last_of (v ∷ ws) w zero e = absurd (omega (arith, e))
    last_of (v ∷ ws) w (suc n) e = last_of ws w n (omega (arith, e))

    not_last : (ws : List (Option Outcomes)) (w : Option Outcomes) (i : ℕ) → (i ≡ length ws → ⊥) → slice_get ws i ≡ slice_get (ws ++ w ∷ []) i
    not_last [] w zero ne = absurd (ne refl)
    not_last [] w (suc i) ne = refl
    not_last (v ∷ ws) w zero ne = refl
    not_last (v ∷ ws) w (suc i) ne = not_last ws w i (λ e. ne (ap suc e))

-- ---- which faults are left

drop_suc : {X : Type 0} (xs : List X) (k : ℕ) (x : X) → slice_get xs k ≡ Some x → drop k xs ≡ x ∷ drop (suc k) xs
drop_suc [] k x e = cc
drop_suc (y ∷ xs) zero x e = let d : y ≡ x = cc in ap (λ z. z ∷ xs) d
drop_suc (y ∷ xs) (suc k) x e = drop_suc xs k x e

pub first_is : (faults : List (ℕ × Fault)) (met pair : ℕ) (f : ℕ × Fault) → slice_get faults met ≡ Some f → (f.0 == pair) ≡ is_first (drop met faults) pair
first_is faults met pair f e = ap (λ fs. is_first fs pair) (sym (drop_suc faults met f e))

after_head : {X : Type 0} (xs : List X) (k : ℕ) (x : X) (rest : List X) → drop k xs ≡ x ∷ rest → drop (suc k) xs ≡ rest
after_head [] zero x rest e = cc
after_head [] (suc k) x rest e = cc
after_head (y ∷ xs) zero x rest e = cc
after_head (y ∷ xs) (suc k) x rest e = after_head xs k x rest e

later_of : (n i p : ℕ) (o : Outcome) (rest : List (ℕ × Fault)) → i < n → p ≡ n → is_first rest i ≡ false → is_first (outcome_fault p o rest) i ≡ false
later_of n i p (Safe cert) rest lt e none = none
later_of n i p (Unsafe fault) rest lt e none = ne_eqb p i (λ q. absurd (omega (arith, q, e)))

-- of verdicts whose numbers are n and more, none has a fault of a pair before n
is_later : (n i : ℕ) (vs : List Verdict) → i < n → ((j : ℕ) (v : Verdict) → slice_get vs j ≡ Some v → v.pair ≡ n + j) → is_first (faults_of vs) i ≡ false
is_later n i [] lt numbers = refl
is_later n i (v ∷ vs) lt numbers =
    later_of n i v.pair v.outcome (faults_of vs) lt (omega (arith, numbers 0 v refl))
    (is_later (n + 1) i vs (omega arith) (λ j w q. omega (arith, numbers (suc j) w q)))

module _ (plan : Contents) (verdicts : List Verdict) (right : AreVerdicts plan verdicts) where
  numbered : (j : ℕ) (v : Verdict) → slice_get verdicts j ≡ Some v → v.pair ≡ j
  numbered j v e =
      let p = some_at (pairs_of plan) j (omega (arith, right.whole, (at_get verdicts j v e).0)) in
      (right.each j p.0.0 p.0.1 v e p.1).0

  get_drop : (vs : List Verdict) (n j : ℕ) → slice_get (drop n vs) j ≡ slice_get vs (n + j)
  get_drop vs zero j = let e : 0 + j ≡ j = omega arith in ap (slice_get vs) (sym e)
  get_drop [] (suc n) j = refl
  get_drop (v ∷ vs) (suc n) j = get_drop vs n j ∙ (let e : suc n + j ≡ suc (n + j) = omega arith in ap (slice_get (v ∷ vs)) (sym e))

  later_numbers : (n j : ℕ) (v : Verdict) → slice_get (drop n verdicts) j ≡ Some v → v.pair ≡ n + j
  later_numbers n j v e = numbered (n + j) v (sym (get_drop verdicts n j) ∙ e)

  verdict_at : (n x y : ℕ) → slice_get (pairs_of plan) n ≡ Some (x, y) → (v : Verdict) × (slice_get verdicts n ≡ Some v)
  verdict_at n x y here = some_at verdicts n (omega (arith, right.whole, (at_get (pairs_of plan) n (x, y) here).0))

  none_here : (n : ℕ) → is_first (faults_of (drop (suc n) verdicts)) n ≡ false
  none_here n = is_later (suc n) n (drop (suc n) verdicts) (omega arith) (later_numbers (suc n))

  -- the fault of pair n is the next one that is left
  pub next_is : (n x y met : ℕ) (faults : List (ℕ × Fault)) → slice_get (pairs_of plan) n ≡ Some (x, y) → drop met faults ≡ faults_of (drop n verdicts) → is_first (drop met faults) n ≡ true → IsFaulty plan (pair x y) × (drop (met + 1) faults ≡ faults_of (drop (n + 1) verdicts))
  next_is n x y met faults here left is_next =
      let v = verdict_at n x y here in
      let is = right.each n x y v.0 v.1 here in
      rw (add-one, add-one) (of_outcome v.0.outcome is.1 (left ∙ ap faults_of (drop_suc verdicts n v.0 v.1)))
    where
      of_outcome : (o : Outcome) → IsVerdict plan x y o → drop met faults ≡ outcome_fault (verdict_at n x y here).0.pair o (faults_of (drop (suc n) verdicts)) → IsFaulty plan (pair x y) × (drop (suc met) faults ≡ faults_of (drop (suc n) verdicts))
      of_outcome (Safe cert) is e =
          let yes : is_first (faults_of (drop (suc n) verdicts)) n ≡ true = ap (λ fs. is_first fs n) (sym e) ∙ is_next in
          let no = none_here n in
          absurd cc
      of_outcome (Unsafe fault) is e = (unsafe_way plan x y fault is, after_head faults met _ _ e)

  -- pair n has no fault, and all are left that were left
  pub next_is_not : (n x y met : ℕ) (faults : List (ℕ × Fault)) → slice_get (pairs_of plan) n ≡ Some (x, y) → drop met faults ≡ faults_of (drop n verdicts) → is_first (drop met faults) n ≡ false → (IsFaulty plan (pair x y) → ⊥) × (drop met faults ≡ faults_of (drop (n + 1) verdicts))
  next_is_not n x y met faults here left is_next =
      let v = verdict_at n x y here in
      let is = right.each n x y v.0 v.1 here in
      rw add-one (of_outcome v.0.outcome is.1 (left ∙ ap faults_of (drop_suc verdicts n v.0 v.1)) is.0)
    where
      of_outcome : (o : Outcome) → IsVerdict plan x y o → drop met faults ≡ outcome_fault (verdict_at n x y here).0.pair o (faults_of (drop (suc n) verdicts)) → (verdict_at n x y here).0.pair ≡ n → (IsFaulty plan (pair x y) → ⊥) × (drop met faults ≡ faults_of (drop (suc n) verdicts))
      of_outcome (Safe cert) is e number = (is.no_fault, e)
      of_outcome (Unsafe fault) is e number =
          let no : is_first (outcome_fault (verdict_at n x y here).0.pair (Unsafe fault) (faults_of (drop (suc n) verdicts))) n ≡ false = ap (λ fs. is_first fs n) (sym e) ∙ is_next in
          absurd (eqb-false (verdict_at n x y here).0.pair n no number)

-- ---- so far

-- the ways of the first n pairs, and the faults of the others are left
pub record SoFar (plan : Contents) (faults : List (ℕ × Fault)) (verdicts : List Verdict) (met n : ℕ) (ways : List (Option Outcomes)) : Type 0 where
  pub each : AreWaysOf plan ways
  pub left : drop met faults ≡ faults_of (drop n verdicts)

module _ (plan : Contents) (faults : List (ℕ × Fault)) (right : AreFaults plan faults) (met n x y : ℕ) (ways : List (Option Outcomes)) (here : slice_get (pairs_of plan) n ≡ Some (x, y)) (count : length ways ≡ n) (so_far : SoFar plan faults right.verdicts met n ways) where
  pub unsafe_next : is_first (drop met faults) n ≡ true → SoFar plan faults right.verdicts (met + 1) (n + 1) (ways ++ None ∷ [])
  unsafe_next is =
      let next = next_is plan right.verdicts right.right n x y met faults here so_far.left is in
      record { each = ways_more plan ways n x y None count so_far.each here next.0; left = next.1 }

  pub safe_next : (o : Outcomes) → x < y → Between (Text plan x) (Text plan y) o → is_first (drop met faults) n ≡ false → SoFar plan faults right.verdicts met (n + 1) (ways ++ Some o ∷ [])
  safe_next o lt b is =
      let next = next_is_not plan right.verdicts right.right n x y met faults here so_far.left is in
      record { each = ways_more plan ways n x y (Some o) count so_far.each here (way_of_texts plan x y o lt next.0 b); left = next.1 }

pub so_far_is : (plan : Contents) (faults : List (ℕ × Fault)) (verdicts : List Verdict) (met now n : ℕ) (ways after : List (Option Outcomes)) → now ≡ met → after ≡ ways → SoFar plan faults verdicts met n ways → SoFar plan faults verdicts now n after
so_far_is plan faults verdicts met now n ways after e f h =
    subst (λ (m : ℕ). SoFar plan faults verdicts m n after) (sym e)
    (subst (λ (ws : List (Option Outcomes)). SoFar plan faults verdicts met n ws) (sym f) h)
