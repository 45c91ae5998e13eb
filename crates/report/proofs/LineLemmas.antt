-- The lines of faults, and those of the verdicts that they stand for.
use Rattle.std.proofs.Math.Bridge.{le_prop}
use Rattle.std.proofs.Math.Logic.{∥∥₁_elim}
use Rattle.std.proofs.Common.{◌≡◌, ℕ, zero, suc, ◌+◌, ◌<◌, Some, List, [], ◌∷◌, ◌++◌, length, slice_get, drop, refl, ap, sym, ◌∙◌, append_assoc, add-one, subst, arith}
use Rattle.certificate.specs.declared.values.Fault.{Fault}
use Rattle.pair_walk.specs.declared.walk_pair.Outcome.{Outcome}
use Rattle.pair_walk.specs.declared.walk_pair.Outcome.TheVariants.{Safe, Unsafe}
use Rattle.pair_walk.specs.declared.walk_pair.Verdict.{Verdict}
use Rattle.plan_core.specs.Contents.{Contents}
use Rattle.plan_core.specs.Pairs.{pairs_of}
use Rattle.verdicts.specs.Faults.{AreFaults, outcome_fault, faults_of}
use Rattle.verdicts.specs.Verdicts.{AreVerdicts}
use Rattle.report.specs.FaultLines.{line_of, fault_lines, fault_report}
use Rattle.report.specs.Lines.{outcome_line, outcome_lines, fault_line, faulty, fault_count, last_line, check_lines}

drop_suc : {X : Type 0} (xs : List X) (k : ℕ) (x : X) → slice_get xs k ≡ Some x → drop k xs ≡ x ∷ drop (suc k) xs
drop_suc [] k x e = cc
drop_suc (y ∷ xs) zero x e = let d : y ≡ x = cc in ap (λ z. z ∷ xs) d
drop_suc (y ∷ xs) (suc k) x e = drop_suc xs k x e

-- one more fault is written
pub fault_step : (plan : Contents) (faults : List (ℕ × Fault)) (k i : ℕ) (fault : Fault) (p : ℕ × ℕ) (text more all : List ℕ) → slice_get faults k ≡ Some (i, fault) → slice_get (pairs_of plan) i ≡ Some p → more ≡ text ++ fault_line plan i p fault → text ++ fault_lines plan (drop k faults) ≡ all → more ++ fault_lines plan (drop (k + 1) faults) ≡ all
fault_step plan faults k i fault p text more all at pair e so_far =
    let left : List ℕ = fault_lines plan (drop (suc k) faults) in
    let line : line_of plan i (slice_get (pairs_of plan) i) fault ≡ fault_line plan i p fault = ap (λ o. line_of plan i o fault) pair in
    let lines : fault_lines plan (drop k faults) ≡ fault_line plan i p fault ++ left = ap (fault_lines plan) (drop_suc faults k (i, fault) at) ∙ ap (λ t. t ++ left) line in
    rw add-one (ap (λ t. t ++ left) e ∙ (append_assoc text (fault_line plan i p fault) left ∙ (ap (λ t. text ++ t) (sym lines) ∙ so_far)))

-- ---- from verdicts to faults

line_of_outcome : (plan : Contents) (i pair : ℕ) (p : ℕ × ℕ) (o : Outcome) (later : List (ℕ × Fault)) → pair ≡ i → slice_get (pairs_of plan) i ≡ Some p → fault_lines plan (outcome_fault pair o later) ≡ outcome_line plan i p o ++ fault_lines plan later
line_of_outcome plan i pair p (Safe cert) later e at = refl
line_of_outcome plan i pair p (Unsafe fault) later e at =
    ap (λ k. line_of plan k (slice_get (pairs_of plan) k) fault ++ fault_lines plan later) e ∙ ap (λ o. line_of plan i o fault ++ fault_lines plan later) at

lines_from : (plan : Contents) (i : ℕ) (vs : List Verdict) (ps : List (ℕ × ℕ)) → length vs ≡ length ps → ((j : ℕ) (v : Verdict) → slice_get vs j ≡ Some v → v.pair ≡ i + j) → ((j : ℕ) (p : ℕ × ℕ) → slice_get ps j ≡ Some p → slice_get (pairs_of plan) (i + j) ≡ Some p) → fault_lines plan (faults_of vs) ≡ outcome_lines plan i vs ps
lines_from plan i [] ps l numbers pairs = refl
lines_from plan i (v ∷ vs) [] l numbers pairs = absurd (omega arith)
lines_from plan i (v ∷ vs) (p ∷ ps) l numbers pairs =
    let here : v.pair ≡ i = omega (arith, numbers 0 v refl) in
    let zero_on : i + 0 ≡ i = omega arith in
    let at : slice_get (pairs_of plan) i ≡ Some p = subst (λ k. slice_get (pairs_of plan) k ≡ Some p) zero_on (pairs 0 p refl) in
    let later = lines_from plan (i + 1) vs ps (omega arith) (λ j w e. omega (arith, numbers (suc j) w e)) (λ j q e.
    let on : i + suc j ≡ i + 1 + j = omega arith in
    subst (λ k. slice_get (pairs_of plan) k ≡ Some q) on (pairs (suc j) q e)) in
    line_of_outcome plan i v.pair p v.outcome (faults_of vs) here at ∙ ap (λ t. outcome_line plan i p v.outcome ++ t) later

count_of_outcome : (pair : ℕ) (o : Outcome) (later : List (ℕ × Fault)) → length (outcome_fault pair o later) ≡ faulty o + length later
count_of_outcome pair (Safe cert) later = omega arith
count_of_outcome pair (Unsafe fault) later = omega arith

count_is : (vs : List Verdict) → length (faults_of vs) ≡ fault_count vs
count_is [] = refl
count_is (v ∷ vs) =
    count_of_outcome v.pair v.outcome (faults_of vs) ∙ ap (λ n. faulty v.outcome + n) (count_is vs)

module _ {X : Type 0} where
  pub some_at : (xs : List X) (i : ℕ) → i < length xs → (x : X) × (slice_get xs i ≡ Some x)
  some_at [] i h = absurd (omega arith)
  some_at (y ∷ xs) zero h = (y, refl)
  some_at (y ∷ xs) (suc i) h = some_at xs i (omega arith)

  at_within : (xs : List X) (i : ℕ) (x : X) → slice_get xs i ≡ Some x → i < length xs
  at_within [] i x e = cc
  at_within (y ∷ xs) zero x e = omega arith
  at_within (y ∷ xs) (suc i) x e = omega (arith, at_within xs i x e)

-- each verdict has the number of its place
numbers_are : (plan : Contents) (vs : List Verdict) → AreVerdicts plan vs → (j : ℕ) (v : Verdict) → slice_get vs j ≡ Some v → v.pair ≡ j
numbers_are plan vs right j v e =
    let p = some_at (pairs_of plan) j (omega (arith, right.whole, at_within vs j v e)) in
    (right.each j p.0.0 p.0.1 v e p.1).0

-- the report of the faults among a plan's verdicts has the lines of those verdicts
pub report_is : (plan : Contents) (vs : List Verdict) (faults : List (ℕ × Fault)) → AreVerdicts plan vs → faults ≡ faults_of vs → fault_report plan faults ≡ check_lines plan vs
report_is plan vs faults right these =
    let n = length (pairs_of plan) in
    let lines = lines_from plan 0 vs (pairs_of plan) right.whole (λ j v e. omega (arith, numbers_are plan vs right j v e)) (λ j p e. let on : 0 + j ≡ j = omega arith in subst (λ k. slice_get (pairs_of plan) k ≡ Some p) (sym on) e) in
    ap (fault_report plan) these ∙ (ap (λ t. t ++ last_line n (length (faults_of vs))) lines ∙ ap (λ k. outcome_lines plan 0 vs (pairs_of plan) ++ last_line n k) (count_is vs))

within_of : (n : ℕ) (vs : List Verdict) → ((j : ℕ) (v : Verdict) → slice_get vs j ≡ Some v → v.pair < n) → (k : ℕ) (f : ℕ × Fault) → slice_get (faults_of vs) k ≡ Some f → f.0 < n
within_of n [] h k f e = cc
within_of n (v ∷ vs) h k f e =
    within_outcome v.pair v.outcome (faults_of vs) (h 0 v refl) (within_of n vs (λ j w d. h (suc j) w d)) k f e
  where
    within_outcome : (pair : ℕ) (o : Outcome) (later : List (ℕ × Fault)) → pair < n → ((k : ℕ) (f : ℕ × Fault) → slice_get later k ≡ Some f → f.0 < n) → (k : ℕ) (f : ℕ × Fault) → slice_get (outcome_fault pair o later) k ≡ Some f → f.0 < n
    within_outcome pair (Safe cert) later here after k f e = after k f e
    within_outcome pair (Unsafe fault) later here after zero f e =
        let same : (pair, fault) ≡ f = cc in subst (λ (g : ℕ × Fault). g.0 < n) same here
    within_outcome pair (Unsafe fault) later here after (suc k) f e = after k f e

-- a fault among a plan's verdicts is that of one of its pairs
pub fault_within : (plan : Contents) (vs : List Verdict) (faults : List (ℕ × Fault)) (k : ℕ) (f : ℕ × Fault) → AreVerdicts plan vs → faults ≡ faults_of vs → slice_get faults k ≡ Some f → f.0 < length (pairs_of plan)
fault_within plan vs faults k f right these e =
    within_of (length (pairs_of plan)) vs (λ j v d. omega (arith, numbers_are plan vs right j v d, right.whole, at_within vs j v d)) k f (ap (λ fs. slice_get fs k) (sym these) ∙ e)

pub listed_within : (plan : Contents) (faults : List (ℕ × Fault)) (k : ℕ) (f : ℕ × Fault) → ∥ AreFaults plan faults ∥₁ → slice_get faults k ≡ Some f → f.0 < length (pairs_of plan)
listed_within plan faults k f right e = ∥∥₁_elim right le_prop (λ r. fault_within plan r.verdicts faults k f r.right r.these e)
