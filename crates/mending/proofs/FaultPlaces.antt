-- Which pair a fault of a plan is of, and where the fault of a pair stands among those of the plan.
use Rattle.std.proofs.Common.{◌≡◌, ℕ, zero, suc, ◌<◌, Some, List, [], ◌∷◌, length, get_or, slice_get, refl, ap, sym, ◌∙◌, subst, arith}
use Rattle.certificate.specs.declared.values.Fault.{Fault}
use Rattle.pair_walk.specs.declared.walk_pair.Outcome.{Outcome}
use Rattle.pair_walk.specs.declared.walk_pair.Outcome.TheVariants.{Safe, Unsafe}
use Rattle.pair_walk.specs.declared.walk_pair.Verdict.{Verdict}
use Rattle.pair_walk.specs.Verdicts.{IsVerdict}
use Rattle.plan_core.specs.Contents.{Contents}
use Rattle.plan_core.specs.Faults.{IsFaulty}
use Rattle.plan_core.specs.Lawful.{IsPair, pair}
use Rattle.plan_core.specs.Pairs.{pairs_of}
use Rattle.plan_core.proofs.ListLemmas.{some_at, at_get}
use Rattle.plan_core.proofs.PairLaws.{to_pairs, from_pairs, parts_of_IsPair, IsPair-from_parts}
use Rattle.verdicts.specs.Faults.{AreFaults, outcome_fault, faults_of}

-- ---- faults and verdicts

-- the verdict that has the fault
record FromVerdict (verdicts : List Verdict) (p : ℕ) (f : Fault) : Type 0 where
  i : ℕ
  v : Verdict
  at : slice_get verdicts i ≡ Some v
  number : v.pair ≡ p
  outcome : v.outcome ≡ Unsafe f

further : (w : Verdict) (vs : List Verdict) (p : ℕ) (f : Fault) → FromVerdict vs p f → FromVerdict (w ∷ vs) p f
further w vs p f r = record { i = suc r.i; v = r.v; at = r.at; number = r.number; outcome = r.outcome }

fault_from : (vs : List Verdict) (t p : ℕ) (f : Fault) → slice_get (faults_of vs) t ≡ Some (p, f) → FromVerdict vs p f
fault_from [] t p f e = cc
fault_from (w ∷ vs) t p f e = by w.outcome refl t e (λ u h. fault_from vs u p f h)
  where
    by : (o : Outcome) → w.outcome ≡ o → (t : ℕ) → slice_get (outcome_fault w.pair o (faults_of vs)) t ≡ Some (p, f) → ((u : ℕ) → slice_get (faults_of vs) u ≡ Some (p, f) → FromVerdict vs p f) → FromVerdict (w ∷ vs) p f
    by (Safe c) is t e rest = further w vs p f (rest t e)
    by (Unsafe g) is zero e rest =
        let both : (w.pair, g) ≡ (p, f) = cc in
        record { i = 0; v = w; at = refl; number = ap (λ (it : ℕ × Fault). it.0) both; outcome = is ∙ ap (λ (it : ℕ × Fault). Unsafe it.1) both }
    by (Unsafe g) is (suc t) e rest = further w vs p f (rest t e)

fault_to : (vs : List Verdict) (i : ℕ) (v : Verdict) (f : Fault) → slice_get vs i ≡ Some v → v.outcome ≡ Unsafe f → (t : ℕ) × (slice_get (faults_of vs) t ≡ Some (v.pair, f))
fault_to [] i v f e o = cc
fault_to (w ∷ vs) zero v f e o =
    let same : w ≡ v = cc in
    (0, ap (λ (q : Verdict). slice_get (outcome_fault q.pair q.outcome (faults_of vs)) 0) same ∙ ap (λ (out : Outcome). slice_get (outcome_fault v.pair out (faults_of vs)) 0) o)
fault_to (w ∷ vs) (suc i) v f e o = by w.outcome (fault_to vs i v f e o)
  where
    by : (out : Outcome) → ((t : ℕ) × (slice_get (faults_of vs) t ≡ Some (v.pair, f))) → (t : ℕ) × (slice_get (outcome_fault w.pair out (faults_of vs)) t ≡ Some (v.pair, f))
    by (Safe c) r = r
    by (Unsafe g) r = (suc r.0, r.1)

-- ---- faults and pairs

got_at : {X : Type 0} (xs : List X) (k : ℕ) (x : X) → k < length xs → get_or xs k x ≡ x → slice_get xs k ≡ Some x
got_at [] k x h e = absurd (omega (arith, h))
got_at (y ∷ xs) zero x h e = ap Some e
got_at (y ∷ xs) (suc k) x h e = got_at xs k x (omega (arith, h)) e

-- the pair with this number has a fault
pub record IsUnsafePair (plan : Contents) (p : ℕ) : Type 0 where
  pub x : ℕ
  pub y : ℕ
  pub at : slice_get (pairs_of plan) p ≡ Some (x, y)
  pub is_pair : IsPair plan x y
  pub faulty : IsFaulty plan (pair x y)

pub pair_of_fault : (plan : Contents) (faults : List (ℕ × Fault)) → AreFaults plan faults → (t p : ℕ) (f : Fault) → slice_get faults t ≡ Some (p, f) → IsUnsafePair plan p
pair_of_fault plan faults h t p f e =
    let r = fault_from h.verdicts t p f (subst (λ (fs : List (ℕ × Fault)). slice_get fs t ≡ Some (p, f)) h.these e) in
    let within = at_get h.verdicts r.i r.v r.at in
    let q = some_at (pairs_of plan) r.i (omega (arith, within.0, h.right.whole)) in
    let says = h.right.each r.i q.0.0 q.0.1 r.v r.at q.1 in
    let number : r.i ≡ p = sym says.0 ∙ r.number in
    let listed = at_get (pairs_of plan) r.i q.0 q.1 in
    let parts = from_pairs plan q.0.0 q.0.1 (r.i, listed.0, listed.1) in
    let first = subst (IsVerdict plan q.0.0 q.0.1) r.outcome says.1 in
    record {
      x = q.0.0;
      y = q.0.1;
      at = subst (λ (k : ℕ). slice_get (pairs_of plan) k ≡ Some q.0) number q.1;
      is_pair = IsPair-from_parts plan q.0.0 q.0.1 parts.0 parts.1 parts.2;
      faulty = (f.wire.items, q.0.0, q.0.1, f.first, f.second, first.fault);
    }

-- where the fault of this pair stands
pub record HasFaultAt (plan : Contents) (faults : List (ℕ × Fault)) (x y : ℕ) : Type 0 where
  pub t : ℕ
  pub p : ℕ
  pub f : Fault
  pub stands : slice_get faults t ≡ Some (p, f)
  pub at : slice_get (pairs_of plan) p ≡ Some (x, y)

pub fault_of_unsafe : (plan : Contents) (faults : List (ℕ × Fault)) → AreFaults plan faults → (x y : ℕ) → IsPair plan x y → IsFaulty plan (pair x y) → HasFaultAt plan faults x y
fault_of_unsafe plan faults h x y is_pair faulty =
    let parts = parts_of_IsPair plan x y is_pair in
    let listed = to_pairs plan x y parts.0 parts.1 parts.2 in
    let at = got_at (pairs_of plan) listed.0 (x, y) listed.1 listed.2 in
    let v = some_at h.verdicts listed.0 (omega (arith, listed.1, h.right.whole)) in
    let says = h.right.each listed.0 x y v.0 v.1 at in
    by listed.0 v.0 v.1 says.0 at v.0.outcome refl says.1
  where
    by : (i : ℕ) (v : Verdict) → slice_get h.verdicts i ≡ Some v → v.pair ≡ i → slice_get (pairs_of plan) i ≡ Some (x, y) → (o : Outcome) → v.outcome ≡ o → IsVerdict plan x y o → HasFaultAt plan faults x y
    by i v e number at (Safe c) is says = absurd (says.no_fault faulty)
    by i v e number at (Unsafe f) is says =
        let t = fault_to h.verdicts i v f e is in
        record {
          t = t.0;
          p = v.pair;
          f = f;
          stands = subst (λ (fs : List (ℕ × Fault)). slice_get fs t.0 ≡ Some (v.pair, f)) (sym h.these) t.1;
          at = subst (λ (k : ℕ). slice_get (pairs_of plan) k ≡ Some (x, y)) (sym number) at;
        }
