-- The pairs that the faults of a plan are of, and their causes one by one.
use Rattle.std.proofs.Common.{◌≡◌, ℕ, zero, suc, ◌+◌, ◌<◌, Some, List, [], ◌∷◌, ◌++◌, length, slice_get, take, refl, ap, sym, subst, ◌∙◌, arith, add-one}
use Rattle.std.specs.Prelude.{option_map}
use Rattle.std.proofs.lemmas.Option.{slice_get_within, slice_get-map}
use Rattle.certificate.specs.declared.values.Fault.{Fault}
use Rattle.pair_walk.specs.declared.walk_pair.Outcome.{Outcome}
use Rattle.pair_walk.specs.declared.walk_pair.Outcome.TheVariants.{Safe, Unsafe}
use Rattle.pair_walk.specs.declared.walk_pair.Verdict.{Verdict}
use Rattle.plan_core.specs.Contents.{Contents}
use Rattle.plan_core.specs.Pairs.{pairs_of}
use Rattle.plan_core.proofs.ListLemmas.{some_at}
use Rattle.verdicts.specs.Faults.{AreFaults, outcome_fault, faults_of}
use Rattle.causes.specs.declared.families.Family.{Family}
use Rattle.causes.specs.declared.meetings.Cause.{Cause}
use Rattle.causes.specs.Causes.{cause_of, causes_of}

-- the verdict that has the fault
record FromVerdict (verdicts : List Verdict) (p : ℕ) : Type 0 where
  i : ℕ
  v : Verdict
  at : slice_get verdicts i ≡ Some v
  number : v.pair ≡ p

further : (w : Verdict) (vs : List Verdict) (p : ℕ) → FromVerdict vs p → FromVerdict (w ∷ vs) p
further w vs p r = record { i = suc r.i; v = r.v; at = r.at; number = r.number }

fault_from : (vs : List Verdict) (t p : ℕ) (f : Fault) → slice_get (faults_of vs) t ≡ Some (p, f) → FromVerdict vs p
fault_from [] t p f e = cc
fault_from (w ∷ vs) t p f e = by w.outcome t e (λ u h. fault_from vs u p f h)
  where
    by : (o : Outcome) → (t : ℕ) → slice_get (outcome_fault w.pair o (faults_of vs)) t ≡ Some (p, f) → ((u : ℕ) → slice_get (faults_of vs) u ≡ Some (p, f) → FromVerdict vs p) → FromVerdict (w ∷ vs) p
    by (Safe c) t e rest = further w vs p (rest t e)
    by (Unsafe g) zero e rest =
        let both : (w.pair, g) ≡ (p, f) = cc in
        record { i = 0; v = w; at = refl; number = ap (λ (it : ℕ × Fault). it.0) both }
    by (Unsafe g) (suc t) e rest = further w vs p (rest t e)

pub pair_listed : (plan : Contents) (faults : List (ℕ × Fault)) → AreFaults plan faults → (t p : ℕ) (f : Fault) → slice_get faults t ≡ Some (p, f) → p < length (pairs_of plan)
pair_listed plan faults h t p f e =
    let r = fault_from h.verdicts t p f (subst (λ (fs : List (ℕ × Fault)). slice_get fs t ≡ Some (p, f)) h.these e) in
    let within = slice_get_within h.verdicts r.i r.v r.at in
    let q = some_at (pairs_of plan) r.i (omega (arith, within, h.right.whole)) in
    let says = h.right.each r.i q.0.0 q.0.1 r.v r.at q.1 in
    omega (arith, within, h.right.whole, says.0, r.number)

take_suc : {X : Type 0} (xs : List X) (k : ℕ) (x : X) → slice_get xs k ≡ Some x → take (suc k) xs ≡ take k xs ++ x ∷ []
take_suc [] k x e = cc
take_suc {X} (y ∷ ys) zero x e = let one : y ≡ x = cc in ap (λ (z : X). z ∷ []) one
take_suc {X} (y ∷ ys) (suc k) x e = ap (λ (zs : List X). y ∷ zs) (take_suc ys k x e)

pub causes_more : (plan : Contents) (families : List Family) (faults : List (ℕ × Fault)) (causes : List Cause) (k : ℕ) (found : ℕ × Fault) (c : Cause) → causes ≡ take k (causes_of plan families faults) → slice_get faults k ≡ Some found → c ≡ cause_of plan families found → causes ++ c ∷ [] ≡ take (k + 1) (causes_of plan families faults)
causes_more plan families faults causes k found c so_far e f =
    let here = slice_get-map (cause_of plan families) faults k ∙ ap (option_map (cause_of plan families)) e in
    let next = take_suc (causes_of plan families faults) k (cause_of plan families found) here in
    (λ i. so_far i ++ f i ∷ []) ∙ sym (ap (λ (n : ℕ). take n (causes_of plan families faults)) (add-one k) ∙ next)
