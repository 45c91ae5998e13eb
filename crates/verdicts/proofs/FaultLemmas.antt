-- The unsafe pairs of a plan as they are listed, and what they say of the plan.
use denote.RawPtr.{null_ptr}
use Rattle.std.proofs.Common.{◌≡◌, ℕ, zero, suc, ◌+◌, ◌<◌, true, ◌&&◌, Option, Some, None, List, [], ◌∷◌, ◌++◌, Box, Global, length, length-append, get_or, slice_get, append-nil, refl, ap, sym, ◌∙◌, append_assoc, subst, arith}
use Rattle.std.proofs.lemmas.Bool.{and_parts, and_from}
use Rattle.std.proofs.lemmas.Option.{slice_get-get_or, slice_get_read, get_or_from_slice_get}
use Rattle.certificate.specs.declared.values.Cert.{Cert}
use Rattle.certificate.specs.declared.values.Cert.TheVariants as cert
use Rattle.certificate.specs.declared.values.Fault.{Fault}
use Rattle.certificate.specs.Proofs.{ProofTree, proof_tree}
use Rattle.certificate.specs.Proofs as proof
use Rattle.pair_walk.specs.declared.walk_pair.Outcome.{Outcome}
use Rattle.pair_walk.specs.declared.walk_pair.Outcome.TheVariants as outcome
use Rattle.pair_walk.specs.declared.walk_pair.Verdict.{Verdict}
use Rattle.pair_walk.specs.Verdicts.{IsVerdict, IsSafeProof}
use Rattle.plan_core.specs.Contents.{Contents}
use Rattle.plan_core.specs.Faults.{IsSafe}
use Rattle.plan_core.specs.Pairs.{pairs_of}
use Rattle.verdicts.specs.declared.known.Known.{Known}
use Rattle.verdicts.specs.declared.known.Known.TheVariants.{NotYet, Safe, Unsafe}
use Rattle.verdicts.specs.declared.listed.Listed.{Listed}
use Rattle.verdicts.specs.Entries.{is_unsafe, all_unsafe, entry, entries, listing_of, listing}
use Rattle.verdicts.specs.Faults.{AreFaults, outcome_fault, faults_of}
use Rattle.verdicts.specs.Known.{IsKnown, KnowsPairs}
use Rattle.plan_core.specs.SenderPlaces.{place}
use Rattle.verdicts.specs.Verdicts.{AreVerdictsOf, IsSafeOutcome, AreSafe}
use Rattle.plan_core.proofs.ListLemmas.{some_at}
use Rattle.verdicts.proofs.TableLemmas.{verdicts_more, safe_plan, safe_verdicts}

-- ---- a proof that no program has made

anywhere : Box (Unit {0}) Global
anywhere = record { ptr = null_ptr; alloc = record { memory = record { seal = tt } }; value = tt }

-- the value of a program that is this proof
pub some_cert : (t : ProofTree) → (c : Cert) × (proof_tree c ≡ t)
some_cert (proof.part k) = (cert.Part k, refl)
some_cert proof.short = (cert.Short, refl)
some_cert proof.alike = (cert.Alike, refl)
some_cert (proof.byte p q) =
    let a = some_cert p in
    let b = some_cert q in
    (cert.Byte' anywhere a.0 anywhere b.0, ap (λ t. proof.byte t (proof_tree b.0)) a.1 ∙ ap (proof.byte p) b.1)
some_cert (proof.read p q) =
    let a = some_cert p in
    let b = some_cert q in
    (cert.Read' anywhere a.0 anywhere b.0, ap (λ t. proof.read t (proof_tree b.0)) a.1 ∙ ap (proof.read p) b.1)
some_cert (proof.again p) = let a = some_cert p in (cert.Again' anywhere a.0, ap proof.again a.1)

-- ---- lists that grow

outcome_fault-append : (pair : ℕ) (o : Outcome) (xs ys : List (ℕ × Fault)) → outcome_fault pair o (xs ++ ys) ≡ outcome_fault pair o xs ++ ys
outcome_fault-append pair (outcome.Safe c) xs ys = refl
outcome_fault-append pair (outcome.Unsafe f) xs ys = refl

faults_of-push : (vs : List Verdict) (v : Verdict) → faults_of (vs ++ v ∷ []) ≡ faults_of vs ++ outcome_fault v.pair v.outcome []
faults_of-push [] v = refl
faults_of-push (w ∷ vs) v =
    ap (outcome_fault w.pair w.outcome) (faults_of-push vs v) ∙ outcome_fault-append w.pair w.outcome (faults_of vs) (outcome_fault v.pair v.outcome [])

entries-append : (known : List Known) (ls ms : List Listed) → entries known (ls ++ ms) ≡ entries known ls ++ entries known ms
entries-append known [] ms = refl
entries-append known (l ∷ ls) ms =
    ap (λ es. entry l.pair (slice_get known l.place) ++ es) (entries-append known ls ms) ∙ sym (append_assoc (entry l.pair (slice_get known l.place)) (entries known ls) (entries known ms))

all_unsafe-append : (known : List Known) (ls ms : List Listed) → all_unsafe known ls ≡ true → all_unsafe known ms ≡ true → all_unsafe known (ls ++ ms) ≡ true
all_unsafe-append known [] ms e f = f
all_unsafe-append known (l ∷ ls) ms e f =
    let parts = and_parts (is_unsafe (slice_get known l.place)) (all_unsafe known ls) e in
    and_from (is_unsafe (slice_get known l.place)) (all_unsafe known (ls ++ ms)) parts.0 (all_unsafe-append known ls ms parts.1 f)

-- ---- the list so far

-- what is listed are the faults among the verdicts of the first n pairs
pub record ListsFaults (plan : Contents) (known : List Known) (listed : List Listed) (n : ℕ) : Type 0 where
  pub verdicts : List Verdict
  pub sized : length verdicts ≡ n
  pub each : AreVerdictsOf plan verdicts
  pub these : entries known listed ≡ faults_of verdicts
  pub unsafe : all_unsafe known listed ≡ true

module _ (plan : Contents) (known : List Known) (listed : List Listed) (n : ℕ) (so_far : ListsFaults plan known listed n) (x y : ℕ) (is : slice_get (pairs_of plan) n ≡ Some (x, y)) where
  with_verdict : (o : Outcome) → IsVerdict plan x y o → (more : List Listed) → entries known more ≡ outcome_fault n o [] → all_unsafe known more ≡ true → ListsFaults plan known (listed ++ more) (n + 1)
  with_verdict o right more e all =
      let v : Verdict = record { pair = n; outcome = o } in
      record {
        verdicts = so_far.verdicts ++ v ∷ [];
        sized = length-append so_far.verdicts (v ∷ []) ∙ ap (λ m. m + 1) so_far.sized;
        each = verdicts_more plan so_far.verdicts n v so_far.sized so_far.each refl (λ a b p.
            let d : Some (x, y) ≡ Some (a, b) = sym is ∙ p in
            let same : (x, y) ≡ (a, b) = cc in
            subst (λ (q : ℕ × ℕ). IsVerdict plan q.0 q.1 o) same right);
        these = entries-append known listed more ∙ (ap (λ es. es ++ entries known more) so_far.these ∙ (ap (λ es. faults_of so_far.verdicts ++ es) e ∙ sym (faults_of-push so_far.verdicts v)));
        unsafe = all_unsafe-append known listed more so_far.unsafe all;
      }

  lists_more_of : (k : Known) (q : ℕ) → slice_get known q ≡ Some k → IsKnown plan x y k → ListsFaults plan known (listed ++ listing known n q) (n + 1)
  lists_more_of NotYet q e h = absurd h
  lists_more_of Safe q e h =
      let c = some_cert h.0 in
      let none : listing known n q ≡ [] = ap (λ o. listing_of o n q) e in
      subst (λ more. ListsFaults plan known (listed ++ more) (n + 1)) (sym none) (with_verdict (outcome.Safe c.0) (subst (IsSafeProof plan x y) (sym c.1) h.1) [] refl refl)
  lists_more_of (Unsafe fault) q e h =
      let l : Listed = record { pair = n; place = q } in
      let one : listing known n q ≡ l ∷ [] = ap (λ o. listing_of o n q) e in
      let found : entries known (l ∷ []) ≡ (n, fault) ∷ [] = ap (λ o. entry n o ++ []) e in
      let held : all_unsafe known (l ∷ []) ≡ true = ap (λ o. is_unsafe o && true) e in
      subst (λ more. ListsFaults plan known (listed ++ more) (n + 1)) (sym one) (with_verdict (outcome.Unsafe fault) h (l ∷ []) found held)

pub lists_more : (plan : Contents) (known : List Known) (listed more : List Listed) (n q : ℕ) → KnowsPairs plan known (length (pairs_of plan)) → ListsFaults plan known listed n → n < length (pairs_of plan) → ((x y : ℕ) → slice_get (pairs_of plan) n ≡ Some (x, y) → q ≡ place plan x y) → more ≡ listed ++ listing known n q → ListsFaults plan known more (n + 1)
lists_more plan known listed more n q knows so_far is_pair is_place all =
    let p = some_at (pairs_of plan) n is_pair in
    let k = knows n is_pair p.0.0 p.0.1 p.1 in
    subst (λ ls. ListsFaults plan known ls (n + 1)) (sym all) (lists_more_of plan known listed n so_far p.0.0 p.0.1 p.1 k.0 q (ap (slice_get known) (is_place p.0.0 p.0.1 p.1) ∙ k.1) k.2)

-- ---- a listed fault

-- what stands at place k of a list whose entries are all faults
pub record IsEntry (known : List Known) (listed : List Listed) (k : ℕ) (l : Listed) : Type 0 where
  pub fault : Fault
  pub stands : slice_get known l.place ≡ Some (Unsafe fault)
  pub listed_so : slice_get (entries known listed) k ≡ Some (l.pair, fault)

fault_at : (o : Option Known) → is_unsafe o ≡ true → (f : Fault) × (o ≡ Some (Unsafe f))
fault_at (Some (Unsafe f)) e = (f, refl)
fault_at (Some NotYet) e = cc
fault_at (Some Safe) e = cc
fault_at None e = cc

pub entry_at : (known : List Known) (listed : List Listed) (k : ℕ) (l : Listed) → all_unsafe known listed ≡ true → slice_get listed k ≡ Some l → IsEntry known listed k l
entry_at known [] k l all e = cc
entry_at known (m ∷ ls) zero l all e =
    let same : m ≡ l = cc in
    let parts = and_parts (is_unsafe (slice_get known m.place)) (all_unsafe known ls) all in
    let f = fault_at (slice_get known m.place) parts.0 in
    let here : slice_get (entries known (m ∷ ls)) 0 ≡ Some (m.pair, f.0) = ap (λ o. slice_get (entry m.pair o ++ entries known ls) 0) f.1 in
    subst (IsEntry known (m ∷ ls) 0) same (record { fault = f.0; stands = f.1; listed_so = here })
entry_at known (m ∷ ls) (suc k) l all e =
    let parts = and_parts (is_unsafe (slice_get known m.place)) (all_unsafe known ls) all in
    let f = fault_at (slice_get known m.place) parts.0 in
    let later = entry_at known ls k l parts.1 e in
    record {
      fault = later.fault;
      stands = later.stands;
      listed_so = ap (λ o. slice_get (entry m.pair o ++ entries known ls) (suc k)) f.1 ∙ later.listed_so;
    }

pub entry_count : (known : List Known) (listed : List Listed) → all_unsafe known listed ≡ true → length (entries known listed) ≡ length listed
entry_count known [] all = refl
entry_count known (m ∷ ls) all =
    let parts = and_parts (is_unsafe (slice_get known m.place)) (all_unsafe known ls) all in
    let f = fault_at (slice_get known m.place) parts.0 in
    ap (λ o. length (entry m.pair o ++ entries known ls)) f.1 ∙ ap suc (entry_count known ls parts.1)

-- ---- safe plans

safe_if_none : (vs : List Verdict) → faults_of vs ≡ [] → AreSafe vs
safe_if_none [] e i v f = cc
safe_if_none (w ∷ vs) e zero v f =
    let same : w ≡ v = cc in subst (λ u. IsSafeOutcome u.outcome) same (first_safe w.pair w.outcome (faults_of vs) e)
  where
    first_safe : (pair : ℕ) (o : Outcome) (later : List (ℕ × Fault)) → outcome_fault pair o later ≡ [] → IsSafeOutcome o
    first_safe pair (outcome.Safe c) later e = tt
    first_safe pair (outcome.Unsafe g) later e = cc
safe_if_none (w ∷ vs) e (suc i) v f = safe_if_none vs (later_none w.pair w.outcome (faults_of vs) e) i v f
  where
    later_none : (pair : ℕ) (o : Outcome) (later : List (ℕ × Fault)) → outcome_fault pair o later ≡ [] → later ≡ []
    later_none pair (outcome.Safe c) later e = e
    later_none pair (outcome.Unsafe g) later e = cc

none_if_safe : (vs : List Verdict) → AreSafe vs → faults_of vs ≡ []
none_if_safe [] all = refl
none_if_safe (w ∷ vs) all =
    no_fault w.pair w.outcome (faults_of vs) (all 0 w refl) ∙ none_if_safe vs (λ i v e. all (suc i) v e)
  where
    no_fault : (pair : ℕ) (o : Outcome) (later : List (ℕ × Fault)) → IsSafeOutcome o → outcome_fault pair o later ≡ later
    no_fault pair (outcome.Safe c) later h = refl
    no_fault pair (outcome.Unsafe g) later h = absurd h

nothing : (xs : List (ℕ × Fault)) → length xs ≡ 0 → xs ≡ []
nothing [] e = refl
nothing (x ∷ xs) e = absurd (omega arith)

pub safe_without_faults : (plan : Contents) (faults : List (ℕ × Fault)) → AreFaults plan faults → length faults ≡ 0 → IsSafe plan
safe_without_faults plan faults h e =
    safe_plan plan h.verdicts h.right (safe_if_none h.verdicts (sym h.these ∙ nothing faults e))

pub no_faults_where_safe : (plan : Contents) (faults : List (ℕ × Fault)) → AreFaults plan faults → IsSafe plan → length faults ≡ 0
no_faults_where_safe plan faults h safe =
    ap length (h.these ∙ none_if_safe h.verdicts (safe_verdicts plan h.verdicts h.right safe))

-- ---- what a place holds

pub one_fault_there : (known : List Known) (place : ℕ) (k : Known) (fault : Fault) → slice_get known place ≡ Some (Unsafe fault) → k ≡ get_or known place k → k ≡ Unsafe fault
one_fault_there known place k fault stands read =
    read ∙ get_or_from_slice_get known place (Unsafe fault) k stands

none_listed : (k : Known) (pair place : ℕ) → ((fault : Fault) → k ≡ Unsafe fault → ⊥) → listing_of (Some k) pair place ≡ []
none_listed NotYet pair place n = refl
none_listed Safe pair place n = refl
none_listed (Unsafe fault) pair place n = absurd (n fault refl)

pub not_listed : (known : List Known) (place pair : ℕ) (d : Known) → place < length known → ((fault : Fault) → get_or known place d ≡ Unsafe fault → ⊥) → (listed : List Listed) → listed ≡ listed ++ listing known pair place
not_listed known place pair d h n listed =
    let none : listing known pair place ≡ [] = ap (λ o. listing_of o pair place) (slice_get-get_or known place d h) ∙ none_listed (get_or known place d) pair place n in
    sym (ap (λ more. listed ++ more) none ∙ append-nil listed)

pub listed_entry : (known : List Known) (listed : List Listed) (k : ℕ) (l : Listed) → all_unsafe known listed ≡ true → k < length (entries known listed) → l ≡ get_or listed k l → IsEntry known listed k l
listed_entry known listed k l all h read =
    let within : k < length listed = omega (arith, h, entry_count known listed all) in
    entry_at known listed k l all (slice_get_read listed (length listed) k l refl within read)
