-- The lines of the proofs of a safe plan, and the certificate that they make.
use Rattle.std.proofs.Common.{◌≡◌, ◌⊎◌, ℕ, zero, suc, ◌+◌, ◌<◌, Bool, true, false, ◌==◌, Some, List, [], ◌∷◌, ◌++◌, Vec, vec_len, Global, codes, decimal, drop, length, length-append, map, replicate, set, slice_get, append-nil, add-one, refl, ap, sym, ◌∙◌, append_assoc, subst, arith, inl, inr}
use Rattle.std.specs.List.{flat_map}
use Rattle.std.proofs.lemmas.Bool.{cases_eq}
use Rattle.std.proofs.lemmas.List.{map_push, flat_map_more}
use Rattle.certificate.specs.Certificates.{Certificate, proofs, flaw}
use Rattle.certificate.specs.Proofs.{ProofTree}
use Rattle.certificate.specs.Texts.{proof_line, cert_text}
use Rattle.certificate.specs.declared.values.Fault.{Fault}
use Rattle.pair_walk.specs.declared.walk_pair.Outcome.{Outcome}
use Rattle.pair_walk.specs.declared.walk_pair.Outcome.TheVariants.{Safe, Unsafe}
use Rattle.pair_walk.specs.declared.walk_pair.Verdict.{Verdict}
use Rattle.pair_walk.specs.Verdicts.{IsVerdict, IsSafeProof}
use Rattle.pair_walk.proofs.Faulty.{pair_is_below, same_proof}
use Rattle.plan_core.specs.Contents.{Contents}
use Rattle.plan_core.specs.Limits.{IsWithinLimits}
use Rattle.plan_core.specs.Pairs.{pairs_of}
use Rattle.verdicts.specs.Certificates.{outcome_certificate, certificate_for, IsCertificateText}
use Rattle.verdicts.specs.Faults.{AreFaults, outcome_fault, faults_of}
use Rattle.verdicts.specs.Lines.{IsProofLine, AreLines, HasLine, HaveLines}
use Rattle.verdicts.specs.Texts.{bytes_of, lines_at, joined}
use Rattle.plan_core.specs.SenderPlaces.{place, place_count}
use Rattle.verdicts.proofs.FaultLemmas.{some_cert}
use Rattle.std.proofs.lemmas.List.{length-set}
use Rattle.plan_core.proofs.ListLemmas.{some_at, get_set_same, get_set_other, get_replicate, replicate_push}
use Rattle.plan_core.proofs.SenderPlaceLemmas.{place_within, senders_at_place}
use Rattle.verdicts.proofs.KnownLemmas.{same_got}

-- ---- lines at their places

pub not_empty : (line : Vec ℕ Global) (b : Bool) → b ≡ (vec_len line == 0) → b ≡ false → line.items ≡ [] → ⊥
not_empty line b is full none =
    let l : length line.items ≡ 0 = ap (λ (cs : List ℕ). length cs) none in
    let z : vec_len line ≡ 0 = omega (arith, line.ok.0, l) in
    let wrong : false ≡ true = sym full ∙ (is ∙ ap (λ n. n == 0) z) in
    cc

module _ (plan : Contents) (within : IsWithinLimits plan) (lines : List (Vec ℕ Global)) (so_far : AreLines plan lines) (i q : ℕ) (is_pair : i < length (pairs_of plan)) (is_place : (x y : ℕ) → slice_get (pairs_of plan) i ≡ Some (x, y) → q ≡ place plan x y) where
  pub line_place : q < length lines
  line_place =
      let p = some_at (pairs_of plan) i is_pair in
      let b = pair_is_below plan i p.0 p.1 in
      omega (arith, is_place p.0.0 p.0.1 p.1, so_far.sized, place_within plan within p.0.0 p.0.1 (omega (arith, b.0, b.1)) b.1)

  pub line_made : (line : Vec ℕ Global) → slice_get lines q ≡ Some line → (line.items ≡ [] → ⊥) → HasLine plan lines i
  line_made line got some x y e =
      let here : slice_get lines (place plan x y) ≡ Some line = ap (slice_get lines) (sym (is_place x y e)) ∙ got in
      elim (so_far.right i x y line e here) [ inl none ↦ absurd (some none) | inr right ↦ (line, here, right) ]

  pub line_here : HasLine plan lines i → (line : Vec ℕ Global) × (slice_get lines q ≡ Some line)
  line_here has =
      let p = some_at (pairs_of plan) i is_pair in
      let l = has p.0.0 p.0.1 p.1 in
      (l.0, ap (slice_get lines) (is_place p.0.0 p.0.1 p.1) ∙ l.1)

  pub line_there : (line : Vec ℕ Global) → slice_get lines q ≡ Some line → HasLine plan lines i → (x y : ℕ) → slice_get (pairs_of plan) i ≡ Some (x, y) → IsProofLine plan x y line.items
  line_there line got has x y e =
      let l = has x y e in
      let here : slice_get lines (place plan x y) ≡ Some line = ap (slice_get lines) (sym (is_place x y e)) ∙ got in
      let same : l.0 ≡ line = same_got lines (place plan x y) l.0 line l.1 here in
      subst (λ (k : Vec ℕ Global). IsProofLine plan x y k.items) same l.2

  module _ (line : Vec ℕ Global) (right : (x y : ℕ) → slice_get (pairs_of plan) i ≡ Some (x, y) → IsProofLine plan x y line.items) where
    line_at : (j v w : ℕ) → slice_get (pairs_of plan) j ≡ Some (v, w) → place plan v w ≡ q → IsProofLine plan v w line.items
    line_at j v w e same =
        let p = some_at (pairs_of plan) i is_pair in
        let s = senders_at_place plan within i j p.0.0 p.0.1 v w p.1 e (same ∙ is_place p.0.0 p.0.1 p.1) in
        let here = right p.0.0 p.0.1 p.1 in
        (here.0, same_proof plan p.0.0 p.0.1 v w s.0 s.1 s.2 s.3 here.0 here.1, here.2)

    pub lines_more : AreLines plan (set lines q line)
    lines_more = record {
      sized = length-set lines q line ∙ so_far.sized;
      right = λ j v w l e f. elim (cases_eq (place plan v w) q) [
        | inl same ↦
            let at : slice_get (set lines q line) (place plan v w) ≡ Some line = ap (slice_get (set lines q line)) same ∙ get_set_same lines q line line_place in
            let is : line ≡ l = same_got (set lines q line) (place plan v w) line l at f in
            subst (λ (k : Vec ℕ Global). (k.items ≡ []) ⊎ IsProofLine plan v w k.items) is (inr (line_at j v w e same))
        | inr other ↦ so_far.right j v w l e (sym (get_set_other lines q (place plan v w) line other) ∙ f)
      ];
    }

    pub line_kept : (j : ℕ) → HasLine plan lines j → HasLine plan (set lines q line) j
    line_kept j has x y e = elim (cases_eq (place plan x y) q) [
      | inl same ↦
          let at : slice_get (set lines q line) (place plan x y) ≡ Some line = ap (slice_get (set lines q line)) same ∙ get_set_same lines q line line_place in
          (line, at, line_at j x y e same)
      | inr other ↦ let l = has x y e in (l.0, get_set_other lines q (place plan x y) line other ∙ l.1, l.2)
    ]

    pub line_added : HasLine plan (set lines q line) i
    line_added x y e =
        let same : place plan x y ≡ q = sym (is_place x y e) in
        (line, ap (slice_get (set lines q line)) same ∙ get_set_same lines q line line_place, right x y e)

get_map : (lines : List (Vec ℕ Global)) (k : ℕ) (line : Vec ℕ Global) → slice_get lines k ≡ Some line → slice_get (map (λ (l : Vec ℕ Global). l.items) lines) k ≡ Some line.items
get_map [] k line e = cc
get_map (l ∷ lines) zero line e = let d : l ≡ line = cc in ap (λ (m : Vec ℕ Global). Some m.items) d
get_map (l ∷ lines) (suc k) line e = get_map lines k line e

length_map : (lines : List (Vec ℕ Global)) → length (map (λ (l : Vec ℕ Global). l.items) lines) ≡ length lines
length_map [] = refl
length_map (l ∷ lines) = ap suc (length_map lines)

length_replicate : (n : ℕ) (x : List ℕ) → length (replicate n x) ≡ n
length_replicate zero x = refl
length_replicate (suc n) x = ap suc (length_replicate n x)

pub one_empty_more : (n : ℕ) (lines more : List (Vec ℕ Global)) (line : Vec ℕ Global) → map (λ (l : Vec ℕ Global). l.items) lines ≡ replicate n [] → more ≡ lines ++ line ∷ [] → line.items ≡ [] → map (λ (l : Vec ℕ Global). l.items) more ≡ replicate (n + 1) []
one_empty_more n lines more line e f none =
    rw add-one (ap (map (λ (l : Vec ℕ Global). l.items)) f ∙ (map_push (λ (l : Vec ℕ Global). l.items) lines line ∙ (ap (λ (xs : List (List ℕ)). xs ++ line.items ∷ []) e ∙ (ap (λ (x : List ℕ). replicate n [] ++ x ∷ []) none ∙ replicate_push n []))))

pub no_line_is_made : (plan : Contents) (lines : List (Vec ℕ Global)) (n : ℕ) → map (λ (l : Vec ℕ Global). l.items) lines ≡ replicate n [] → n ≡ place_count plan → AreLines plan lines
no_line_is_made plan lines n all e = record {
  sized = sym (length_map lines) ∙ (ap (λ (ls : List (List ℕ)). length ls) all ∙ (length_replicate n [] ∙ e));
  right = λ i x y line p at.
      let got : slice_get (replicate n []) (place plan x y) ≡ Some line.items = ap (λ (ls : List (List ℕ)). slice_get ls (place plan x y)) (sym all) ∙ get_map lines (place plan x y) line at in
      inl (sym (get_replicate n (place plan x y) [] line.items got));
}

pub have_next : (plan : Contents) (lines : List (Vec ℕ Global)) (n : ℕ) → HaveLines plan lines n → HasLine plan lines n → HaveLines plan lines (n + 1)
have_next plan lines n before here i h =
    elim (cases_eq i n) [ inl e ↦ subst (HasLine plan lines) (sym e) here | inr ne ↦ before i (omega (arith, ne)) ]

-- ---- the certificate of proofs

-- the text has the proofs of the first n pairs, after its heading
pub record HasProofs (plan : Contents) (head text : List ℕ) (n : ℕ) : Type 0 where
  pub trees : List ProofTree
  pub sized : length trees ≡ n
  pub each : (i x y : ℕ) (t : ProofTree) → slice_get trees i ≡ Some t → slice_get (pairs_of plan) i ≡ Some (x, y) → IsSafeProof plan x y t
  pub written : text ≡ head ++ flat_map proof_line trees

pub has_none : (plan : Contents) (head : List ℕ) → HasProofs plan head head 0
has_none plan head = record { trees = []; sized = refl; each = λ i x y t e p. cc; written = sym (append-nil head) }

get_pushed : (ts : List ProofTree) (t : ProofTree) (i : ℕ) (u : ProofTree) → slice_get (ts ++ t ∷ []) i ≡ Some u → (slice_get ts i ≡ Some u) ⊎ ((i ≡ length ts) × (t ≡ u))
get_pushed [] t zero u e = inr (refl, cc)
get_pushed [] t (suc i) u e = cc
get_pushed (s ∷ ts) t zero u e = inl e
get_pushed (s ∷ ts) t (suc i) u e =
    elim (get_pushed ts t i u e) [ inl h ↦ inl h | inr h ↦ inr (ap suc (h.0), h.1) ]

lines_push : (ts : List ProofTree) (t : ProofTree) → flat_map proof_line (ts ++ t ∷ []) ≡ flat_map proof_line ts ++ proof_line t
lines_push [] t = append-nil (proof_line t)
lines_push (s ∷ ts) t =
    ap (λ (cs : List ℕ). proof_line s ++ cs) (lines_push ts t) ∙ sym (append_assoc (proof_line s) (flat_map proof_line ts) (proof_line t))

pub one_line_more : (plan : Contents) (head text more line : List ℕ) (n : ℕ) → HasProofs plan head text n → n < length (pairs_of plan) → ((x y : ℕ) → slice_get (pairs_of plan) n ≡ Some (x, y) → IsProofLine plan x y line) → more ≡ text ++ line → HasProofs plan head more (n + 1)
one_line_more plan head text more line n so_far is_pair right e =
    let p = some_at (pairs_of plan) n is_pair in
    let t = right p.0.0 p.0.1 p.1 in
    record {
      trees = so_far.trees ++ t.0 ∷ [];
      sized = length-append so_far.trees (t.0 ∷ []) ∙ ap (λ m. m + 1) so_far.sized;
      each = λ i x y u at pair. elim (get_pushed so_far.trees t.0 i u at) [
        | inl before ↦ so_far.each i x y u before pair
        | inr here ↦
            let last : i ≡ n = here.0 ∙ so_far.sized in
            let pair_n : slice_get (pairs_of plan) n ≡ Some (x, y) = subst (λ k. slice_get (pairs_of plan) k ≡ Some (x, y)) last pair in
            let same : p.0 ≡ (x, y) = same_got (pairs_of plan) n p.0 (x, y) p.1 pair_n in
            subst (λ (q : ℕ × ℕ). IsSafeProof plan q.0 q.1 u) same (subst (IsSafeProof plan p.0.0 p.0.1) here.1 t.1)
      ];
      written = e ∙ (ap (λ (cs : List ℕ). text ++ cs) t.2 ∙ (ap (λ (cs : List ℕ). cs ++ proof_line t.0) so_far.written ∙ (append_assoc head (flat_map proof_line so_far.trees) (proof_line t.0) ∙ ap (λ (cs : List ℕ). head ++ cs) (sym (lines_push so_far.trees t.0)))));
    }

rest_suc : {X : Type 0} (xs : List X) (k : ℕ) (x : X) → slice_get xs k ≡ Some x → drop k xs ≡ x ∷ drop (suc k) xs
rest_suc [] k x e = cc
rest_suc (y ∷ xs) zero x e = let d : y ≡ x = cc in ap (λ z. z ∷ xs) d
rest_suc (y ∷ xs) (suc k) x e = rest_suc xs k x e

pub rest_at : {X : Type 0} (xs : List X) (k : ℕ) (x : X) → slice_get xs k ≡ Some x → drop k xs ≡ x ∷ drop (k + 1) xs
rest_at xs k x e = rw add-one (rest_suc xs k x e)

pub line_goes_on : (text more : List ℕ) (lines : List (List ℕ)) (k : ℕ) (line whole : List ℕ) → text ++ joined (drop k lines) ≡ whole → slice_get lines k ≡ Some line → more ≡ text ++ line → more ++ joined (drop (k + 1) lines) ≡ whole
line_goes_on text more lines k line whole so_far got e =
    let rest : drop k lines ≡ line ∷ drop (k + 1) lines = rest_at lines k line got in
    ap (λ (cs : List ℕ). cs ++ joined (drop (k + 1) lines)) e ∙ (append_assoc text line (joined (drop (k + 1) lines)) ∙ (sym (ap (λ (ls : List (List ℕ)). text ++ joined ls) rest) ∙ so_far))

-- the line at one more place stands after the others
line_more : (head : List ℕ) (lines : List (Vec ℕ Global)) (order more : List ℕ) (q : ℕ) (line : Vec ℕ Global) → slice_get lines q ≡ Some line → more ≡ order ++ q ∷ [] → head ++ joined (lines_at lines more) ≡ (head ++ joined (lines_at lines order)) ++ line.items
line_more head lines order more q line got e =
    let at : ℕ → List ℕ = λ k. bytes_of (slice_get lines k) in
    let all : lines_at lines more ≡ lines_at lines order ++ line.items ∷ [] =
    ap (λ (ks : List ℕ). lines_at lines ks) e ∙ (map_push at order q ∙ ap (λ (l : List ℕ). lines_at lines order ++ l ∷ []) (ap bytes_of got)) in
    ap (λ (ls : List (List ℕ)). head ++ joined ls) all ∙ sym (flat_map_more (λ (l : List ℕ). l) head (lines_at lines order) line.items)

module _ (plan : Contents) (within : IsWithinLimits plan) (lines : List (Vec ℕ Global)) (are : AreLines plan lines) (all : HaveLines plan lines (length (pairs_of plan))) (head order more : List ℕ) (n q : ℕ) (so_far : HasProofs plan head (head ++ joined (lines_at lines order)) n) (is_pair : n < length (pairs_of plan)) (is_place : (x y : ℕ) → slice_get (pairs_of plan) n ≡ Some (x, y) → q ≡ place plan x y) (e : more ≡ order ++ q ∷ []) where
  pub one_place_more : HasProofs plan head (head ++ joined (lines_at lines more)) (n + 1)
  one_place_more =
      let has = all n is_pair in
      let l = line_here plan within lines are n q is_pair is_place has in
      let right = line_there plan within lines are n q is_pair is_place l.0 l.1 has in
      one_line_more plan head (head ++ joined (lines_at lines order)) (head ++ joined (lines_at lines more)) l.0.items n so_far is_pair right (line_more head lines order more q l.0 l.1 e)

-- the verdicts that these proofs are
verdicts_from : ℕ → List ProofTree → List Verdict
verdicts_from i [] = []
verdicts_from i (t ∷ ts) = record { pair = i; outcome = Safe (some_cert t).0 } ∷ verdicts_from (i + 1) ts

certificate_is : (i : ℕ) (ts : List ProofTree) → certificate_for (verdicts_from i ts) ≡ proofs ts
unfolding verdicts_from
certificate_is i [] = refl
certificate_is i (t ∷ ts) =
    ap (outcome_certificate i (Safe (some_cert t).0)) (certificate_is (i + 1) ts) ∙ ap (λ u. proofs (u ∷ ts)) (some_cert t).1

count_is : (i : ℕ) (ts : List ProofTree) → length (verdicts_from i ts) ≡ length ts
unfolding verdicts_from
count_is i [] = refl
count_is i (t ∷ ts) = ap suc (count_is (i + 1) ts)

verdict_is : (plan : Contents) (n : ℕ) (ts : List ProofTree) (i x y : ℕ) (v : Verdict) → ((t : ProofTree) → slice_get ts i ≡ Some t → IsSafeProof plan x y t) → slice_get (verdicts_from n ts) i ≡ Some v → (v.pair ≡ n + i) × IsVerdict plan x y v.outcome
unfolding verdicts_from
verdict_is plan n [] i x y v right e = cc
verdict_is plan n (t ∷ ts) zero x y v right e =
    let made : Verdict = record { pair = n; outcome = Safe (some_cert t).0 } in
    let same : made ≡ v = cc in
    let says : (made.pair ≡ n + 0) × IsVerdict plan x y made.outcome = (omega arith, subst (IsSafeProof plan x y) (sym (some_cert t).1) (right t refl)) in
    subst (λ (w : Verdict). (w.pair ≡ n + 0) × IsVerdict plan x y w.outcome) same says
verdict_is plan n (t ∷ ts) (suc i) x y v right e =
    let later = verdict_is plan (n + 1) ts i x y v right e in (omega (arith, later.0), later.1)

pub proofs_written : (plan : Contents) (head text : List ℕ) (n m : ℕ) → HasProofs plan head text n → n ≡ length (pairs_of plan) → m ≡ length (pairs_of plan) → head ≡ codes "cert 1\npairs " ++ (decimal m ++ codes "\n") → IsCertificateText plan text
proofs_written plan head text n m h e f is_head =
    let vs = verdicts_from 0 h.trees in
    let lines = flat_map proof_line h.trees in
    let whole : head ++ lines ≡ cert_text (proofs h.trees) = ap (λ (cs : List ℕ). cs ++ lines) is_head
    ∙ (append_assoc (codes "cert 1\npairs ") (decimal m ++ codes "\n") lines ∙ (ap (λ (cs : List ℕ). codes "cert 1\npairs " ++ cs) (append_assoc (decimal m) (codes "\n") lines) ∙ ap (λ k. cert_text_of k lines) (f ∙ sym (h.sized ∙ e)))) in
    record {
      verdicts = vs;
      right = record {
        each = λ i x y v at pair. let it = verdict_is plan 0 h.trees i x y v (λ t u. h.each i x y t u pair) at in (omega (arith, it.0), it.1);
        whole = count_is 0 h.trees ∙ (h.sized ∙ e);
      };
      written = h.written ∙ (whole ∙ ap cert_text (sym (certificate_is 0 h.trees)));
    }
  where
    cert_text_of : ℕ → List ℕ → List ℕ
    cert_text_of m lines = codes "cert 1\npairs " ++ (decimal m ++ (codes "\n" ++ lines))

-- ---- the certificate of a fault

flaw_of_outcome : (k : ℕ) (o : Outcome) (later : List (ℕ × Fault)) (cert : Certificate) (pair : ℕ) (fault : Fault) (rest : List (ℕ × Fault)) → (later ≡ (pair, fault) ∷ rest → cert ≡ flaw pair fault.wire.items fault.first fault.second) → outcome_fault k o later ≡ (pair, fault) ∷ rest → outcome_certificate k o cert ≡ flaw pair fault.wire.items fault.first fault.second
flaw_of_outcome k (Safe c) later cert pair fault rest f h = ap (outcome_certificate k (Safe c)) (f h)
flaw_of_outcome k (Unsafe other) later cert pair fault rest f h =
    let d : (k, other) ≡ (pair, fault) = cc in
    let a : k ≡ pair = ap (λ (f : ℕ × Fault). f.0) d in
    let b : other ≡ fault = ap (λ (f : ℕ × Fault). f.1) d in
    ap (λ j. flaw j other.wire.items other.first other.second) a ∙ ap (λ (g : Fault). flaw pair g.wire.items g.first g.second) b

first_flaw : (vs : List Verdict) (pair : ℕ) (fault : Fault) (rest : List (ℕ × Fault)) → faults_of vs ≡ (pair, fault) ∷ rest → certificate_for vs ≡ flaw pair fault.wire.items fault.first fault.second
first_flaw [] pair fault rest e = cc
first_flaw (v ∷ vs) pair fault rest e =
    flaw_of_outcome v.pair v.outcome (faults_of vs) (certificate_for vs) pair fault rest (first_flaw vs pair fault rest) e

first_of : (faults : List (ℕ × Fault)) (f : ℕ × Fault) → slice_get faults 0 ≡ Some f → (rest : List (ℕ × Fault)) × (faults ≡ f ∷ rest)
first_of [] f e = cc
first_of (g ∷ rest) f e = let d : g ≡ f = cc in (rest, ap (λ h. h ∷ rest) d)

pub flaw_written : (plan : Contents) (faults : List (ℕ × Fault)) (pair : ℕ) (fault : Fault) (text : List ℕ) → AreFaults plan faults → slice_get faults 0 ≡ Some (pair, fault) → text ≡ cert_text (flaw pair fault.wire.items fault.first fault.second) → IsCertificateText plan text
flaw_written plan faults pair fault text h e written =
    let f = first_of faults (pair, fault) e in
    record {
      verdicts = h.verdicts;
      right = h.right;
      written = written ∙ ap cert_text (sym (first_flaw h.verdicts pair fault f.0 (sym h.these ∙ f.1)));
    }
