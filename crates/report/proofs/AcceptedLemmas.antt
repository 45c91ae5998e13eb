-- What certify writes is accepted: of a safe plan as safe, and of another as unsafe.
use Rattle.std.proofs.Common.{◌≡◌, ◌≢◌, ◌⊎◌, inl, inr, ℕ, zero, suc, ◌<◌, ◌≤◌, false, Option, Some, None, List, [], ◌∷◌, ◌++◌, length, get_or, slice_get, map, refl, subst, ap, sym, ◌∙◌, arith, length-append}
use Rattle.std.specs.Prelude.{All}
use Rattle.std.specs.List.{AllByRecursion}
use Rattle.std.proofs.lemmas.List.{length-map}
use Rattle.std.proofs.lemmas.List.Elements.{All-map, All-from_recursion, recursion_from_All}
use Rattle.message_tree.specs.declared.bits.Bit.{Bit}
use Rattle.message_tree.specs.declared.bits.Bit.TheVariants.{One}
use Rattle.message_tree.specs.declared.items.Item.{Item}
use Rattle.message_tree.specs.declared.items.Item.TheVariants as item
use Rattle.message_tree.specs.declared.items.Kind.{Kind}
use Rattle.message_tree.specs.declared.items.Kind.TheVariants as kind
use Rattle.message_tree.proofs.BitLemmas.{length-bits_below}
use Rattle.message_tree.specs.Items.{kind_of, KindsClash}
use Rattle.message_tree.specs.Laws.{is_end, HasNoEnd}
use Rattle.message_tree.specs.Sizes.{frame_bytes}
use Rattle.message_tree.specs.Texts.{Language, Sender, message, interrupt, SentThen, write_header, read_header}
use Rattle.message_tree.specs.Trees as tree
use Rattle.message_tree.specs.Trees.{FrameTree}
use Rattle.certificate.specs.Certificates.{Certificate, proofs, flaw}
use Rattle.certificate.specs.Proofs.{ProofTree, alike, proof_tree}
use Rattle.certificate.specs.Texts.{IsPrintableProof, IsPrintable, GoesOn, cert_text}
use Rattle.certificate.specs.declared.values.Fault.{Fault}
use Rattle.plan_core.specs.Contents.{Contents}
use Rattle.plan_core.specs.Faults as faults
use Rattle.plan_core.specs.Faults.{IsSafe}
use Rattle.plan_core.specs.Lawful.{pair}
use Rattle.plan_core.specs.Limits.{IsWithinLimits}
use Rattle.plan_core.specs.Pairs.{pairs_of}
use Rattle.plan_core.specs.Participants.{message_sender, interrupt_sender, interrupt_bits, sender_of, sender_at, participants_of, TextOf, Text}
use Rattle.plan_core.specs.declared.plans.Participant.{Participant}
use Rattle.plan_core.specs.declared.plans.Participant.TheVariants.{Sending, Interrupt}
use Rattle.plan_core.proofs.ContentsLemmas.{pairs_few}
use Rattle.plan_core.proofs.Texts.{fair_text}
use Rattle.pair_walk.specs.Canonical.{IsCanonical}
use Rattle.pair_walk.specs.Verdicts.{CanonicalBetween, IsVerdict}
use Rattle.pair_walk.specs.declared.walk_pair.Outcome.{Outcome}
use Rattle.pair_walk.specs.declared.walk_pair.Outcome.TheVariants.{Safe, Unsafe}
use Rattle.pair_walk.specs.declared.walk_pair.Verdict.{Verdict}
use Rattle.pair_walk.proofs.Unique.{canonical_proves}
use Rattle.verdicts.specs.Certificates.{with_proof, outcome_certificate, certificate_for}
use Rattle.verdicts.specs.Verdicts.{AreVerdicts, IsSafeOutcome, AreSafe}
use Rattle.verdicts.proofs.TableLemmas.{safe_plan, safe_verdicts}
use Rattle.verifying.specs.Accepts.{IsCertified, IsRefuted}
use Rattle.cert_check.specs.Proved.{ProvesPair, Certifies}
use Rattle.plan_text.specs.Grammar.{Spells}
use Rattle.report.proofs.PrintableLemmas.{IsSmall, canonical_printable, length_of_header}

-- ---- lists by their places

at_index : {X : Type 0} (xs : List X) (k : ℕ) (d : X) → k < length xs → slice_get xs k ≡ Some (get_or xs k d)
at_index [] k d h = absurd (omega arith)
at_index (x ∷ xs) zero d h = refl
at_index (x ∷ xs) (suc k) d h = at_index xs k d (omega arith)

some_at : {X : Type 0} (xs : List X) (k : ℕ) → k < length xs → (x : X) × (slice_get xs k ≡ Some x)
some_at [] k h = absurd (omega arith)
some_at (x ∷ xs) zero h = (x, refl)
some_at (x ∷ xs) (suc k) h = some_at xs k (omega arith)

within : {X : Type 0} (xs : List X) (k : ℕ) (x : X) → slice_get xs k ≡ Some x → k < length xs
within [] k x e = cc
within (y ∷ xs) zero x e = omega arith
within (y ∷ xs) (suc k) x e = let h = within xs k x e in omega arith

get_map : {X Y : Type 0} (f : X → Y) (xs : List X) (k : ℕ) (y : Y) → slice_get (map f xs) k ≡ Some y → (x : X) × (slice_get xs k ≡ Some x) × (f x ≡ y)
get_map f [] k y e = cc
get_map f (x ∷ xs) zero y e = (x, refl, cc)
get_map f (x ∷ xs) (suc k) y e = get_map f xs k y e

-- ---- what participants send is small

small_message : (messages : List (List ℕ × FrameTree)) → AllByRecursion (λ m. frame_bytes m.1 ≤ 256) messages → (m : ℕ) (s : Sender) → message_sender (slice_get messages m) ≡ Some s → IsSmall s
small_message [] all m s e = cc
small_message (x ∷ xs) all zero s e =
    let same : message x.1 ≡ s = cc in
    subst IsSmall same (record { header = length_of_header x.1; bytes = λ f is. let q : x.1 ≡ f = cc in subst (λ (g : FrameTree). frame_bytes g ≤ 256) q all.0 })
small_message (x ∷ xs) all (suc m) s e = small_message xs all.1 m s e

small_interrupt : (o : Option (List ℕ × ℕ)) (s : Sender) → interrupt_sender o ≡ Some s → IsSmall s
small_interrupt None s e = cc
small_interrupt (Some i) s e =
    let same : interrupt (interrupt_bits i.1) ≡ s = cc in
    subst IsSmall same (record { header = omega (arith, length-append (interrupt_bits i.1) (One ∷ []), length-bits_below 7 127 i.1); bytes = λ f is. cc })

small_participant : (plan : Contents) → IsWithinLimits plan → (o : Option Participant) (s : Sender) → sender_of plan o ≡ Some s → IsSmall s
small_participant plan limits None s e = cc
small_participant plan limits (Some (Sending c m)) s e = small_message plan.messages (recursion_from_All (λ m. frame_bytes m.1 ≤ 256) plan.messages limits.messages.bytes) m s e
small_participant plan limits (Some (Interrupt k)) s e = small_interrupt (slice_get plan.interrupts k) s e

small_sender : (plan : Contents) → IsWithinLimits plan → (p : ℕ) (s : Sender) → sender_at plan p ≡ Some s → IsSmall s
unfolding sender_at
small_sender plan limits p s e = small_participant plan limits (slice_get (participants_of plan) p) s e

-- ---- proofs of a safe plan

abbrev outcome_tree : Outcome → ProofTree
outcome_tree (Safe cert) = proof_tree cert
outcome_tree (Unsafe fault) = alike

abbrev tree_of : Verdict → ProofTree
tree_of v = outcome_tree v.outcome

one_proof_more : (i : ℕ) (o : Outcome) → IsSafeOutcome o → (rest : Certificate) (trees : List ProofTree) → rest ≡ proofs trees → outcome_certificate i o rest ≡ proofs (outcome_tree o ∷ trees)
one_proof_more i (Safe cert) s rest trees e = ap (with_proof (proof_tree cert)) e
one_proof_more i (Unsafe fault) s rest trees e = absurd s

all_proofs : (verdicts : List Verdict) → AreSafe verdicts → certificate_for verdicts ≡ proofs (map tree_of verdicts)
all_proofs [] safe = refl
all_proofs (v ∷ vs) safe = one_proof_more v.pair v.outcome (safe 0 v refl) (certificate_for vs) (map tree_of vs) (all_proofs vs (λ i w e. safe (suc i) w e))

record Between (plan : Contents) (x y : ℕ) (p : ProofTree) : Type 0 where
  s : Sender
  t : Sender
  first : sender_at plan x ≡ Some s
  second : sender_at plan y ≡ Some t
  canonical : IsCanonical p s t

between : (plan : Contents) (x y : ℕ) (p : ProofTree) (o q : Option Sender) → sender_at plan x ≡ o → sender_at plan y ≡ q → CanonicalBetween o q p → Between plan x y p
between plan x y p (Some s) (Some t) e f h = record { s = s; t = t; first = e; second = f; canonical = h }
between plan x y p None q e f h = absurd h
between plan x y p (Some s) None e f h = absurd h

proof_between : (plan : Contents) (x y : ℕ) (o : Outcome) → IsVerdict plan x y o → IsSafeOutcome o → Between plan x y (outcome_tree o)
proof_between plan x y (Safe cert) v s = between plan x y (proof_tree cert) (sender_at plan x) (sender_at plan y) refl refl v.canonical
proof_between plan x y (Unsafe fault) v s = absurd s

module _ (plan : Contents) (limits : IsWithinLimits plan) (verdicts : List Verdict) (right : AreVerdicts plan verdicts) where
  module _ (safe : AreSafe verdicts) where
    at_pair : (i : ℕ) (v : Verdict) → slice_get verdicts i ≡ Some v → (p : ℕ × ℕ) × (slice_get (pairs_of plan) i ≡ Some p) × Between plan p.0 p.1 (tree_of v)
    at_pair i v e =
        let p = some_at (pairs_of plan) i (omega (arith, within verdicts i v e, right.whole)) in
        (p.0, p.1, proof_between plan p.0.0 p.0.1 v.outcome (right.each i p.0.0 p.0.1 v e p.1).1 (safe i v e))

    certifies : Certifies plan (map tree_of verdicts)
    certifies = record {
      count = length-map verdicts tree_of ∙ right.whole;
      each = λ i proof e.
          let v = get_map tree_of verdicts i proof e in
          let here = at_pair i v.0 v.1 in
          let b = here.2 in
          subst (ProvesPair plan i) v.2 (record { x = here.0.0; y = here.0.1; listed = here.1; s = b.s; t = b.t; first = b.first; second = b.second; proved = canonical_proves (tree_of v.0) b.s b.t b.canonical });
    }

    printable : IsPrintable (proofs (map tree_of verdicts))
    printable = (
      All-map (IsPrintableProof 512) tree_of verdicts (λ j d h.
          let v = get_or verdicts j d in
          let b = (at_pair j v (at_index verdicts j d h)).2 in
          canonical_printable (tree_of v) b.s b.t (small_sender plan limits _ b.s b.first) b.canonical),
      omega (arith, length-map verdicts tree_of, right.whole, pairs_few plan limits),
    )

  pub accepted_safe : (text report : List ℕ) → Spells text plan → report ≡ cert_text (certificate_for verdicts) → IsSafe plan → IsCertified text report
  accepted_safe text report spelled written judged =
      let safe = safe_verdicts plan verdicts right judged in
      record {
        plan = plan;
        plan_spelled = spelled;
        trees = map tree_of verdicts;
        proofs_spelled = record { printable = printable safe; text_is = written ∙ ap cert_text (all_proofs verdicts safe) };
        certified = certifies safe;
      }

-- ---- the wire before a fault

sent_first : (bits : List Bit) (P : Language) (x : Item) (u : List Item) → 0 < length bits → SentThen bits P (x ∷ u) → kind_of x ≡ kind.Sent
sent_first [] P x u some h = absurd (omega arith)
sent_first (b ∷ bs) P (item.Sent s) u some h = refl
sent_first (b ∷ bs) P (item.Heard s) u some h = absurd h
sent_first (b ∷ bs) P item.Again u some h = absurd h
sent_first (b ∷ bs) P item.Stop u some h = absurd h
sent_first (b ∷ bs) P item.Claim u some h = absurd h

text_begins : (o : Option Sender) (x : Item) (u : List Item) → TextOf o (x ∷ u) → kind_of x ≡ kind.Sent
text_begins None x u h = absurd h
text_begins (Some (message (tree.write a p r))) x u h = let l = length_of_header (tree.write a p r) in sent_first (write_header a) _ x u (omega arith) h
text_begins (Some (message (tree.read a c p r))) x u h = let l = length_of_header (tree.read a c p r) in sent_first (read_header a) _ x u (omega arith) h
text_begins (Some (interrupt a)) x u h = sent_first (a ++ One ∷ []) _ x u (omega (arith, length-append a (One ∷ []))) h

sent_do_not_clash : (j k : Kind) → j ≡ kind.Sent → k ≡ kind.Sent → KindsClash j k → ⊥
sent_do_not_clash j k e f (inl h) = h (e ∙ sym f)
sent_do_not_clash j k e f (inr h) = let g = h.0 in cc

goes_on : (x : Item) → is_end x ≡ false → GoesOn x
goes_on (item.Sent b) h = tt
goes_on (item.Heard b) h = tt
goes_on item.Again h = tt
goes_on item.Stop h = absurd cc
goes_on item.Claim h = absurd cc

nothing_there : (u rest : List Item) (x : Item) → u ++ x ∷ rest ≡ [] → ⊥
nothing_there u rest x e = absurd (omega (arith, ap length e, length-append u (x ∷ rest)))

-- what is followed in a text does not end it
front_goes_on : (u before rest : List Item) (x e : Item) → HasNoEnd before → u ++ x ∷ rest ≡ before ++ e ∷ [] → AllByRecursion GoesOn u
front_goes_on [] before rest x e h q = tt
front_goes_on (y ∷ u) [] rest x e h q = let empty : u ++ x ∷ rest ≡ [] = cc in absurd (nothing_there u rest x empty)
front_goes_on (y ∷ u) (z ∷ before) rest x e h q =
    let same : z ≡ y = cc in
    let tails : u ++ x ∷ rest ≡ before ++ e ∷ [] = cc in
    (goes_on y (subst (λ (i : Item). is_end i ≡ false) same h.0), front_goes_on u before rest x e h.1 tails)

wire_goes_on : (plan : Contents) (p : ℕ) (u rest : List Item) (x : Item) → Text plan p (u ++ x ∷ rest) → All GoesOn u
wire_goes_on plan p u rest x t =
    let ends = (fair_text plan p).ends (u ++ x ∷ rest) t in
    All-from_recursion GoesOn u (front_goes_on u ends.before rest x ends.end ends.goes_on ends.whole)

wire_is_some : (plan : Contents) (x y : ℕ) (u : List Item) (j k : Kind) → faults.Fault plan (pair x y) u x y j k → u ≢ []
wire_is_some plan x y u j k f none =
    let a = f.first_offers in
    let b = f.second_offers in
    let at_start : (p : ℕ) (i : Item) (rest : List Item) → Text plan p (u ++ i ∷ rest) → kind_of i ≡ kind.Sent =
    λ p i rest t. text_begins (sender_at plan p) i rest (subst (λ (w : List Item). Text plan p (w ++ i ∷ rest)) none t) in
    sent_do_not_clash j k (sym a.2 ∙ at_start x a.0 a.1.0 a.1.1) (sym b.2 ∙ at_start y b.0 b.1.0 b.1.1) f.clash

-- ---- the first fault of an unsafe plan

record FlawAt (verdicts : List Verdict) : Type 0 where
  i : ℕ
  v : Verdict
  fault : Fault
  here : slice_get verdicts i ≡ Some v
  bad : v.outcome ≡ Unsafe fault
  certificate_is : certificate_for verdicts ≡ flaw v.pair fault.wire.items fault.first fault.second

flaw_or_safe : (v : Verdict) (vs : List Verdict) (o : Outcome) → v.outcome ≡ o → AreSafe vs ⊎ FlawAt vs → AreSafe (v ∷ vs) ⊎ FlawAt (v ∷ vs)
flaw_or_safe v vs (Unsafe fault) e rest =
    inr (record { i = 0; v = v; fault = fault; here = refl; bad = e; certificate_is = ap (λ o. outcome_certificate v.pair o (certificate_for vs)) e })
flaw_or_safe v vs (Safe cert) e (inr f) =
    inr (record { i = suc f.i; v = f.v; fault = f.fault; here = f.here; bad = f.bad; certificate_is = ap (λ o. outcome_certificate v.pair o (certificate_for vs)) e ∙ ap (with_proof (proof_tree cert)) f.certificate_is })
flaw_or_safe v vs (Safe cert) e (inl safe) = inl (all_safe v vs cert e safe)
  where
    all_safe : (v : Verdict) (vs : List Verdict) (cert : _) → v.outcome ≡ Safe cert → AreSafe vs → AreSafe (v ∷ vs)
    all_safe v vs cert e safe zero w h =
        let same : v ≡ w = cc in
        subst (λ (x : Verdict). IsSafeOutcome x.outcome) same (subst IsSafeOutcome (sym e) tt)
    all_safe v vs cert e safe (suc i) w h = safe i w h

find_flaw : (verdicts : List Verdict) → AreSafe verdicts ⊎ FlawAt verdicts
find_flaw [] = inl (λ i v e. cc)
find_flaw (v ∷ vs) = flaw_or_safe v vs v.outcome refl (find_flaw vs)

module _ (plan : Contents) (limits : IsWithinLimits plan) (verdicts : List Verdict) (right : AreVerdicts plan verdicts) where
  module _ (f : FlawAt verdicts) where
    refuted : (text report : List ℕ) → Spells text plan → report ≡ cert_text (certificate_for verdicts) → IsRefuted text report
    refuted text report spelled written =
        let p = some_at (pairs_of plan) f.i (omega (arith, within verdicts f.i f.v f.here, right.whole)) in
        let here = right.each f.i p.0.0 p.0.1 f.v f.here p.1 in
        let first = subst (IsVerdict plan p.0.0 p.0.1) f.bad here.1 in
        let few = pairs_few plan limits in
        let a = first.fault.first_offers in
        record {
          plan = plan;
          plan_spelled = spelled;
          pair = f.v.pair;
          wire = f.fault.wire.items;
          first = f.fault.first;
          second = f.fault.second;
          flaw_spelled = record {
            printable = (
              omega (arith, here.0, within verdicts f.i f.v f.here, right.whole, few),
              wire_is_some plan p.0.0 p.0.1 f.fault.wire.items f.fault.first f.fault.second first.fault,
              wire_goes_on plan p.0.0 f.fault.wire.items a.1.0 a.0 a.1.1,
            );
            text_is = written ∙ ap cert_text f.certificate_is;
          };
          fault = record {
            x = p.0.0;
            y = p.0.1;
            listed = subst (λ (i : ℕ). slice_get (pairs_of plan) i ≡ Some p.0) (sym here.0) p.1;
            fault = first.fault;
          };
        }

  pub accepted_unsafe : (text report : List ℕ) → Spells text plan → report ≡ cert_text (certificate_for verdicts) → (IsSafe plan → ⊥) → IsRefuted text report
  accepted_unsafe text report spelled written judged =
      elim (find_flaw verdicts) [
        | inl safe ↦ absurd (judged (safe_plan plan verdicts right safe))
        | inr f ↦ refuted f text report spelled written
      ]
