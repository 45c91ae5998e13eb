-- From the first clash of what two participants send to the verdict of their pair.
use Rattle.std.proofs.Common.{◌≡◌, ℕ, zero, suc, ◌+◌, ◌-◌, ◌<◌, ◌≤◌, Option, Some, None, List, [], ◌∷◌, ◌++◌, map, not, slice_get, refl, sym, ◌∙◌, subst, arith, inl, inr}
use Rattle.std.specs.List.{range_with_len, flat_map, All, AllByRecursion}
use Rattle.std.proofs.lemmas.List.Elements.{recursion_from_All, All-nil, All-cons, All-append, All-map, All-filter}
use Rattle.message_tree.specs.declared.items.Item.{Item}
use Rattle.message_tree.specs.declared.items.Kind.{Kind}
use Rattle.message_tree.specs.Items.{kind_of, KindsClash}
use Rattle.message_tree.specs.Texts.{Sender, SenderText}
use Rattle.certificate.specs.Proofs.{ProofTree}
use Rattle.certificate.specs.declared.values.Fault as value
use Rattle.certificate.proofs.Soundness.{sound}
use Rattle.plan_core.specs.Contents.{Contents}
use Rattle.plan_core.specs.Participants.{TextOf, sender_at, participant_count, apart}
use Rattle.plan_core.specs.Lawful.{In, pair}
use Rattle.plan_core.specs.Pairs.{partners, pairs_of}
use Rattle.plan_core.specs.Faults.{OffersKind}
use Rattle.plan_core.proofs.Model.{fault_of_pair, still_in, in_pair}
use Rattle.pair_walk.specs.Canonical.{IsCanonical}
use Rattle.pair_walk.specs.FirstClash.{GoesOnWith, IsFirstClash}
use Rattle.pair_walk.specs.Verdicts.{IsFirstFault, IsFirstFaultIfAny, IsSafeProof, CanonicalBetween}
use Rattle.pair_walk.proofs.Unique.{canonical_proves}

-- ---- the numbers of a pair

abbrev IsBelow : ℕ → ℕ × ℕ → Type 0
IsBelow n p = (p.0 < p.1) × (p.1 < n)

numbers_below : (x a k n : ℕ) → x < a → a + k ≤ n → All (λ y. IsBelow n (x, y)) (range_with_len a k)
numbers_below x a zero n h l = All-nil (λ y. IsBelow n (x, y))
numbers_below x a (suc k) n h l = All-cons (λ y. IsBelow n (x, y)) a (range_with_len (a + 1) k) (h, omega arith) (numbers_below x (a + 1) k n (omega arith) (omega arith))

rows_below : (plan : Contents) (a k : ℕ) → a + k ≤ participant_count plan → All (IsBelow (participant_count plan)) (flat_map (λ x. map (λ y. (x, y)) (partners plan x)) (range_with_len a k))
rows_below plan a zero l = All-nil (IsBelow (participant_count plan))
rows_below plan a (suc k) l =
    let n = participant_count plan in
    let row = numbers_below a (a + 1) (n - (a + 1)) n (omega arith) (omega arith) in
    All-append (IsBelow n) (map (λ y. (a, y)) (partners plan a)) (flat_map (λ x. map (λ y. (x, y)) (partners plan x)) (range_with_len (a + 1) k))
    (All-map (IsBelow n) (λ y. (a, y)) (partners plan a) (All-filter (λ y. not (apart plan a y)) (λ y. IsBelow n (a, y)) (range_with_len (a + 1) (n - (a + 1))) row))
    (rows_below plan (a + 1) k (omega arith))

at_each : (P : ℕ × ℕ → Type 0) (ps : List (ℕ × ℕ)) (i : ℕ) (p : ℕ × ℕ) → AllByRecursion P ps → slice_get ps i ≡ Some p → P p
at_each P [] i p h e = cc
at_each P (q ∷ ps) zero p h e = let d : q ≡ p = cc in subst P d h.0
at_each P (q ∷ ps) (suc i) p h e = at_each P ps i p h.1 e

-- the lower number comes first, and both are those of participants
pub pair_is_below : (plan : Contents) (i : ℕ) (p : ℕ × ℕ) → slice_get (pairs_of plan) i ≡ Some p → IsBelow (participant_count plan) p
unfolding pairs_of
pair_is_below plan i p e =
    at_each (IsBelow (participant_count plan)) (pairs_of plan) i p (recursion_from_All (IsBelow (participant_count plan)) (pairs_of plan) (rows_below plan 0 (participant_count plan) (omega arith))) e

-- ---- the verdict

module _ (plan : Contents) (x y : ℕ) (s t : Sender) (lt : x < y) (is_s : sender_at plan x ≡ Some s) (is_t : sender_at plan y ≡ Some t) where
  offers_first : (u : List Item) (k : Kind) → OffersKind plan x u k → GoesOnWith (SenderText s) u k
  offers_first u k o = (o.0, o.1.0, subst (λ (q : Option Sender). TextOf q (u ++ o.0 ∷ o.1.0)) is_s o.1.1, o.2)

  offers_second : (u : List Item) (k : Kind) → OffersKind plan y u k → GoesOnWith (SenderText t) u k
  offers_second u k o = (o.0, o.1.0, subst (λ (q : Option Sender). TextOf q (u ++ o.0 ∷ o.1.0)) is_t o.1.1, o.2)

  first_offers : (u : List Item) (k : Kind) → GoesOnWith (SenderText s) u k → OffersKind plan x u k
  first_offers u k g = (g.0, (g.1, subst (λ (q : Option Sender). TextOf q (u ++ g.0 ∷ g.1)) (sym is_s) g.2), g.3)

  second_offers : (u : List Item) (k : Kind) → GoesOnWith (SenderText t) u k → OffersKind plan y u k
  second_offers u k g = (g.0, (g.1, subst (λ (q : Option Sender). TextOf q (u ++ g.0 ∷ g.1)) (sym is_t) g.2), g.3)

  pub first_fault : (u : List Item) (j k : Kind) → IsFirstClash (SenderText s) (SenderText t) u j k → IsFirstFault plan x y u j k
  first_fault u j k f =
      record {
        fault = fault_of_pair plan x y u j k lt (first_offers u j f.first, second_offers u k f.second, f.clash);
        earliest = λ v a b g.
            let p = offers_first v a g.first_offers in
            let q = offers_second v b g.second_offers in
            let c = subst (λ (m : Kind). KindsClash m (kind_of q.0)) (sym p.3) (subst (KindsClash a) (sym q.3) g.clash) in
            f.earliest v p.1 q.1 p.0 q.0 p.2 q.2 c;
      }

  first_clash : (u : List Item) (j k : Kind) → IsFirstFault plan x y u j k → IsFirstClash (SenderText s) (SenderText t) u j k
  first_clash u j k f =
      record {
        first = offers_first u j f.fault.first_offers;
        second = offers_second u k f.fault.second_offers;
        clash = f.fault.clash;
        earliest = λ a b c p q h i e. f.earliest a (kind_of p) (kind_of q) (fault_of_pair plan x y a (kind_of p) (kind_of q) lt (first_offers a (kind_of p) (p, b, h, refl), second_offers a (kind_of q) (q, c, i, refl), e));
      }

  -- the two of a fault of the pair are its lower and its higher number
  in_its_order : (a b : ℕ) → In a (pair x y) → In b (pair x y) → a < b → (a ≡ x) × (b ≡ y)
  in_its_order a b i j l =
      elim (in_pair x y a i) [
        | inl e ↦ elim (in_pair x y b j) [ inl d ↦ absurd (omega arith) | inr d ↦ (e, d) ]
        | inr e ↦ elim (in_pair x y b j) [ inl d ↦ absurd (omega arith) | inr d ↦ absurd (omega arith) ]
      ]

  pub safe_proof : (p : ProofTree) → IsCanonical p s t → IsSafeProof plan x y p
  safe_proof p c =
      record {
        canonical = rw (is_s, is_t) c;
        no_fault = λ h.
            let f = h.5 in
            let o = in_its_order h.1 h.2 (still_in f.reached h.1 f.first) (still_in f.reached h.2 f.second) f.in_order in
            let a = offers_first h.0 h.3 (subst (λ (q : ℕ). OffersKind plan q h.0 h.3) o.0 f.first_offers) in
            let b = offers_second h.0 h.4 (subst (λ (q : ℕ). OffersKind plan q h.0 h.4) o.1 f.second_offers) in
            let k = subst (λ (m : Kind). KindsClash m (kind_of b.0)) (sym a.3) (subst (KindsClash h.3) (sym b.3) f.clash) in
            sound p s t (canonical_proves p s t c) h.0 a.1 b.1 a.0 b.0 a.2 b.2 k;
      }

-- ---- what a pair comes to depends on what its two send alone

module _ (plan : Contents) (x y v w : ℕ) (lt : x < y) (less : v < w) where
  same_by_senders : (s t : Option Sender) → sender_at plan x ≡ s → sender_at plan y ≡ t → sender_at plan v ≡ s → sender_at plan w ≡ t → (found : Option value.Fault) → IsFirstFaultIfAny plan x y found → IsFirstFaultIfAny plan v w found
  same_by_senders (Some s) (Some t) at_x at_y at_v at_w (Some fault) f =
      first_fault plan v w s t less at_v at_w fault.wire.items fault.first fault.second (first_clash plan x y s t lt at_x at_y fault.wire.items fault.first fault.second f)
  same_by_senders (Some s) (Some t) at_x at_y at_v at_w None f =
      (f.0, safe_proof plan v w s t less at_v at_w f.0 (rw (at_x, at_y) at f.1.canonical))
  same_by_senders None t at_x at_y at_v at_w (Some fault) f =
      let o = f.fault.first_offers in
      absurd (subst (λ (q : Option Sender). TextOf q (fault.wire.items ++ o.0 ∷ o.1.0)) at_x o.1.1)
  same_by_senders s None at_x at_y at_v at_w (Some fault) f =
      let o = f.fault.second_offers in
      absurd (subst (λ (q : Option Sender). TextOf q (fault.wire.items ++ o.0 ∷ o.1.0)) at_y o.1.1)
  same_by_senders None t at_x at_y at_v at_w None f =
      absurd (subst (λ (q : Option Sender). CanonicalBetween q (sender_at plan y) f.0) at_x f.1.canonical)
  same_by_senders (Some s) None at_x at_y at_v at_w None f = absurd (rw (at_x, at_y) at f.1.canonical)

  pub same_senders : sender_at plan x ≡ sender_at plan v → sender_at plan y ≡ sender_at plan w → (found : Option value.Fault) → IsFirstFaultIfAny plan x y found → IsFirstFaultIfAny plan v w found
  same_senders e f found h =
      same_by_senders (sender_at plan v) (sender_at plan w) e f refl refl found h

  same_proof_by : (s t : Option Sender) → sender_at plan x ≡ s → sender_at plan y ≡ t → sender_at plan v ≡ s → sender_at plan w ≡ t → (p : ProofTree) → IsSafeProof plan x y p → IsSafeProof plan v w p
  same_proof_by (Some s) (Some t) at_x at_y at_v at_w p f =
      safe_proof plan v w s t less at_v at_w p (rw (at_x, at_y) at f.canonical)
  same_proof_by None t at_x at_y at_v at_w p f =
      absurd (subst (λ (q : Option Sender). CanonicalBetween q (sender_at plan y) p) at_x f.canonical)
  same_proof_by (Some s) None at_x at_y at_v at_w p f = absurd (rw (at_x, at_y) at f.canonical)

  pub same_proof : sender_at plan x ≡ sender_at plan v → sender_at plan y ≡ sender_at plan w → (p : ProofTree) → IsSafeProof plan x y p → IsSafeProof plan v w p
  same_proof e f p h = same_proof_by (sender_at plan v) (sender_at plan w) e f refl refl p h

-- ---- at the pair with a number

numbers_are : (ps : List (ℕ × ℕ)) (i : ℕ) (p q : ℕ × ℕ) → slice_get ps i ≡ Some p → slice_get ps i ≡ Some q → p ≡ q
numbers_are ps i p q e f = let d : Some p ≡ Some q = sym e ∙ f in cc

pub fault_at : (plan : Contents) (i : ℕ) (p : ℕ × ℕ) (s t : Sender) (u : List Item) (j k : Kind) → slice_get (pairs_of plan) i ≡ Some p → sender_at plan p.0 ≡ Some s → sender_at plan p.1 ≡ Some t → IsFirstClash (SenderText s) (SenderText t) u j k → (x y : ℕ) → slice_get (pairs_of plan) i ≡ Some (x, y) → IsFirstFault plan x y u j k
fault_at plan i p s t u j k e is_s is_t f x y d =
    subst (λ (q : ℕ × ℕ). IsFirstFault plan q.0 q.1 u j k) (numbers_are (pairs_of plan) i p (x, y) e d) (first_fault plan p.0 p.1 s t (pair_is_below plan i p e).0 is_s is_t u j k f)

pub proof_at : (plan : Contents) (i : ℕ) (p : ℕ × ℕ) (s t : Sender) (c : ProofTree) → slice_get (pairs_of plan) i ≡ Some p → sender_at plan p.0 ≡ Some s → sender_at plan p.1 ≡ Some t → IsCanonical c s t → (x y : ℕ) → slice_get (pairs_of plan) i ≡ Some (x, y) → IsSafeProof plan x y c
proof_at plan i p s t c e is_s is_t h x y d =
    subst (λ (q : ℕ × ℕ). IsSafeProof plan q.0 q.1 c) (numbers_are (pairs_of plan) i p (x, y) e d) (safe_proof plan p.0 p.1 s t (pair_is_below plan i p e).0 is_s is_t c h)

-- the same fault, as the program holds it
pub fault_read : (plan : Contents) (x y : ℕ) (u v : List Item) (j k a b : Kind) → v ≡ u → a ≡ j → b ≡ k → IsFirstFault plan x y u j k → IsFirstFault plan x y v a b
fault_read plan x y u v j k a b e f g h = rw (e, f, g) h
