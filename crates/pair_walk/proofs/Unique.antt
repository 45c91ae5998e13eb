-- A pair has one verdict.
use Rattle.std.proofs.Common.{◌≡◌, ℕ, true, false, Option, Some, None, List, [], ◌∷◌, refl, ap, sym, ◌∙◌, subst, arith, inl, inr}
use Rattle.std.proofs.lemmas.Bool.{cases_lt}
use Rattle.message_tree.specs.declared.bits.Bit.{Bit}
use Rattle.message_tree.specs.declared.bits.Pattern.{Pattern}
use Rattle.message_tree.specs.declared.items.Item.{Item}
use Rattle.message_tree.specs.declared.items.Item.TheVariants.{Sent, Heard, Again, Stop, Claim}
use Rattle.message_tree.specs.declared.items.Kind.{Kind}
use Rattle.message_tree.specs.Bits.{IsFirstSplit}
use Rattle.message_tree.specs.Trees as tree
use Rattle.message_tree.specs.Trees.{FrameTree, PayloadTree, TailTree}
use Rattle.message_tree.specs.Texts.{Sender, message, interrupt}
use Rattle.certificate.specs.Proofs.{ProofTree, part, short, byte, read, again, alike}
use Rattle.certificate.specs.Laws.{OneKind}
use Rattle.certificate.specs.Proves.{Proves, ProvesHeaders}
use Rattle.certificate.proofs.Soundness.{offers_one_kind}
use Rattle.plan_core.specs.Contents.{Contents}
use Rattle.plan_core.specs.Participants.{TextOf, sender_at}
use Rattle.plan_core.specs.Faults.{OffersKind}
use Rattle.pair_walk.specs.Canonical.{CanonicalFrames, CanonicalPayloads, CanonicalTails, CanonicalHeaders, IsCanonical}
use Rattle.pair_walk.specs.FirstClash.{ComesBefore, InOrder}
use Rattle.pair_walk.specs.Verdicts.{IsFirstFault}
use Rattle.pair_walk.proofs.Nodes.{frames_proved}

-- ---- one proof

one_place : (xs ys : List Bit) (k l : ℕ) → IsFirstSplit xs ys k → IsFirstSplit xs ys l → part k ≡ part l
one_place xs ys k l f g =
    elim (cases_lt k l) [
      | inl lt ↦ absurd (g.first k lt f.splits)
      | inr le ↦ elim (cases_lt l k) [
        | inl lt ↦ absurd (f.first l lt g.splits)
        | inr ge ↦ let e : k ≡ l = omega arith in ap part e
      ]
    ]

-- no proof stands between nodes that clash
pub no_byte_tail : (p : ProofTree) (a : Pattern) (x : PayloadTree) (r t : TailTree) → CanonicalPayloads p (tree.byte a x r) (tree.last t) → ⊥
no_byte_tail (part k) a x r t h = h
no_byte_tail short a x r t h = h
no_byte_tail (byte p q) a x r t h = h
no_byte_tail (read p q) a x r t h = h
no_byte_tail (again p) a x r t h = h
no_byte_tail alike a x r t h = h

pub no_tail_byte : (p : ProofTree) (a : Pattern) (x : PayloadTree) (r t : TailTree) → CanonicalPayloads p (tree.last t) (tree.byte a x r) → ⊥
no_tail_byte (part k) a x r t h = h
no_tail_byte short a x r t h = h
no_tail_byte (byte p q) a x r t h = h
no_tail_byte (read p q) a x r t h = h
no_tail_byte (again p) a x r t h = h
no_tail_byte alike a x r t h = h

pub no_stop_again : (p : ProofTree) (f : FrameTree) → CanonicalTails p tree.stop (tree.again f) → ⊥
no_stop_again (part k) f h = h
no_stop_again short f h = h
no_stop_again (byte p q) f h = h
no_stop_again (read p q) f h = h
no_stop_again (again p) f h = h
no_stop_again alike f h = h

pub no_again_stop : (p : ProofTree) (f : FrameTree) → CanonicalTails p (tree.again f) tree.stop → ⊥
no_again_stop (part k) f h = h
no_again_stop short f h = h
no_again_stop (byte p q) f h = h
no_again_stop (read p q) f h = h
no_again_stop (again p) f h = h
no_again_stop alike f h = h

pub between_tails : (p : ProofTree) (r s : TailTree) → CanonicalPayloads p (tree.last r) (tree.last s) → CanonicalTails p r s
between_tails (part k) r s h = h
between_tails short r s h = h
between_tails (byte p q) r s h = h
between_tails (read p q) r s h = h
between_tails (again p) r s h = h
between_tails alike r s h = h

mutual
  one_frames : (p q : ProofTree) (f g : FrameTree) → CanonicalFrames p f g → CanonicalFrames q f g → p ≡ q
  one_frames (part k) (part l) (tree.write a x r) (tree.write b y s) h i = one_place _ _ k l h i
  one_frames (part k) (part l) (tree.write a x r) (tree.read b d y s) h i = one_place _ _ k l h i
  one_frames (part k) (part l) (tree.read a c x r) (tree.write b y s) h i = one_place _ _ k l h i
  one_frames (part k) (part l) (tree.read a c x r) (tree.read b d y s) h i = one_place _ _ k l h i
  one_frames (part k) (byte p q) (tree.write a x r) (tree.write b y s) h i = absurd (i.0 k h.splits)
  one_frames (byte p q) (part k) (tree.write a x r) (tree.write b y s) h i = absurd (h.0 k i.splits)
  one_frames (byte p q) (byte p' q') (tree.write a x r) (tree.write b y s) h i =
      let e = one_payloads p p' x y h.1 i.1 in
      let d = one_tails q q' r s h.2 i.2 in
      cc (e, d)
  one_frames (part k) (read p q) (tree.read a c x r) (tree.read b d y s) h i = absurd (i.0 k h.splits)
  one_frames (read p q) (part k) (tree.read a c x r) (tree.read b d y s) h i = absurd (h.0 k i.splits)
  one_frames (read p q) (read p' q') (tree.read a c x r) (tree.read b d y s) h i =
      let e : p ≡ p' = elim h.1 [
        | inl m ↦ elim i.1 [ inl n ↦ m.0 ∙ sym n.0 | inr n ↦ absurd (m.1 n.0) ]
        | inr m ↦ elim i.1 [ inl n ↦ absurd (n.1 m.0) | inr n ↦ one_tails p p' x y m.1 n.1 ]
      ] in
      let d = one_tails q q' r s h.2 i.2 in
      cc (e, d)
  one_frames (part k) _ (tree.write a x r) (tree.write b y s) h i = absurd i
  one_frames (part k) _ (tree.write a x r) (tree.read b d y s) h i = absurd i
  one_frames (part k) _ (tree.read a c x r) (tree.write b y s) h i = absurd i
  one_frames (part k) _ (tree.read a c x r) (tree.read b d y s) h i = absurd i
  one_frames (byte p q) _ (tree.write a x r) (tree.write b y s) h i = absurd i
  one_frames (read p q) _ (tree.read a c x r) (tree.read b d y s) h i = absurd i
  one_frames (byte p q) _ (tree.write a x r) (tree.read b d y s) h i = absurd h
  one_frames (byte p q) _ (tree.read a c x r) g h i = absurd h
  one_frames (read p q) _ (tree.read a c x r) (tree.write b y s) h i = absurd h
  one_frames (read p q) _ (tree.write a x r) g h i = absurd h
  one_frames _ q f g h i = absurd h

  one_payloads : (p q : ProofTree) (x y : PayloadTree) → CanonicalPayloads p x y → CanonicalPayloads q x y → p ≡ q
  one_payloads (part k) (part l) (tree.byte a x r) (tree.byte b y s) h i = one_place _ _ k l h i
  one_payloads (part k) (byte p q) (tree.byte a x r) (tree.byte b y s) h i = absurd (i.0 k h.splits)
  one_payloads (byte p q) (part k) (tree.byte a x r) (tree.byte b y s) h i = absurd (h.0 k i.splits)
  one_payloads (byte p q) (byte p' q') (tree.byte a x r) (tree.byte b y s) h i =
      let e = one_payloads p p' x y h.1 i.1 in
      let d = one_tails q q' r s h.2 i.2 in
      cc (e, d)
  one_payloads p q (tree.last r) (tree.last s) h i = one_tails p q r s (between_tails p r s h) (between_tails q r s i)
  one_payloads (part k) _ (tree.byte a x r) (tree.byte b y s) h i = absurd i
  one_payloads (byte p q) _ (tree.byte a x r) (tree.byte b y s) h i = absurd i
  one_payloads _ q (tree.byte a x r) (tree.byte b y s) h i = absurd h
  one_payloads p q (tree.byte a x r) (tree.last t) h i = absurd (no_byte_tail p a x r t h)
  one_payloads p q (tree.last t) (tree.byte a x r) h i = absurd (no_tail_byte p a x r t h)

  one_tails : (p q : ProofTree) (r s : TailTree) → CanonicalTails p r s → CanonicalTails q r s → p ≡ q
  one_tails alike alike tree.stop tree.stop h i = refl
  one_tails (again p) (again q) (tree.again f) (tree.again g) h i = ap again (one_frames p q f g h i)
  one_tails alike _ tree.stop tree.stop h i = absurd i
  one_tails (again p) _ (tree.again f) (tree.again g) h i = absurd i
  one_tails _ q tree.stop tree.stop h i = absurd h
  one_tails _ q (tree.again f) (tree.again g) h i = absurd h
  one_tails p q tree.stop (tree.again g) h i = absurd (no_stop_again p g h)
  one_tails p q (tree.again f) tree.stop h i = absurd (no_again_stop p f h)

one_headers : (p q : ProofTree) (xs ys : List Bit) → CanonicalHeaders p xs ys → CanonicalHeaders q xs ys → p ≡ q
one_headers (part k) (part l) xs ys h i = one_place xs ys k l h i
one_headers (part k) _ xs ys h i = absurd i
one_headers _ q xs ys h i = absurd h

pub one_proof : (p q : ProofTree) (s t : Sender) → IsCanonical p s t → IsCanonical q s t → p ≡ q
one_proof p q (message f) (message g) h i = one_frames p q f g h i
one_proof p q (message f) (interrupt b) h i = one_headers p q _ _ h i
one_proof p q (interrupt a) (message g) h i = one_headers p q _ _ h i
one_proof p q (interrupt a) (interrupt b) h i = one_headers p q _ _ h i

headers_proved : (p : ProofTree) (xs ys : List Bit) → CanonicalHeaders p xs ys → ProvesHeaders p xs ys
headers_proved (part k) xs ys h = h.splits
headers_proved _ xs ys h = absurd h

pub canonical_proves : (p : ProofTree) (s t : Sender) → IsCanonical p s t → Proves p s t
canonical_proves p (message f) (message g) h = frames_proved p f g h
canonical_proves p (message f) (interrupt b) h = headers_proved p _ _ h
canonical_proves p (interrupt a) (message g) h = headers_proved p _ _ h
canonical_proves p (interrupt a) (interrupt b) h = headers_proved p _ _ h

-- ---- one fault

not_both_before : (x y : Item) → ComesBefore x y → ComesBefore y x → ⊥
not_both_before (Sent false) (Sent true) h i = i
not_both_before (Heard false) (Heard true) h i = i
not_both_before _ _ h i = h

not_before_itself : (x : Item) → ComesBefore x x → ⊥
not_before_itself (Sent false) h = h
not_before_itself (Sent true) h = h
not_before_itself (Heard false) h = h
not_before_itself (Heard true) h = h
not_before_itself Again h = h
not_before_itself Stop h = h
not_before_itself Claim h = h

-- two lists that each stand in order before the other are one
both_in_order : (u v : List Item) → InOrder u v → InOrder v u → u ≡ v
both_in_order [] [] h i = refl
both_in_order [] (y ∷ v) h i = absurd i
both_in_order (x ∷ u) [] h i = absurd h
both_in_order (x ∷ u) (y ∷ v) (inl a) (inl b) = absurd (not_both_before x y a b)
both_in_order (x ∷ u) (y ∷ v) (inl a) (inr b) = absurd (not_before_itself x (subst (ComesBefore x) b.0 a))
both_in_order (x ∷ u) (y ∷ v) (inr a) (inl b) = absurd (not_before_itself y (subst (ComesBefore y) a.0 b))
both_in_order (x ∷ u) (y ∷ v) (inr a) (inr b) =
    let e = both_in_order u v a.1 b.1 in
    let d = a.0 in
    cc (e, d)

one_kind_of : (s : Option Sender) → OneKind (TextOf s)
one_kind_of (Some s) = offers_one_kind s
one_kind_of None = λ u v w x y p q. absurd p

kind_offered : (plan : Contents) (p : ℕ) (u v : List Item) (j k : Kind) → u ≡ v → OffersKind plan p u j → OffersKind plan p v k → j ≡ k
kind_offered plan p u v j k e f g =
    let h = subst (λ (w : List Item). OffersKind plan p w k) (sym e) g in
    sym f.2 ∙ (one_kind_of (sender_at plan p) u f.1.0 h.1.0 f.0 h.0 f.1.1 h.1.1 ∙ h.2)

pub one_fault : (plan : Contents) (x y : ℕ) (u v : List Item) (j k a b : Kind) → IsFirstFault plan x y u j k → IsFirstFault plan x y v a b → (u ≡ v) × (j ≡ a) × (k ≡ b)
one_fault plan x y u v j k a b f g =
    let e = both_in_order u v (f.earliest v a b g.fault) (g.earliest u j k f.fault) in
    (e, kind_offered plan x u v j a e f.fault.first_offers g.fault.first_offers, kind_offered plan y u v k b e f.fault.second_offers g.fault.second_offers)
