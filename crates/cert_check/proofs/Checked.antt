-- Proofs of all pairs make a plan safe.
use Rattle.std.proofs.Common.{◌≡◌, ℕ, zero, suc, ◌<◌, Option, Some, unwrap_or, List, [], ◌∷◌, length, get_or, slice_get, ◌++◌, refl, ap, sym, ◌∙◌, subst, arith, inl, inr, ◌⊎◌, ◌↔◌}
use Rattle.message_tree.specs.declared.items.Item.{Item}
use Rattle.message_tree.specs.declared.items.Kind.{Kind}
use Rattle.message_tree.specs.Items.{kind_of, KindsClash}
use Rattle.message_tree.specs.Texts.{Sender, SenderText}
use Rattle.std.proofs.lemmas.Bool.{cases_lt}
use Rattle.certificate.specs.declared.errors.CertFault.{CertFault}
use Rattle.certificate.specs.declared.errors.CertFault.TheVariants.{Format, Count, TooDeep, Pair}
use Rattle.certificate.specs.Proofs.{ProofTree}
use Rattle.certificate.specs.Proves.{Proves}
use Rattle.certificate.proofs.Soundness.{sound}
use Rattle.plan_core.specs.Contents.{Contents}
use Rattle.plan_core.specs.Faults.{OffersKind, IsFaulty, IsSafe}
use Rattle.plan_core.specs.Lawful.{pair}
use Rattle.plan_core.specs.Pairs.{pairs_of}
use Rattle.plan_core.specs.Participants.{Text, TextOf, sender_at}
use Rattle.plan_core.proofs.ListLemmas.{some_at}
use Rattle.plan_core.proofs.SenderPlaceLemmas.{pair_within}
use Rattle.plan_core.proofs.Model.{safe_by_pairs, in_pair, still_in, fault_of_pair, may_clash}
use Rattle.plan_core.proofs.PairLaws.{to_pairs, parts_of_IsPair}
use Rattle.cert_check.specs.PairFaults.{IsPairFault}
use Rattle.cert_check.specs.Wires.{GoesOnWith, ClashAfter}
use Rattle.cert_check.specs.Proved.{ProvesPair, Certifies, IsWrong}

module _ {X : Type 0} where
  pub get_at : (xs : List X) (k : ℕ) (x : X) → k < length xs → get_or xs k x ≡ x → slice_get xs k ≡ Some x
  get_at [] k x h e = absurd (omega arith)
  get_at (y ∷ xs) zero x h e = ap Some e
  get_at (y ∷ xs) (suc k) x h e = get_at xs k x (omega arith) e

-- the two of one place
pub same_pair : (plan : Contents) (i x y v w : ℕ) → slice_get (pairs_of plan) i ≡ Some (x, y) → slice_get (pairs_of plan) i ≡ Some (v, w) → (x ≡ v) × (y ≡ w)
same_pair plan i x y v w e f =
    let same : Some (x, y) ≡ Some (v, w) = sym e ∙ f in
    (ap (λ (o : Option (ℕ × ℕ)). (unwrap_or o (x, y)).0) same, ap (λ (o : Option (ℕ × ℕ)). (unwrap_or o (x, y)).1) same)

-- ---- a proved pair is not faulty

-- who is in a fault of the pair
first_is : (x y a b : ℕ) → x < y → a < b → (a ≡ x) ⊎ (a ≡ y) → (b ≡ x) ⊎ (b ≡ y) → (a ≡ x) × (b ≡ y)
first_is x y a b l m (inl e) (inl f) = absurd (omega arith)
first_is x y a b l m (inl e) (inr f) = (e, f)
first_is x y a b l m (inr e) (inl f) = absurd (omega arith)
first_is x y a b l m (inr e) (inr f) = absurd (omega arith)

-- what a participant offers is a text of its sender
pub offered_text : (plan : Contents) (p : ℕ) (s : Sender) (w : List Item) → sender_at plan p ≡ Some s → Text plan p w → SenderText s w
offered_text plan p s w e t = subst (λ (o : Option Sender). TextOf o w) e t

pub proved_is_not_faulty : (plan : Contents) (x y : ℕ) (s t : Sender) (p : ProofTree) → x < y → sender_at plan x ≡ Some s → sender_at plan y ≡ Some t → Proves p s t → IsFaulty plan (pair x y) → ⊥
proved_is_not_faulty plan x y s t p lt e f h faulty =
    let u = faulty.0 in
    let fault = faulty.5 in
    let a = fault.first_offers in
    let b = fault.second_offers in
    let who = first_is x y faulty.1 faulty.2 lt fault.in_order (in_pair x y faulty.1 (still_in fault.reached faulty.1 fault.first)) (in_pair x y faulty.2 (still_in fault.reached faulty.2 fault.second)) in
    sound p s t h u a.1.0 b.1.0 a.0 b.0
    (offered_text plan faulty.1 s (u ++ a.0 ∷ a.1.0) (ap (sender_at plan) who.0 ∙ e) a.1.1)
    (offered_text plan faulty.2 t (u ++ b.0 ∷ b.1.0) (ap (sender_at plan) who.1 ∙ f) b.1.1)
    (subst (λ (k : Kind). KindsClash (kind_of a.0) k) (sym b.2) (subst (λ (k : Kind). KindsClash k faulty.4) (sym a.2) fault.clash))

pub certified_is_safe : (plan : Contents) (proofs : List ProofTree) → Certifies plan proofs → IsSafe plan
certified_is_safe plan proofs h =
    safe_by_pairs plan (λ x y p faulty.
    let parts = parts_of_IsPair plan x y p in
    let listed = to_pairs plan x y parts.0 parts.1 parts.2 in
    let proof = some_at proofs listed.0 (omega (arith, listed.1, h.count)) in
    let proves = h.each listed.0 proof.0 proof.1 in
    let same = same_pair plan listed.0 proves.x proves.y x y proves.listed (get_at (pairs_of plan) listed.0 (x, y) listed.1 listed.2) in
    proved_is_not_faulty plan x y proves.s proves.t proof.0 parts.0 (ap (sender_at plan) (sym same.0) ∙ proves.first) (ap (sender_at plan) (sym same.1) ∙ proves.second) proves.proved faulty)

-- ---- one pair

same_sender : (s t : Sender) (o : Option Sender) → o ≡ Some s → o ≡ Some t → s ≡ t
same_sender s t o e f = let same : Some s ≡ Some t = sym e ∙ f in cc

-- a proof of the two senders is one of the pair
pub pair_proved : (plan : Contents) (i x y : ℕ) (s t : Sender) (p : ProofTree) → slice_get (pairs_of plan) i ≡ Some (x, y) → sender_at plan x ≡ Some s → sender_at plan y ≡ Some t → Proves p s t ↔ ProvesPair plan i p
pair_proved plan i x y s t p listed e f = (
  λ h. record { x = x; y = y; listed = listed; s = s; t = t; first = e; second = f; proved = h },
  λ r.
      let same = same_pair plan i r.x r.y x y r.listed listed in
      let first = same_sender r.s s (sender_at plan r.x) r.first (ap (sender_at plan) same.0 ∙ e) in
      let second = same_sender r.t t (sender_at plan r.y) r.second (ap (sender_at plan) same.1 ∙ f) in
      subst (λ (w : Sender). Proves p s w) second (subst (λ (v : Sender). Proves p v r.t) first r.proved),
)

may_offer : (plan : Contents) (p : ℕ) (s : Sender) (u : List Item) (k : Kind) → sender_at plan p ≡ Some s → GoesOnWith (SenderText s) u k ↔ OffersKind plan p u k
may_offer plan p s u k e = (
  λ m. (m.0, (m.1.0, subst (λ (o : Option Sender). TextOf o (u ++ m.0 ∷ m.1.0)) (sym e) m.1.1), m.2),
  λ m. (m.0, (m.1.0, offered_text plan p s (u ++ m.0 ∷ m.1.0) e m.1.1), m.2),
)

-- kinds that clash, and both may be put: that is a fault of the pair
pub pair_faulty : (plan : Contents) (i x y : ℕ) (s t : Sender) (u : List Item) (j k : Kind) → slice_get (pairs_of plan) i ≡ Some (x, y) → sender_at plan x ≡ Some s → sender_at plan y ≡ Some t → ClashAfter s t u j k ↔ IsPairFault plan i u j k
pair_faulty plan i x y s t u j k listed e f = (
  λ h. record {
    x = x;
    y = y;
    listed = listed;
    fault = fault_of_pair plan x y u j k (pair_within plan i x y listed).0 ((may_offer plan x s u j e).0 h.1, (may_offer plan y t u k f).0 h.2, h.0);
  },
  λ r.
      let same = same_pair plan i r.x r.y x y r.listed listed in
      let m = may_clash plan (pair r.x r.y) r.x r.y u j k r.fault in (
        m.2,
        (may_offer plan x s u j e).1 (subst (λ (p : ℕ). OffersKind plan p u j) same.0 m.0),
        (may_offer plan y t u k f).1 (subst (λ (p : ℕ). OffersKind plan p u k) same.1 m.1),
      ),
)

-- ---- the proofs of a plan

-- what is right is not wrong, and nothing is wrong in two ways
pub not_wrong : (plan : Contents) (proofs : List ProofTree) (fault : CertFault) → Certifies plan proofs → IsWrong plan proofs fault → ⊥
not_wrong plan proofs Count h w = w h.count
not_wrong plan proofs (Pair i) h w = w.1.unproved (h.each i w.1.proof w.1.here)
not_wrong plan proofs (Format line) h w = w
not_wrong plan proofs (TooDeep line) h w = w

pub wrong_once : (plan : Contents) (proofs : List ProofTree) (e f : CertFault) → IsWrong plan proofs e → IsWrong plan proofs f → e ≡ f
wrong_once plan proofs Count Count w v = refl
wrong_once plan proofs Count (Pair i) w v = absurd (w v.0)
wrong_once plan proofs (Pair i) Count w v = absurd (v w.0)
wrong_once plan proofs (Pair i) (Pair j) w v =
    elim (cases_lt i j) [
      | inl less ↦ absurd (w.1.unproved (v.1.before i w.1.proof less w.1.here))
      | inr le ↦ elim (cases_lt j i) [
        | inl more ↦ absurd (v.1.unproved (w.1.before j v.1.proof more v.1.here))
        | inr ge ↦ let same : i ≡ j = omega arith in ap Pair same
      ]
    ]
wrong_once plan proofs (Format line) f w v = absurd w
wrong_once plan proofs (TooDeep line) f w v = absurd w
wrong_once plan proofs e (Format line) w v = absurd v
wrong_once plan proofs e (TooDeep line) w v = absurd v
