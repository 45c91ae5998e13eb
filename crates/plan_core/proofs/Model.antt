-- Who is live has a text that begins with the wire, and two who have are both live alone: so pairs suffice.
use Rattle.std.proofs.Common.{◌≡◌, ◌≢◌, ℕ, ◌<◌, Bool, true, false, ◌&&◌, List, [], ◌∷◌, ◌++◌, refl, ap, sym, ◌∙◌, subst, append_assoc, append-nil, arith, inl, inr, ◌⊎◌}
use Rattle.std.proofs.lemmas.Bool.Decides.{nat_tests}
use Rattle.message_tree.specs.declared.items.Item.{Item}
use Rattle.message_tree.specs.declared.items.Item.TheVariants.{Sent, Heard, Again, Stop, Claim}
use Rattle.message_tree.specs.declared.items.Kind.{Kind}
use Rattle.message_tree.specs.declared.items.Kind.TheVariants as kind
use Rattle.message_tree.specs.Items.{kind_of, Clash}
use Rattle.message_tree.specs.Laws.{HasText, is_end, HasNoEnd}
use Rattle.plan_core.specs.Contents.{Contents}
use Rattle.plan_core.specs.Participants.{Text}
use Rattle.plan_core.specs.Lawful.{Set, In, IsLawful, pair, IsPair}
use Rattle.plan_core.specs.Rounds.{Follows, Offers, IsSlot, is_item, survivors}
use Rattle.plan_core.specs.Runs.{Reaches, start, slot}
use Rattle.plan_core.specs.Faults.{OffersKind, Fault, IsFaulty, IsSafe}
use Rattle.plan_core.specs.Laws.{NoClaim, BothLive, MayClash}
use Rattle.plan_core.proofs.Texts.{fair_text}

-- ---- tests

pub same_item : (x y : Item) → is_item x y ≡ true → x ≡ y
same_item (Sent false) (Sent false) h = refl
same_item (Sent true) (Sent true) h = refl
same_item (Heard false) (Heard false) h = refl
same_item (Heard true) (Heard true) h = refl
same_item Again Again h = refl
same_item Stop Stop h = refl
same_item Claim Claim h = refl
same_item _ _ h = cc

pub item_is_itself : (x : Item) → is_item x x ≡ true
item_is_itself (Sent false) = refl
item_is_itself (Sent true) = refl
item_is_itself (Heard false) = refl
item_is_itself (Heard true) = refl
item_is_itself Again = refl
item_is_itself Stop = refl
item_is_itself Claim = refl

both_true : (a b : Bool) → a && b ≡ true → (a ≡ true) × (b ≡ true)
both_true true true h = (refl, refl)
both_true _ _ h = cc

true_both : (a b : Bool) → a ≡ true → b ≡ true → a && b ≡ true
true_both a b h k = cc

-- who is left was live, and put the wire's item
pub survived : (live : Set) (put : ℕ → Item) (w : Item) (p : ℕ) → In p (survivors live put w) → In p live × (put p ≡ w)
survived live put w p h =
    let b = both_true (live p) (is_item (put p) w) h in
    (b.0, same_item (put p) w b.1)

pub survives : (live : Set) (put : ℕ → Item) (w : Item) (p : ℕ) → In p live → put p ≡ w → In p (survivors live put w)
survives live put w p h e =
    true_both (live p) (is_item (put p) w) h (subst (λ (x : Item). is_item x w ≡ true) (sym e) (item_is_itself w))

-- ---- who is live

pub still_in : {plan : Contents} {s : Set} {u : List Item} {live : Set} → Reaches plan s u live → (p : ℕ) → In p live → In p s
still_in start p h = h
still_in (slot {live = before} put w r o) p h = still_in r p (survived before put w p h).0

-- who is left after a slot has offered the wire's item
offered_follows : {plan : Contents} {u : List Item} {before : Set} {put : ℕ → Item} {w : Item} → IsSlot plan u before put w → (p : ℕ) → In p (survivors before put w) → Follows plan p (u ++ w ∷ [])
offered_follows {plan} {u} {before} {put} {w} o p h =
    let k = survived before put w p h in
    let t = o.is_round.offered p k.0 in
    (t.0, subst (Text plan p) (ap (λ (x : Item). u ++ x ∷ t.0) k.1 ∙ sym (append_assoc u (w ∷ []) t.0)) t.1)

-- after the first slot it needs no premise that there are texts
pub followed_on : {plan : Contents} {s : Set} {u : List Item} {live : Set} → Reaches plan s u live → (p : ℕ) → In p live → (u ≡ []) ⊎ Follows plan p u
followed_on start p h = inl refl
followed_on (slot put w r o) p h = inr (offered_follows o p h)

pub followed : {plan : Contents} {s : Set} {u : List Item} {live : Set} → ((p : ℕ) → In p s → HasText (Text plan p)) → Reaches plan s u live → (p : ℕ) → In p live → Follows plan p u
followed some start p h = some p h
followed some (slot {live = before} put w r o) p h = offered_follows o p h

pub somebody : {plan : Contents} {s : Set} {u : List Item} {live : Set} → ((p : ℕ) × In p s) → Reaches plan s u live → (p : ℕ) × In p live
somebody some start = some
somebody some (slot {live = before} put w r o) =
    let i = o.is_wire in
    (i.some.0, survives before put w i.some.0 i.some.1 i.some.2)

-- ---- the two alone

pub in_pair : (x y p : ℕ) → In p (pair x y) → (p ≡ x) ⊎ (p ≡ y)
in_pair x y p h = grind (arith, nat_tests)

first_in_pair : (x y : ℕ) → In x (pair x y)
first_in_pair x y = grind (arith, nat_tests)

second_in_pair : (x y : ℕ) → In y (pair x y)
second_in_pair x y = grind (arith, nat_tests)

kind_of_claim : (w : Item) → kind_of w ≡ kind.Claim → w ≡ Claim
kind_of_claim Claim h = refl
kind_of_claim _ h = cc

-- one item clashes with itself only where it is a claim
alike : (w : Item) → w ≢ Claim → Clash w w → ⊥
alike w n (inl e) = e refl
alike w n (inr h) = n (kind_of_claim w h.0)

one_of_two : (x y p q : ℕ) → x ≡ y → (p ≡ x) ⊎ (p ≡ y) → (q ≡ x) ⊎ (q ≡ y) → p ≡ q
one_of_two x y p q e (inl a) (inl b) = cc
one_of_two x y p q e (inl a) (inr b) = cc
one_of_two x y p q e (inr a) (inl b) = cc
one_of_two x y p q e (inr a) (inr b) = cc

module _ (plan : Contents) (x y : ℕ) where
  -- both put w, and stay live
  one_more : (u v : List Item) (w : Item) (live : Set) → Reaches plan (pair x y) u live → In x live → In y live → (w ≢ Claim) ⊎ (x ≡ y) → Follows plan x (u ++ w ∷ v) → Follows plan y (u ++ w ∷ v) → Reaches plan (pair x y) (u ++ w ∷ []) (survivors live (λ _. w) w)
  one_more u v w live r i j n f g =
      let put : ℕ → Item = λ _. w in
      let offers : (p : ℕ) → Follows plan p (u ++ w ∷ v) → Offers plan p u w = λ p h. (v ++ h.0, subst (Text plan p) (append_assoc u (w ∷ v) h.0) h.1) in
      let either : (p : ℕ) → (p ≡ x) ⊎ (p ≡ y) → Offers plan p u w = λ p h. elim h [ inl e ↦ subst (λ (q : ℕ). Offers plan q u w) (sym e) (offers x f) | inr e ↦ subst (λ (q : ℕ). Offers plan q u w) (sym e) (offers y g) ] in
      slot put w r (record {
        is_round = record { offered = λ p h. either p (in_pair x y p (still_in r p h)); heard = λ p q b c h k e d. cc };
        no_clash = λ p q ne h k c. elim n [
          | inl no_claim ↦ alike w no_claim c
          | inr one ↦ ne (one_of_two x y p q one (in_pair x y p (still_in r p h)) (in_pair x y q (still_in r q k)))
        ];
        is_wire = record { some = (x, i, refl); all = λ p h. inl refl };
      })

  go_on : (u v : List Item) (live : Set) → Reaches plan (pair x y) u live → In x live → In y live → (NoClaim v) ⊎ (x ≡ y) → Follows plan x (u ++ v) → Follows plan y (u ++ v) → BothLive plan x y (u ++ v)
  go_on u [] live r i j n f g = (live, subst (λ (w : List Item). Reaches plan (pair x y) w live) (sym (append-nil u)) r, i, j)
  go_on u (w ∷ v) live r i j n f g =
      let put : ℕ → Item = λ _. w in
      let now : (w ≢ Claim) ⊎ (x ≡ y) = elim n [ inl h ↦ inl (h.0) | inr e ↦ inr e ] in
      let later : (NoClaim v) ⊎ (x ≡ y) = elim n [ inl h ↦ inl (h.1) | inr e ↦ inr e ] in
      let next = one_more u v w live r i j now f g in
      let along : u ++ w ∷ v ≡ (u ++ w ∷ []) ++ v = sym (append_assoc u (w ∷ []) v) in
      let rest = go_on (u ++ w ∷ []) v (survivors live put w) next (survives live put w x i refl) (survives live put w y j refl) later (subst (Follows plan x) along f) (subst (Follows plan y) along g) in
      subst (BothLive plan x y) (sym along) rest

  pub both_live : (u : List Item) → (NoClaim u) ⊎ (x ≡ y) → Follows plan x u → Follows plan y u → BothLive plan x y u
  both_live u n f g = go_on [] u (pair x y) start (first_in_pair x y) (second_in_pair x y) n f g

-- ---- what goes on has no claim

cons_is_not_nil : (u v : List Item) (x : Item) → u ++ x ∷ v ≡ [] → ⊥
cons_is_not_nil [] v x e = cc
cons_is_not_nil (a ∷ u) v x e = cc

front_goes_on : (u v w : List Item) (x end : Item) → HasNoEnd w → u ++ x ∷ v ≡ w ++ end ∷ [] → NoClaim u
front_goes_on [] v w x end g e = tt
front_goes_on (a ∷ u) v [] x end g e = absurd (cons_is_not_nil u v x cc)
front_goes_on (a ∷ u) v (b ∷ w) x end g e =
    let same : a ≡ b = cc in
    ((λ c. let d : b ≡ Claim = cc in let k : is_end b ≡ true = ap is_end d in cc (g.0)), front_goes_on u v w x end g.1 cc)

pub offers_without_claim : (plan : Contents) (p : ℕ) (u : List Item) (k : Kind) → OffersKind plan p u k → NoClaim u
offers_without_claim plan p u k h =
    let e = (fair_text plan p).ends (u ++ h.0 ∷ h.1.0) h.1.1 in
    front_goes_on u h.1.0 e.before h.0 e.end e.goes_on e.whole

follows_from_offer : (plan : Contents) (p : ℕ) (u : List Item) (k : Kind) → OffersKind plan p u k → Follows plan p u
follows_from_offer plan p u k h = (h.0 ∷ h.1.0, h.1.1)

-- ---- pairs suffice

pub fault_of_pair : (plan : Contents) (x y : ℕ) (u : List Item) (j k : Kind) → x < y → MayClash plan x y u j k → Fault plan (pair x y) u x y j k
fault_of_pair plan x y u j k lt m =
    let b = both_live plan x y u (inl (offers_without_claim plan x u j m.0)) (follows_from_offer plan x u j m.0) (follows_from_offer plan y u k m.1) in
    record { live = b.0; reached = b.1; in_order = lt; first = b.2; second = b.3; first_offers = m.0; second_offers = m.1; clash = m.2 }

pub may_clash : (plan : Contents) (s : Set) (x y : ℕ) (u : List Item) (j k : Kind) → Fault plan s u x y j k → MayClash plan x y u j k
may_clash plan s x y u j k f = (f.first_offers, f.second_offers, f.clash)

pub pair_of_lawful : (plan : Contents) (s : Set) (x y : ℕ) → IsLawful plan s → x < y → In x s → In y s → IsPair plan x y
pair_of_lawful plan s x y l lt i j =
    let inside : (p : ℕ) → In p (pair x y) → In p s = λ p h. elim (in_pair x y p h) [ inl e ↦ subst (λ (q : ℕ). In q s) (sym e) i | inr e ↦ subst (λ (q : ℕ). In q s) (sym e) j ] in (
      lt,
      record {
        some = (x, first_in_pair x y);
        participants = λ p h. l.participants p (inside p h);
        together = λ p q n h k. l.together p q n (inside p h) (inside q k);
      },
    )

-- a plan is safe where none of its pairs is faulty
pub safe_by_pairs : (plan : Contents) → ((x y : ℕ) → IsPair plan x y → IsFaulty plan (pair x y) → ⊥) → IsSafe plan
safe_by_pairs plan none s l f =
    let fault = f.5 in
    let alone = pair_of_lawful plan s f.1 f.2 l fault.in_order (still_in fault.reached f.1 fault.first) (still_in fault.reached f.2 fault.second) in
    none f.1 f.2 alone (f.0, f.1, f.2, f.3, f.4, fault_of_pair plan f.1 f.2 f.0 f.3 f.4 fault.in_order (may_clash plan s f.1 f.2 f.0 f.3 f.4 fault))
