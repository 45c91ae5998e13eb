-- Marks followed through what a participant sends.
use Rattle.std.proofs.Common.{◌≡◌, ℕ, ◌+◌, ◌<◌, ◌≤◌, Bool, true, false, IsTrue, List, [], ◌∷◌, ◌++◌, length, get_or, take, refl, ap, sym, ◌∙◌, subst, append-nil, append_assoc, ◌↔◌, Option, Some, None}
use Rattle.std.specs.Prelude.{drop}
use Rattle.std.proofs.lemmas.List.{take_all, take_more, take-append-drop}
use Rattle.message_tree.specs.declared.bits.Bit.{Bit}
use Rattle.message_tree.specs.declared.bits.Bit.TheVariants.{Zero, One, Either}
use Rattle.message_tree.specs.declared.items.Item.{Item}
use Rattle.message_tree.specs.declared.items.Item.TheVariants.{Sent, Again, Stop}
use Rattle.message_tree.specs.Texts.{Language, SentThen}
use Rattle.places.specs.Offers.{Begins}
use Rattle.capture_check.specs.declared.listening.Mark.{Mark}
use Rattle.capture_check.specs.declared.listening.Mark.TheVariants as mark
use Rattle.capture_check.specs.Marks.{Leaves, Fits}
use Rattle.capture_check.specs.Explained.{Whatever}
use Rattle.capture_check.specs.Along.{after_bits, FitsAfter}

pub along : {A B C : Type 0} → A ↔ B → B ↔ C → A ↔ C
along f g = (λ a. g.0 (f.0 a), λ c. f.1 (g.1 c))

pub never : IsTrue false ↔ ⊥
never = (λ h. cc, λ n. absurd n)

pub always : {A : Type 0} → A → IsTrue true ↔ A
always a = (λ h. a, λ x. refl)

-- ---- place by place

-- after the first n of these marks, R is left of P
abbrev pub IsLeft : Language → List Mark → ℕ → Language → Type 0
IsLeft P marks n R = (v : List Mark) → Fits R v ↔ Fits P (take n marks ++ v)

-- S is left of R after its one item that leaves this mark
one_mark : (R S : Language) (m : Mark) (x : Item) → Leaves x m → ((y : Item) → Begins R y → Leaves y m → y ≡ x) → ((u : List Item) → S u ↔ R (x ∷ u)) → (v : List Mark) → Fits S v ↔ Fits R (m ∷ v)
one_mark R S m x leaves only after v = (λ f. (x ∷ f.0, (after f.0).0 f.1, (leaves, f.2)), back)
  where
    back : Fits R (m ∷ v) → Fits S v
    back ([], r, l) = absurd l
    back (y ∷ u, r, l) = let same = only y (u, r) l.0 in (u, (after u).1 (subst (λ (z : Item). R (z ∷ u)) same r), l.1)

no_mark : (R : Language) (m : Mark) → ((y : Item) → Begins R y → Leaves y m → ⊥) → (v : List Mark) → Fits R (m ∷ v) → ⊥
no_mark R m none v ([], r, l) = l
no_mark R m none v (y ∷ u, r, l) = none y (u, r) l.0

module _ (P : Language) (marks : List Mark) where
  over : (n : ℕ) (d : Mark) (v : List Mark) → n < length marks → take (n + 1) marks ++ v ≡ take n marks ++ get_or marks n d ∷ v
  over n d v lt = ap (λ (w : List Mark). w ++ v) (take_more marks n d lt) ∙ append_assoc (take n marks) (get_or marks n d ∷ []) v

  pub one_more : (n : ℕ) (d : Mark) (x : Item) (R S : Language) → n < length marks → IsLeft P marks n R → Leaves x (get_or marks n d) → ((y : Item) → Begins R y → Leaves y (get_or marks n d) → y ≡ x) → ((u : List Item) → S u ↔ R (x ∷ u)) → IsLeft P marks (n + 1) S
  one_more n d x R S lt left leaves only after v =
      let m = get_or marks n d in
      along (one_mark R S m x leaves only after v)
      (along (left (m ∷ v)) (subst (Fits P) (sym (over n d v lt)), subst (Fits P) (over n d v lt)))

  -- P has no text with these marks, where nothing that may come leaves mark n
  pub not_along : (n : ℕ) (d : Mark) (R : Language) → n < length marks → IsLeft P marks n R → ((y : Item) → Begins R y → Leaves y (get_or marks n d) → ⊥) → Fits P marks → ⊥
  not_along n d R lt left none f =
      let m = get_or marks n d in
      let split : marks ≡ take n marks ++ m ∷ drop (n + 1) marks = sym (take-append-drop (n + 1) marks) ∙ over n d (drop (n + 1) marks) lt in
      no_mark R m none (drop (n + 1) marks) ((left (m ∷ drop (n + 1) marks)).1 (subst (Fits P) split f))

  -- after all marks nothing may be left
  pub at_end : (n : ℕ) (R : Language) → length marks ≤ n → IsLeft P marks n R → R [] ↔ Fits P marks
  at_end n R le left =
      let all : take n marks ++ [] ≡ marks = append-nil (take n marks) ∙ take_all n marks le in
      along (nothing_left R) (along (left []) (subst (Fits P) all, subst (Fits P) (sym all)))
    where
      nothing_left : (R : Language) → R [] ↔ Fits R []
      nothing_left R = (λ r. ([], r, tt), back)
        where
          back : Fits R [] → R []
          back ([], r, l) = r
          back (x ∷ u, r, l) = absurd l

-- ---- bits that are sent

pub after_sent : (bs : List Bit) (P : Language) (marks : List Mark) → Fits (SentThen bs P) marks → FitsAfter (after_bits bs marks) P
after_sent [] P marks f = f
after_sent (b ∷ bs) P [] ([], p, l) = absurd p
after_sent (b ∷ bs) P [] (x ∷ u, p, l) = absurd l
after_sent (b ∷ bs) P (m ∷ marks) ([], p, l) = absurd p
after_sent (Zero ∷ bs) P (mark.Level false ∷ marks) (Sent s ∷ u, p, l) = after_sent bs P marks (u, p.1, l.1)
after_sent (Zero ∷ bs) P (mark.Level true ∷ marks) (Sent s ∷ u, p, l) = cc (p.0, l.0)
after_sent (One ∷ bs) P (mark.Level false ∷ marks) (Sent s ∷ u, p, l) = cc (p.0, l.0)
after_sent (One ∷ bs) P (mark.Level true ∷ marks) (Sent s ∷ u, p, l) = after_sent bs P marks (u, p.1, l.1)
after_sent (Either ∷ bs) P (mark.Level level ∷ marks) (Sent s ∷ u, p, l) = after_sent bs P marks (u, p.1, l.1)
after_sent (b ∷ bs) P (mark.Again ∷ marks) (Sent s ∷ u, p, l) = cc (l.0)
after_sent (b ∷ bs) P (mark.Stop ∷ marks) (Sent s ∷ u, p, l) = cc (l.0)
after_sent (b ∷ bs) P (m ∷ marks) (_ ∷ u, p, l) = absurd p

pub from_sent : (bs : List Bit) (P : Language) (marks : List Mark) → FitsAfter (after_bits bs marks) P → Fits (SentThen bs P) marks
from_sent [] P marks f = f
from_sent (b ∷ bs) P [] f = absurd f
from_sent (Zero ∷ bs) P (mark.Level false ∷ marks) f =
    let r = from_sent bs P marks f in (Sent false ∷ r.0, (refl, r.1), (refl, r.2))
from_sent (Zero ∷ bs) P (mark.Level true ∷ marks) f = absurd f
from_sent (One ∷ bs) P (mark.Level false ∷ marks) f = absurd f
from_sent (One ∷ bs) P (mark.Level true ∷ marks) f =
    let r = from_sent bs P marks f in (Sent true ∷ r.0, (refl, r.1), (refl, r.2))
from_sent (Either ∷ bs) P (mark.Level level ∷ marks) f =
    let r = from_sent bs P marks f in (Sent level ∷ r.0, (tt, r.1), (refl, r.2))
from_sent (b ∷ bs) P (mark.Again ∷ marks) f = absurd f
from_sent (b ∷ bs) P (mark.Stop ∷ marks) f = absurd f

-- ---- the header of an interrupt

pub begins_with : (marks : List Mark) → Fits Whatever marks
begins_with [] = ([], tt, tt)
begins_with (mark.Level level ∷ marks) = let r = begins_with marks in (Sent level ∷ r.0, tt, (refl, r.2))
begins_with (mark.Again ∷ marks) = let r = begins_with marks in (Again ∷ r.0, tt, (refl, r.2))
begins_with (mark.Stop ∷ marks) = let r = begins_with marks in (Stop ∷ r.0, tt, (refl, r.2))

pub header_fits : (a bs : List Bit) (marks : List Mark) (o : Option (List Mark)) → bs ≡ a ++ One ∷ [] → o ≡ after_bits bs marks → FitsAfter o Whatever ↔ Fits (SentThen (a ++ One ∷ []) Whatever) marks
header_fits a bs marks o b e =
    subst (λ (p : Option (List Mark)). FitsAfter p Whatever ↔ Fits (SentThen (a ++ One ∷ []) Whatever) marks) (sym (e ∙ ap (λ (cs : List Bit). after_bits cs marks) b))
    (from_sent (a ++ One ∷ []) Whatever marks, after_sent (a ++ One ∷ []) Whatever marks)
