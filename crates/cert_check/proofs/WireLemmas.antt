-- A wire followed place by place through what a participant sends.
use Rattle.std.proofs.Common.{◌≡◌, ◌↔◌, ℕ, ◌+◌, ◌<◌, ◌≤◌, true, false, List, [], ◌∷◌, ◌++◌, length, get_or, take, refl, ap, sym, ◌∙◌, subst, append_assoc}
use Rattle.std.specs.Prelude.{drop}
use Rattle.std.proofs.lemmas.List.{take_all, take_more, take-append-drop}
use Rattle.message_tree.specs.declared.bits.Bit.TheVariants.{Zero, One, Either}
use Rattle.message_tree.specs.declared.items.Item.{Item}
use Rattle.message_tree.specs.declared.items.Item.TheVariants as item
use Rattle.message_tree.specs.declared.items.Kind.{Kind}
use Rattle.message_tree.specs.declared.items.Kind.TheVariants as kind
use Rattle.message_tree.specs.Items.{kind_of}
use Rattle.message_tree.specs.Texts.{Language}
use Rattle.places.specs.declared.offers.Offered.{Offered}
use Rattle.places.specs.declared.offers.Offered.TheVariants.{Bit, Listen, Again, Stop, Claim}
use Rattle.places.specs.Offers.{Begins, MayPut}
use Rattle.cert_check.specs.Wires.{GoesOnWith, is_offered}

pub along : {A B C : Type 0} → A ↔ B → B ↔ C → A ↔ C
along f g = (λ a. g.0 (f.0 a), λ c. f.1 (g.1 c))

-- ---- what may come next is of one kind

put_kind : (o : Offered) (x : Item) → MayPut o x → is_offered o (kind_of x) ≡ true
put_kind (Bit b) (item.Sent s) m = refl
put_kind Listen (item.Heard s) m = refl
put_kind Again item.Again m = refl
put_kind Stop item.Stop m = refl
put_kind Claim item.Claim m = refl
put_kind _ _ m = absurd m

kind_put : (o : Offered) (k : Kind) → is_offered o k ≡ true → (x : Item) × MayPut o x × (kind_of x ≡ k)
kind_put (Bit Zero) kind.Sent e = (item.Sent false, refl, refl)
kind_put (Bit One) kind.Sent e = (item.Sent true, refl, refl)
kind_put (Bit Either) kind.Sent e = (item.Sent false, tt, refl)
kind_put Listen kind.Heard e = (item.Heard false, tt, refl)
kind_put Again kind.Again e = (item.Again, tt, refl)
kind_put Stop kind.Stop e = (item.Stop, tt, refl)
kind_put Claim kind.Claim e = (item.Claim, tt, refl)
kind_put _ _ e = cc

-- ---- along the wire

-- after the first n items of the wire, R is left of P
abbrev pub IsLeft : Language → List Item → ℕ → Language → Type 0
IsLeft P wire n R = (u : List Item) → R u ↔ P (take n wire ++ u)

module _ (P : Language) (wire : List Item) where
  over : (n : ℕ) (d : Item) (u : List Item) → n < length wire → take (n + 1) wire ++ u ≡ take n wire ++ get_or wire n d ∷ u
  over n d u lt = ap (λ (v : List Item). v ++ u) (take_more wire n d lt) ∙ append_assoc (take n wire) (get_or wire n d ∷ []) u

  -- P has no text that goes on after the wire, where its item n may not come
  pub not_along : (n : ℕ) (d : Item) (k : Kind) (R : Language) → n < length wire → IsLeft P wire n R → (Begins R (get_or wire n d) → ⊥) → GoesOnWith P wire k → ⊥
  not_along n d k R lt left none (y, (rest, t), e) =
      let x = get_or wire n d in
      let more : List Item = drop (n + 1) wire ++ y ∷ rest in
      let split : wire ++ y ∷ rest ≡ take n wire ++ x ∷ more =
      ap (λ (v : List Item). v ++ y ∷ rest) (sym (take-append-drop (n + 1) wire))
      ∙ append_assoc (take (n + 1) wire) (drop (n + 1) wire) (y ∷ rest)
      ∙ over n d more lt
      in
      none (more, (left (x ∷ more)).1 (subst P split t))

  -- what is left after the whole wire begins with items of the kind that is offered
  pub at_end : (n : ℕ) (k : Kind) (R : Language) (o : Offered) → length wire ≤ n → IsLeft P wire n R → ((x : Item) → Begins R x ↔ MayPut o x) → (is_offered o k ≡ true) ↔ GoesOnWith P wire k
  at_end n k R o le left items =
      let all : take n wire ≡ wire = take_all n wire le in (
        λ e.
            let p = kind_put o k e in
            let b = (items p.0).1 p.1 in
            (p.0, (b.0, subst (λ (v : List Item). P (v ++ p.0 ∷ b.0)) all ((left (p.0 ∷ b.0)).0 b.1)), p.2),
        λ g.
            let m = (items g.0).0 (g.1.0, (left (g.0 ∷ g.1.0)).1 (subst (λ (v : List Item). P (v ++ g.0 ∷ g.1.0)) (sym all) g.1.1)) in
            subst (λ (j : Kind). is_offered o j ≡ true) g.2 (put_kind o g.0 m),
      )
