-- Filled plays of one game that have ended have one wire, and the same are live there.
use Rattle.std.proofs.Common.{◌≡◌, ℕ, ◌+◌, ◌<◌, inl, inr, Bool, true, false, ◌&&◌, Option, Some, None, List, [], ◌∷◌, ◌++◌, length, length-append, take, refl, ap, sym, ◌∙◌, subst, arith}
use Rattle.std.specs.Prelude.{filter, if◌then◌else◌}
use Rattle.std.specs.List.{slice_index_or}
use Rattle.std.proofs.lemmas.List.{take_all, take-append-le}
use Rattle.message_tree.specs.declared.items.Item.{Item}
use Rattle.message_tree.specs.Items.{kind_of}
use Rattle.message_tree.specs.Texts.{Sender}
use Rattle.certificate.specs.Laws.{OneKind}
use Rattle.certificate.proofs.Soundness.{offers_one_kind}
use Rattle.plan_core.specs.Contents.{Contents}
use Rattle.plan_core.specs.Participants.{TextOf, sender_at}
use Rattle.plan_core.specs.Lawful.{Set, In}
use Rattle.plan_core.specs.Rounds.{Offers, IsSlot, IsWire, is_item, survivors}
use Rattle.plan_core.specs.Runs.{HasEnded}
use Rattle.plays.specs.declared.puts.Put.{Put}
use Rattle.plays.specs.declared.puts.Put.TheVariants.{Drive, Listen, Again, Stop, Claim}
use Rattle.plays.specs.Games.{Game, IsGame, those, answer_at}
use Rattle.plays.specs.Plays.{item_with, Puts, HavePut, put_in, Goes, here, slot, Leads, IsPlay}
use Rattle.plays.proofs.PlayLemmas.{was_in, is_prefix, ended_goes_no_further}
use Rattle.plays.proofs.RunLemmas.{comparable, one_wire}
use Rattle.plays.proofs.SlotLemmas.{first_slot}
use Rattle.bench_run.specs.Filled.{MaySendEither, IsFilled, IsRehearsed}

-- ---- one participant

of_one_kind : (s : Option Sender) → OneKind (TextOf s)
of_one_kind None u v w x y p q = absurd p
of_one_kind (Some s) u v w x y p q = offers_one_kind s u v w x y p q

one_kind_offered : (plan : Contents) (p : ℕ) (u : List Item) (x y : Item) → Offers plan p u x → Offers plan p u y → kind_of x ≡ kind_of y
one_kind_offered plan p u x y a b = of_one_kind (sender_at plan p) u a.0 b.0 x y a.1 b.1

-- two filled puts after one wire stand for one item
same_item : (plan : Contents) (p : ℕ) (v : List Item) (fill b : Bool) (x y : Put) →
    Offers plan p v (item_with b x) → Offers plan p v (item_with b y) →
    (MaySendEither plan p v → x ≡ Drive fill) → (MaySendEither plan p v → y ≡ Drive fill) →
    item_with b x ≡ item_with b y
same_item plan p v fill b (Drive false) (Drive true) o q f g =
    let e : Drive false ≡ Drive true = f (o, q) ∙ sym (g (o, q)) in ap (item_with b) e
same_item plan p v fill b (Drive true) (Drive false) o q f g =
    let e : Drive true ≡ Drive false = f (q, o) ∙ sym (g (q, o)) in ap (item_with b) e
same_item plan p v fill b (Drive false) (Drive false) o q f g = refl
same_item plan p v fill b (Drive true) (Drive true) o q f g = refl
same_item plan p v fill b Listen Listen o q f g = refl
same_item plan p v fill b Again Again o q f g = refl
same_item plan p v fill b Stop Stop o q f g = refl
same_item plan p v fill b Claim Claim o q f g = refl
same_item plan p v fill b x y o q f g =
    let k = one_kind_offered plan p v (item_with b x) (item_with b y) o q in absurd cc

-- ---- one slot

abbrev Agree : Set → Set → Type 0
Agree on there = (p : ℕ) → on p ≡ there p

-- a state that is passed on the way to a state that is passed
joined : (game : Game) (puts : Puts) (v w : List Item) (on among : Set) → Goes game puts v on w among → {u : List Item} {live : Set} → Goes game puts w among u live → Goes game puts v on u live
joined game puts v w on among first here = first
joined game puts v w on among first (slot x g h o) = slot x (joined game puts v w on among first g) h o

module _ (game : Game) (fill : Bool) (is : IsGame game) (mine yours : Puts) (u t : List Item) (live left : Set)
    (play : IsPlay game mine u live) (other : IsPlay game yours t left)
    (filled : IsFilled game fill mine u) (filled_too : IsFilled game fill yours t)
    (ended : HasEnded u) (ended_too : HasEnded t) where
  -- a starter that has put in the slot after a wire that both pass has put the same
  same_put : (v rest more : List Item) → u ≡ v ++ rest → t ≡ v ++ more → (p : ℕ) → In p (those game.starters) →
      length v < length (mine p) → length v < length (yours p) → put_in game mine (length v) p ≡ put_in game yours (length v) p
  same_put v rest more e d p i l m =
      let here_mine : take (length v) u ≡ v = ap (take (length v)) e ∙ take-append-le (length v) v rest (omega arith) ∙ take_all (length v) v (omega arith) in
      let here_yours : take (length v) t ≡ v = ap (take (length v)) d ∙ take-append-le (length v) v more (omega arith) ∙ take_all (length v) v (omega arith) in
      let o = subst (λ (x : List Item). Offers game.plan p x (put_in game mine (length v) p)) here_mine (play.offered p (length v) i l) in
      let q = subst (λ (x : List Item). Offers game.plan p x (put_in game yours (length v) p)) here_yours (other.offered p (length v) i m) in
      same_item game.plan p v fill (answer_at game.answers (length v)) (slice_index_or (mine p) (length v) Listen) (slice_index_or (yours p) (length v) Listen) o q
      (λ may. filled p i (length v) l (subst (MaySendEither game.plan p) (sym here_mine) may))
      (λ may. filled_too p i (length v) m (subst (MaySendEither game.plan p) (sym here_yours) may))

  -- the run goes on after a wire that is not the whole of it
  goes_on_there : (v : List Item) (w : Item) (on s : Set) → Goes game mine v on (v ++ w ∷ []) s → Goes game mine (v ++ w ∷ []) s u live → HasEnded v → ⊥
  goes_on_there v w on s step goes e =
      let all = ended_goes_no_further game mine v u on live is e (joined game mine v (v ++ w ∷ []) on s step goes) in
      let r = is_prefix game mine (v ++ w ∷ []) u s live goes in
      let long : length u ≡ length v = ap length all in
      let longer : length u ≡ length (v ++ w ∷ []) + length r.0 = ap length r.1 ∙ length-append (v ++ w ∷ []) r.0 in
      let one : length (v ++ w ∷ []) ≡ length v + 1 = length-append v (w ∷ []) in
      omega arith

  abbrev Shared : List Item → Set → Type 0
  Shared v on = (there : Set) × Leads game yours v there × Agree on there

  -- one slot more
  slot_shared : (v : List Item) (on : Set) (w : Item) → Leads game mine v on → HavePut mine on (length v) → IsSlot game.plan v on (put_in game mine (length v)) w →
      Goes game mine (v ++ w ∷ []) (survivors on (put_in game mine (length v)) w) u live →
      Shared v on → Shared (v ++ w ∷ []) (survivors on (put_in game mine (length v)) w)
  slot_shared v on w g h o goes (there, led, agree) =
      elim (comparable game yours t left other.led led) [
        | inr back ↦
            let e = ended_goes_no_further game yours t v left there is ended_too back in
            absurd (open_here (subst HasEnded (sym e) ended_too))
        | inl on_way ↦ elim (first_slot game yours v there on_way) [
          | inl same ↦ absurd (open_here (subst HasEnded (sym same.0) ended_too))
          | inr f ↦
              let mine_puts = put_in game mine (length v) in
              let your_puts = put_in game yours (length v) in
              let prefix = is_prefix game mine v u on live (joined game mine v (v ++ w ∷ []) on (survivors on mine_puts w) (slot w here h o) goes) in
              let prefix_too = is_prefix game yours v t there left on_way in
              let same : (p : ℕ) → In p on → mine_puts p ≡ your_puts p =
              λ p i. same_put v prefix.0 prefix_too.0 prefix.1 prefix_too.1 p (was_in game mine [] v (those game.starters) on p g i) (h p i) (f.have_put p (sym (agree p) ∙ i)) in
              let wire : IsWire on mine_puts f.shown = record {
                some =
                    let s = f.is_slot.is_wire.some in
                    let i : In s.0 on = agree s.0 ∙ s.1 in
                    (s.0, i, same s.0 i ∙ s.2);
                all = λ p i. elim (f.is_slot.is_wire.all p (sym (agree p) ∙ i)) [
                  | inl e ↦ inl (same p i ∙ e)
                  | inr e ↦ inr (same p i ∙ e.0, e.1)
                ];
              } in
              let shown : f.shown ≡ w = one_wire on mine_puts w f.shown o.is_wire wire in
              subst (λ (x : Item). Shared (v ++ x ∷ []) (survivors on mine_puts x)) shown
              (survivors there your_puts f.shown, slot f.shown led f.have_put f.is_slot, λ p. kept p (on p) (there p) refl (agree p) (mine_puts p) (your_puts p) f.shown (same p))
        ]
      ]
    where
      open_here : HasEnded v → ⊥
      open_here = goes_on_there v w on (survivors on (put_in game mine (length v)) w) (slot w here h o) goes

      kept : (p : ℕ) (a b : Bool) → on p ≡ a → a ≡ b → (x y z : Item) → (In p on → x ≡ y) → (a && is_item x z) ≡ (b && is_item y z)
      kept p true b i e x y z s = ap (λ (c : Bool). c && is_item x z) e ∙ ap (λ (k : Item). b && is_item k z) (s i)
      kept p false b i e x y z s = ap (λ (c : Bool). c && is_item x z) e ∙ sym (ap (λ (c : Bool). c && is_item x z) e) ∙ ap (λ (c : Bool). c && is_item y z) e

  -- the other play passes each state that the one has passed
  shared : {v : List Item} {on : Set} → Leads game mine v on → Goes game mine v on u live → Shared v on
  shared here goes = (those game.starters, here, λ p. refl)
  shared (slot {v} {on} w g h o) goes =
      slot_shared v on w g h o goes
      (shared g (joined game mine v (v ++ w ∷ []) on (survivors on (put_in game mine (length v)) w) (slot w here h o) goes))

  one_end : (u ≡ t) × Agree live left
  one_end =
      let s = shared play.led here in
      elim (comparable game yours t left other.led s.1) [
        | inl on_way ↦ elim (first_slot game yours u s.0 on_way) [
          | inl same ↦ (same.0, λ p. s.2 p ∙ ap (λ (set : Set). set p) same.1)
          | inr f ↦ absurd (no_longer u t f.shown (survivors s.0 (put_in game yours (length u)) f.shown) left ended (sym (ended_goes_no_further game yours u t s.0 left is ended on_way)) f.goes)
        ]
        | inr back ↦ elim (first_slot game yours t left back) [
          | inl same ↦ (sym same.0, λ p. s.2 p ∙ sym (ap (λ (set : Set). set p) same.1))
          | inr f ↦ absurd (no_longer t u f.shown (survivors left (put_in game yours (length t)) f.shown) s.0 ended_too (sym (ended_goes_no_further game yours t u left s.0 is ended_too back)) f.goes)
        ]
      ]
    where
      no_longer : (v w : List Item) (x : Item) (on among : Set) → HasEnded v → v ≡ w → Goes game yours (v ++ x ∷ []) on w among → ⊥
      no_longer v w x on among end e goes =
          let r = is_prefix game yours (v ++ x ∷ []) w on among goes in
          let long : length v ≡ length w = ap length e in
          let longer : length w ≡ length (v ++ x ∷ []) + length r.0 = ap length r.1 ∙ length-append (v ++ x ∷ []) r.0 in
          let one : length (v ++ x ∷ []) ≡ length v + 1 = length-append v (x ∷ []) in
          omega arith

-- ---- one report

same_filter : (live left : Set) → Agree live left → (xs : List ℕ) → filter live xs ≡ filter left xs
same_filter live left a [] = refl
same_filter live left a (x ∷ xs) =
    let e = a x in
    let r = same_filter live left a xs in
    ap (λ (b : Bool). if b then x ∷ filter live xs else filter live xs) e
    ∙ ap (λ (ys : List ℕ). if left x then x ∷ ys else ys) r

pub one_rehearsal : (game : Game) (fill : Bool) (wire other_wire : List Item) (won other_won : List ℕ) → IsGame game →
    IsRehearsed game fill wire won → IsRehearsed game fill other_wire other_won → (wire ≡ other_wire) × (won ≡ other_won)
one_rehearsal game fill wire other_wire won other_won is a b =
    let e = one_end game fill is a.puts b.puts wire other_wire a.live b.live a.play b.play a.filled b.filled a.ended b.ended in
    (e.0, a.winners ∙ same_filter a.live b.live e.1 game.starters ∙ sym b.winners)
