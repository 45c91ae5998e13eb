-- A play leads to one state, and goes on until its run has ended.
use Rattle.std.proofs.Common.{◌≡◌, ℕ, ◌<◌, ◌⊎◌, inl, inr, true, false, List, [], ◌∷◌, ◌++◌, length, ap, sym, ◌∙◌, subst, arith}
use Rattle.message_tree.specs.declared.items.Item.{Item}
use Rattle.message_tree.specs.declared.items.Item.TheVariants as item
use Rattle.plan_core.specs.Lawful.{Set, In}
use Rattle.plan_core.specs.Rounds.{Follows, Offers, IsWire, survivors}
use Rattle.plan_core.specs.Runs.{IsReached, HasEnded}
use Rattle.plan_core.proofs.Model.{followed}
use Rattle.plan_core.proofs.Safety.{goes_on}
use Rattle.plan_core.proofs.Texts.{fair_text, some_text}
use Rattle.plays.specs.declared.puts.Put.{Put}
use Rattle.plays.specs.declared.puts.Put.TheVariants.{Drive, Listen, Again, Stop, Claim}
use Rattle.plays.specs.Games.{Game, IsGame, those, answer_at}
use Rattle.plays.specs.Plays.{item_of, Puts, HavePut, put_in, Goes, here, slot, Leads, IsPlay}
use Rattle.plays.specs.Laws.{MayPut, Passes}
use Rattle.plays.proofs.PlayLemmas.{is_reached, not_further, was_in}
use Rattle.plays.proofs.SlotLemmas.{first_slot, Complete, slot_tells}

-- ---- one state

-- no two items are the wire of one round
pub one_wire : (live : Set) (put : ℕ → Item) (w v : Item) → IsWire live put w → IsWire live put v → v ≡ w
one_wire live put w v a b =
    elim (b.all a.some.0 a.some.1) [
      | inl e ↦ sym e ∙ a.some.2
      | inr e ↦ elim (a.all b.some.0 b.some.1) [
        | inl d ↦ sym b.some.2 ∙ d
        | inr d ↦ let one : v ≡ item.Sent true = sym b.some.2 ∙ d.0 in let nil : v ≡ item.Sent false = e.1 in cc
      ]
    ]

module _ (game : Game) (puts : Puts) (u : List Item) (live : Set) (led : Leads game puts u live) where
  -- of two states to which the same puts lead, one is passed on the way to the other
  pub comparable : {v : List Item} {among : Set} → Leads game puts v among → Goes game puts v among u live ⊎ Goes game puts u live v among
  comparable here = inl led
  comparable (slot {v} {on} w g h o) = elim (comparable g) [
    | inr before ↦ inr (slot w before h o)
    | inl later ↦ elim (first_slot game puts v on later) [
      | inl same ↦ inr (slot w (subst (λ (x : List Item). Goes game puts x live v on) same.0 (subst (λ (s : Set). Goes game puts v s v on) same.1 here)) h o)
      | inr f ↦
          let e : f.shown ≡ w = one_wire on (put_in game puts (length v)) w f.shown o.is_wire f.is_slot.is_wire in
          inl (subst (λ (x : Item). Goes game puts (v ++ x ∷ []) (survivors on (put_in game puts (length v)) x) u live) e f.goes)
    ]
  ]

pub one_state : (game : Game) (puts : Puts) (u v : List Item) (live among : Set) → IsPlay game puts u live → IsPlay game puts v among → (u ≡ v) × (live ≡ among)
one_state game puts u v live among play other = elim (comparable game puts u live play.led other.led) [
  | inl g ↦ let q = other.last in not_further game puts v u among live q.0 g q.1 q.2
  | inr g ↦ let q = play.last in let e = not_further game puts u v live among q.0 g q.1 q.2 in (sym e.0, sym e.1)
]

-- ---- somebody may put

-- a put for an item that is offered: where the participant listens, either answer may come
put_for : (game : Game) (p : ℕ) (u : List Item) (y : Item) → Offers game.plan p u y → (x : Put) × Offers game.plan p u (item_of game.answers (length u) x)
put_for game p u (item.Sent b) o = (Drive b, o)
put_for game p u (item.Heard b) o = (Listen, (fair_text game.plan p).both u o.0 b (answer_at game.answers (length u)) o.1)
put_for game p u item.Again o = (Again, o)
put_for game p u item.Stop o = (Stop, o)
put_for game p u item.Claim o = (Claim, o)

pub somebody_may_put : (game : Game) (puts : Puts) (u : List Item) (live : Set) → IsGame game → IsPlay game puts u live → (HasEnded u → ⊥) → (p : ℕ) × (x : Put) × MayPut game puts u live p x
somebody_may_put game puts u live is play n =
    let q = play.last in
    let run = is_reached game puts u live play.led in
    let reached : IsReached game.plan (those game.starters) u live = (is.lawful, run) in
    let follows : (r : ℕ) → In r live → Follows game.plan r u = followed (λ r i. some_text game.plan is.sends r (is.lawful.participants r i)) run in
    let next = goes_on game.plan (those game.starters) u live is.safe reached follows n q.0 q.1 in
    let x = put_for game q.0 u (next.0 q.0) (next.2.is_round.offered q.0 q.1) in
    (q.0, x.0, (q.1, q.2, x.1))

-- ---- where all have put

-- then the slot is complete, since somebody who is live has not put after the play's wire
pub all_put_is_complete : (game : Game) (puts : Puts) (v u : List Item) (among live : Set) → IsGame game → Passes game puts v among u live → HavePut puts among (length v) → Complete game puts v u among live
all_put_is_complete game puts v u among live is p all = elim (slot_tells game puts v u among live is p.0 p.1 p.2) [
  | inl o ↦
      let q = p.0.last in
      let more : length v < length (puts q.0) = all q.0 (was_in game puts v u among live q.0 p.2 q.1) in
      let level : length (puts q.0) ≡ length u = q.2 in
      let same : length u ≡ length v = ap length o.wire in
      absurd (omega arith)
  | inr k ↦ k
]
