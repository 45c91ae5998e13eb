-- Plays: what each starter has put, slot by slot, and where that leads.
use Rattle.std.specs.Prelude.{◌≡◌, ◌≢◌, ℕ, ◌+◌, ◌<◌, ◌⊎◌, Bool, false, if◌then◌else◌, ◌==◌, List, [], ◌∷◌, ◌++◌, length, take}
use Rattle.std.specs.List.{slice_index_or}
use Rattle.message_tree.specs.declared.items.Item.{Item}
use Rattle.message_tree.specs.declared.items.Item.TheVariants as item
use Rattle.plan_core.specs.Lawful.{Set, In}
use Rattle.plan_core.specs.Rounds.{Offers, IsSlot, survivors}
use Rattle.plan_core.specs.Runs.{HasEnded}
use Rattle.plays.specs.declared.puts.Put.{Put}
use Rattle.plays.specs.declared.puts.Put.TheVariants.{Drive, Listen, Again, Stop, Claim}
use Rattle.plays.specs.Games.{Game, those, answer_at}

-- the item that a put stands for where the bit of the targets is b
abbrev pub item_with : Bool → Put → Item
item_with b (Drive c) = item.Sent c
item_with b Listen = item.Heard b
item_with b Again = item.Again
item_with b Stop = item.Stop
item_with b Claim = item.Claim

-- the item that a put stands for in slot k
abbrev pub item_of : List Bool → ℕ → Put → Item
item_of answers k x = item_with (answer_at answers k) x

-- what each participant has put, in order
abbrev pub Puts : Type 0
Puts = ℕ → List Put

-- all who are live have put in slot k
abbrev pub HavePut : Puts → Set → ℕ → Type 0
HavePut puts live k = (p : ℕ) → In p live → k < length (puts p)

-- the item that p puts in slot k, where it has put one there
abbrev pub put_in : Game → Puts → ℕ → ℕ → Item
put_in game puts k p = item_of game.answers k (slice_index_or (puts p) k Listen)

-- From the wire u and those who are live there, by one slot after the other in which each live participant puts what it
-- has put there.
pub data Goes (game : Game) (puts : Puts) (u : List Item) (live : Set) : List Item → Set → Type 0 where
  here : Goes game puts u live u live
  slot : {v : List Item} {on : Set} (w : Item) →
      Goes game puts u live v on → HavePut puts on (length v) → IsSlot game.plan v on (put_in game puts (length v)) w →
      Goes game puts u live (v ++ w ∷ []) (survivors on (put_in game puts (length v)) w)

-- from the START on
abbrev pub Leads : Game → Puts → List Item → Set → Type 0
Leads game puts u live = Goes game puts [] (those game.starters) u live

-- p was live up to some slot of the wire u, put another item there than the wire's, and has put nothing since
pub record HasLost (game : Game) (puts : Puts) (u : List Item) (p : ℕ) : Type 0 where
  pub before : List Item
  pub live : Set
  pub shown : Item
  pub rest : List Item
  pub wire : u ≡ before ++ shown ∷ rest
  pub led : Leads game puts before live
  pub was_live : In p live
  pub other : put_in game puts (length before) p ≢ shown
  pub puts_made : length (puts p) ≡ length before + 1

-- p has put in each slot of the wire u; or in one more, where the run goes on
abbrev pub KeepsUp : Puts → List Item → ℕ → Type 0
KeepsUp puts u p = (length (puts p) ≡ length u) ⊎ ((length (puts p) ≡ length u + 1) × (HasEnded u → ⊥))

-- The starters' puts are a play, which has led to the wire u with these live: each put is one that its participant
-- offers there, whoever lost has put nothing since, and whoever is live keeps up. The play has led no further, since
-- somebody who is live has not put in the next slot: nothing else ends a play of a safe plan, in which no round clashes.
-- Where the run has ended, nobody has.
pub record IsPlay (game : Game) (puts : Puts) (u : List Item) (live : Set) : Type 0 where
  pub led : Leads game puts u live
  pub last : (p : ℕ) × In p live × (length (puts p) ≡ length u)
  pub offered : (p k : ℕ) → In p (those game.starters) → k < length (puts p) → Offers game.plan p (take k u) (put_in game puts k p)
  pub lost : (p : ℕ) → In p (those game.starters) → live p ≡ false → HasLost game puts u p
  pub keeps_up : (p : ℕ) → In p live → KeepsUp puts u p
  -- who didn't start has put nothing
  pub others : (p : ℕ) → those game.starters p ≡ false → puts p ≡ []

-- the same with one put more of p
abbrev pub with_put : Puts → ℕ → Put → Puts
with_put puts p x q = if q == p then puts p ++ x ∷ [] else puts q
