-- Runs of the bus: what a lawful set can go through, whatever its participants choose and whatever targets answer
-- (arbitration, UM10204, 3.1.8).
use Rattle.std.specs.Prelude.{◌≡◌, ℕ, ◌⊎◌, List, [], ◌∷◌, ◌++◌}
use Rattle.message_tree.specs.declared.items.Item.{Item}
use Rattle.message_tree.specs.declared.items.Item.TheVariants.{Stop, Claim}
use Rattle.plan_core.specs.Contents.{Contents}
use Rattle.plan_core.specs.Participants.{Text}
use Rattle.plan_core.specs.Lawful.{Set, IsLawful}
use Rattle.plan_core.specs.Rounds.{IsSlot, survivors}

-- Those in s have started together, the wire has been u, and these are still live.
pub data Reaches (plan : Contents) (s : Set) : List Item → Set → Type 0 where
  start : Reaches plan s [] s
  slot : {u : List Item} {live : Set} (put : ℕ → Item) (w : Item) →
      Reaches plan s u live → IsSlot plan u live put w → Reaches plan s (u ++ w ∷ []) (survivors live put w)

-- a state that a lawful set reaches
abbrev pub IsReached : Contents → Set → List Item → Set → Type 0
IsReached plan s u live = IsLawful plan s × Reaches plan s u live

-- the run has ended: its last item is a STOP or a claim
abbrev pub HasEnded : List Item → Type 0
HasEnded u = (v : List Item) × ((u ≡ v ++ Stop ∷ []) ⊎ (u ≡ v ++ Claim ∷ []))

-- p stands whole on the wire
abbrev pub Whole : Contents → ℕ → List Item → Type 0
Whole plan p u = Text plan p u
