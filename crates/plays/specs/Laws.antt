-- What holds of plays.
use Rattle.std.specs.Prelude.{◌≡◌, ℕ, List, ◌++◌, length}
use Rattle.message_tree.specs.declared.items.Item.{Item}
use Rattle.plan_core.specs.Lawful.{Set, In}
use Rattle.plan_core.specs.Rounds.{Offers}
use Rattle.plays.specs.declared.puts.Put.{Put}
use Rattle.plays.specs.Games.{Game}
use Rattle.plays.specs.Plays.{Puts, item_of, Goes, Leads, IsPlay}

-- p may put x: it is live, has put in no slot after the wire u, and offers there what x stands for
abbrev pub MayPut : Game → Puts → List Item → Set → ℕ → Put → Type 0
MayPut game puts u live p x = In p live × (length (puts p) ≡ length u) × Offers game.plan p u (item_of game.answers (length u) x)

-- a play whose wire begins with u
abbrev pub HasPlayFrom : Game → Puts → List Item → Type 0
HasPlayFrom game puts u = (rest : List Item) × (live : Set) × IsPlay game puts (u ++ rest) live

-- the play, which has led to u with these live, has passed the state (v, among)
abbrev pub Passes : Game → Puts → List Item → Set → List Item → Set → Type 0
Passes game puts v among u live = IsPlay game puts u live × Leads game puts v among × Goes game puts v among u live
