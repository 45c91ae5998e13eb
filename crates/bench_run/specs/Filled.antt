-- Plays in which each starter sends the same bit wherever it may send either.
use Rattle.std.specs.Prelude.{◌≡◌, ℕ, ◌<◌, Bool, true, false, List, length, take, filter}
use Rattle.std.specs.List.{slice_index_or}
use Rattle.message_tree.specs.declared.items.Item.{Item}
use Rattle.message_tree.specs.declared.items.Item.TheVariants.{Sent}
use Rattle.places.specs.declared.offers.Offered.{Offered}
use Rattle.places.specs.Offers.{MayPut}
use Rattle.plan_core.specs.Contents.{Contents}
use Rattle.plan_core.specs.Lawful.{Set, In}
use Rattle.plan_core.specs.Rounds.{Offers}
use Rattle.plan_core.specs.Runs.{HasEnded}
use Rattle.plays.specs.declared.puts.Put.{Put}
use Rattle.plays.specs.declared.puts.Put.TheVariants.{Drive, Listen}
use Rattle.plays.specs.Games.{Game, those}
use Rattle.plays.specs.Plays.{Puts, IsPlay, item_with}

-- x is what is put where this is offered: it may be put whatever the targets' bit is, and it is `fill` where either bit may be
abbrev pub IsFilling : Offered → Bool → Put → Type 0
IsFilling offered fill x =
    ((b : Bool) → MayPut offered (item_with b x))
    × (MayPut offered (Sent false) → MayPut offered (Sent true) → x ≡ Drive fill)

-- after the wire u, p may send a 0 and may send a 1
abbrev pub MaySendEither : Contents → ℕ → List Item → Type 0
MaySendEither plan p u = Offers plan p u (Sent false) × Offers plan p u (Sent true)

-- of these puts of p, after the wire u as far as it goes, each is `fill` where p may send either bit
abbrev pub AreFilled : Contents → ℕ → Bool → List Put → List Item → Type 0
AreFilled plan p fill puts u =
    (k : ℕ) → k < length puts → MaySendEither plan p (take k u) → slice_index_or puts k Listen ≡ Drive fill

-- so are all puts of the starters
abbrev pub IsFilled : Game → Bool → Puts → List Item → Type 0
IsFilled game fill puts u = (p : ℕ) → In p (those game.starters) → AreFilled game.plan p fill (puts p) u

-- a filled play of these starters has led to this wire, on which the run has ended, and these are live there, in the order
-- of the starters
pub record IsRehearsed (game : Game) (fill : Bool) (wire : List Item) (won : List ℕ) : Type 0 where
  pub puts : Puts
  pub live : Set
  pub play : IsPlay game puts wire live
  pub filled : IsFilled game fill puts wire
  pub ended : HasEnded wire
  pub winners : won ≡ filter live game.starters
