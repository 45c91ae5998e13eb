-- Who plays on a bench, and what the targets answer.
use Rattle.std.specs.Prelude.{◌≢◌, ℕ, ◌≤◌, Bool, true, ◌==◌, List, length, AllPairs}
use Rattle.std.specs.List.{list_any, slice_index_or}
use Rattle.plan_core.specs.Contents.{Contents}
use Rattle.plan_core.specs.Faults.{IsSafe}
use Rattle.plan_core.specs.Lawful.{Set, IsLawful}
use Rattle.plan_core.specs.Laws.{SendsItsMessages, HasShortMessages}

pub record Game : Type 0 where
  pub plan : Contents
  -- the participants who start together, by number
  pub starters : List ℕ
  -- the bits of the targets, by slot
  pub answers : List Bool

-- the participants of a list, as a set
abbrev pub those : List ℕ → Set
those xs p = list_any (λ x. x == p) xs

-- the bit of the targets in slot k: a 1 past the end of the answers, where nobody drives the wire
abbrev pub answer_at : List Bool → ℕ → Bool
answer_at answers k = slice_index_or answers k true

-- The plan is safe, and the starters are a lawful set, each of them once. No lawful set has more than 64.
pub record IsGame (game : Game) : Type 0 where
  pub safe : IsSafe game.plan
  pub sends : SendsItsMessages game.plan
  pub short : HasShortMessages game.plan
  pub lawful : IsLawful game.plan (those game.starters)
  pub once : AllPairs ◌≢◌ game.starters
  pub few : length game.starters ≤ 64
