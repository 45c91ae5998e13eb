-- The rule of a bench: at every moment the puts of all starters are a play, the words count them slot by slot, each seat
-- has seen a state that the play has passed, and the host knows what the seats that came back had done.
use Rattle.std.specs.Prelude.{◌≡◌, ℕ, suc, ◌<◌, ◌≤◌, false, not, List, [], length, Some, ⊤, slice_get, slice_index}
use mathlib.Core.Option.{some}
use lib.ListN.{get_elem?}
use Rattle.atomic_table.specs.Table.{State}
use Rattle.message_tree.specs.declared.items.Item.{Item}
use Rattle.plan_core.specs.Lawful.{Set}
use Rattle.plays.specs.Games.{Game, IsGame}
use Rattle.plays.specs.Plays.{Puts, Goes, Leads, IsPlay}
use Rattle.plays.specs.Words.{word_of, count_in}
use Rattle.bus_bench.specs.declared.hands.Hand.{Hand}
use Rattle.bus_bench.specs.declared.hands.Setup.{Setup}
use Rattle.bus_bench.specs.declared.hands.Told.{Told}
use Rattle.bus_bench.specs.declared.hands.Role.{Role}
use Rattle.bus_bench.specs.declared.hands.Role.TheVariants.{Host, Player, Nobody}
use Rattle.bus_bench.specs.Hands.{setup_game, hand_game, starter}

-- a slot for each item of the longest text
abbrev pub SLOTS : ℕ
SLOTS = 2560

-- What p has put is told, and what it has seen is a state that the play has passed: who was live there is told.
pub record Knows (game : Game) (puts : Puts) (wire : List Item) (live : Set) (p : ℕ) (t : Told) : Type 0 where
  pub among : Set
  pub made : puts p ≡ t.puts
  pub led : Leads game puts t.seen among
  pub goes : Goes game puts t.seen among wire live
  pub here : among p ≡ not t.out
  pub count : count_in game.starters among ≡ t.live

-- who plays which starter: nobody (0), or the hand with the number before
abbrev pub Holder : Type 0
Holder = ℕ → ℕ

pub record FitsPlayer (game : Game) (puts : Puts) (wire : List Item) (live : Set) (holder : Holder) (id : ℕ) (v : Hand) : Type 0 where
  pub one_game : hand_game v ≡ game
  pub place : v.seat < length game.starters
  pub holds : holder v.seat ≡ suc id
  pub knows : Knows game puts wire live (starter game v.seat) v.told

pub record FitsHost (game : Game) (puts : Puts) (wire : List Item) (live : Set) (holder : Holder) (id : ℕ) (v : Hand) : Type 0 where
  pub one_game : hand_game v ≡ game
  pub first : id ≡ 0
  -- the seats that are not handed out yet have put nothing
  pub made : v.seat ≤ length game.starters
  pub unmade : (k : ℕ) → v.seat ≤ k → k < length game.starters → (holder k ≡ 0) × (puts (starter game k) ≡ [])
  -- those that came back, each once
  pub returned : (k : ℕ) (e : ℕ × Told) → slice_get v.back k ≡ Some e → (e.0 < v.seat) × (holder e.0 ≡ 0) × Knows game puts wire live (starter game e.0) e.1
  pub once : (i k : ℕ) (d e : ℕ × Told) → slice_get v.back i ≡ Some d → slice_get v.back k ≡ Some e → d.0 ≡ e.0 → i ≡ k

abbrev pub FitsRole : Role → Type 0 → Type 0 → Type 0
FitsRole Host H P = H
FitsRole Player H P = P
FitsRole Nobody H P = ⊤

abbrev pub Fits : Game → Puts → List Item → Set → Holder → ℕ → Hand → Type 0
Fits game puts wire live holder id v =
    FitsRole v.role (FitsHost game puts wire live holder id v) (FitsPlayer game puts wire live holder id v)

pub record IsWired (game : Game) (words : List ℕ) (views : List Hand) : Type 0 where
  pub valid : IsGame game
  pub puts : Puts
  pub wire : List Item
  pub live : Set
  pub play : IsPlay game puts wire live
  pub long : length words ≡ SLOTS
  pub counted : (k : ℕ) → k < SLOTS → slice_index words k ≡ word_of game.starters puts k
  pub holder : Holder
  pub fits : (id : ℕ) (v : Hand) → get_elem? views id ≡ some v → Fits game puts wire live holder id v

abbrev pub holds_at : Setup → State Unit Hand → Type 0
holds_at setup s = IsWired (setup_game setup) s.words s.views

abbrev pub none_told : Told
none_told = record { puts = []; seen = []; out = false; live = 0 }

-- the host's hand when the bench is opened
abbrev pub opening : Setup → Hand
opening setup = record {
  plan = Some setup.plan.now;
  starters = setup.starters.items;
  answers = setup.answers.items;
  role = Host;
  seat = 0;
  told = none_told;
  back = [];
}
