-- What a bench, a host and a seat are while they are in use. Only private contracts and proofs use this.
use Rattle.std.specs.Prelude.{◌≡◌, ℕ, ◌<◌, ◌≤◌, ◌↔◌, Bool, true, false, List, [], ◌∷◌, ◌++◌, length, Option, Some, None, ⊤}
use Rattle.atomic_table.specs.Seated.{TableId}
use Rattle.atomic_table.specs.Table.{Me}
use Rattle.message_tree.specs.declared.items.Item.{Item}
use Rattle.plan_core.specs.Participants.{Text}
use Rattle.plan_core.specs.Runs.{HasEnded}
use Rattle.places.specs.declared.cursor.Place.{Place}
use Rattle.places.specs.Places.{rest_of}
use Rattle.plays.specs.declared.puts.Put.{Put}
use Rattle.plays.specs.Games.{IsGame}
use Rattle.bus_bench.specs.declared.hands.Hand.{Hand}
use Rattle.bus_bench.specs.declared.hands.Setup.{Setup}
use Rattle.bus_bench.specs.declared.hands.Terms.{Terms}
use Rattle.bus_bench.specs.declared.hands.Told.{Told}
use Rattle.bus_bench.specs.declared.hands.Role.TheVariants.{Host, Player}
use Rattle.bus_bench.specs.declared.seats.Standing.{Standing}
use Rattle.bus_bench.specs.declared.seats.Standing.TheVariants.{Playing, Lost, Ended}
use Rattle.bus_bench.specs.Hands.{hand_game, setup_game, starter}
use Rattle.bus_bench.specs.Rule.{SLOTS}
use Rattle.bus_bench.specs.Steps.{HandPlayed}
use Rattle.bus_bench.specs.Seats.{BenchName, Player as PlayerOf}

abbrev pub bench_name : TableId → Setup → BenchName
bench_name id setup = record { wire = id; plan = Some setup.plan.now; starters = setup.starters.items; answers = setup.answers.items }

-- what its table was told, with what the bench keeps of that
abbrev pub setup_of : Setup → Terms → Setup
setup_of key terms = record { plan = key.plan; starters = terms.starters; answers = terms.answers }

-- the bench of a table that was told this, with what the bench keeps of that
abbrev pub bench_on : TableId → Setup → Terms → BenchName
bench_on id key terms = bench_name id (setup_of key terms)

-- its table was told this setup, and has a word for each slot
pub record IsBench (id : TableId) (key setup : Setup) : Type 0 where
  pub told : key ≡ setup
  pub words : id.words ≡ SLOTS
  pub valid : IsGame (setup_game setup)

abbrev pub ticket_bench : TableId → Me Unit Hand → BenchName
ticket_bench id me = record { wire = id; plan = me.0.plan; starters = me.0.starters; answers = me.0.answers }

-- all seats were handed out, and none has come back
pub record IsHost (me : Me Unit Hand) : Type 0 where
  pub slots : me.1 ≡ []
  pub hosts : me.0.role ≡ Host
  pub all : me.0.seat ≡ length me.0.starters
  pub none_back : me.0.back ≡ []

abbrev pub player_of : TableId → Me Unit Hand → Standing → PlayerOf
player_of id me standing = record {
  bench = ticket_bench id me;
  number = me.0.seat;
  puts = me.0.told.puts;
  seen = me.0.told.seen;
  standing = standing;
}

abbrev pub is_lost : Standing → Bool
is_lost Lost = true
is_lost _ = false

-- what it has put in its slot
abbrev pub HasOwn : Option Put → Told → Type 0
HasOwn None t = length t.puts ≡ length t.seen
HasOwn (Some x) t = (before : List Put) × (t.puts ≡ before ++ x ∷ []) × (length before ≡ length t.seen) × (length t.seen < SLOTS)

-- a seat that plays on: where it stands, and what may still come of it
pub record IsPlaying (v : Hand) (place : Place) (own : Option Put) (slot live : ℕ) : Type 0 where
  pub in_slot : slot ≡ length v.told.seen
  pub few : slot ≤ SLOTS
  pub alive : live ≡ v.told.live
  pub own_put : HasOwn own v.told
  pub left : (u : List Item) → rest_of place u ↔ Text (hand_game v).plan (starter (hand_game v) v.seat) (v.told.seen ++ u)

abbrev pub StandsSo : Standing → Hand → Place → Option Put → ℕ → ℕ → Type 0
StandsSo Playing v place own slot live = IsPlaying v place own slot live
StandsSo Lost v place own slot live = ⊤
StandsSo Ended v place own slot live = HasEnded v.told.seen × (slot ≡ length v.told.seen) × (slot ≤ SLOTS)

pub record IsSeat (me : Me Unit Hand) (number : ℕ) (place : Place) (own : Option Put) (slot live : ℕ) (standing : Standing) : Type 0 where
  pub slots : me.1 ≡ []
  pub plays : me.0.role ≡ Player
  pub valid : IsGame (hand_game me.0)
  pub in_place : number ≡ me.0.seat
  pub number_within : me.0.seat < length me.0.starters
  pub played : HandPlayed me.0
  pub out : me.0.told.out ≡ is_lost standing
  pub stands : StandsSo standing me.0 place own slot live
