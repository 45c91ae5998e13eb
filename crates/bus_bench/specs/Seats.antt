-- What callers see of a bench and its seats.
use Rattle.std.specs.Prelude.{◌≡◌, ◌≢◌, ℕ, ◌+◌, Bool, List, [], ◌∷◌, ◌++◌, length, Option}
use Rattle.std.specs.List.{slice_index_or}
use Rattle.atomic_table.specs.Seated.{TableId}
use Rattle.message_tree.specs.declared.items.Item.{Item}
use Rattle.message_tree.specs.declared.items.Item.TheVariants as item
use Rattle.plan_core.specs.Rounds.{Offers}
use Rattle.plan_core.specs.declared.plans.Plan.{Plan}
use Rattle.plays.specs.declared.puts.Put.{Put}
use Rattle.plays.specs.declared.puts.Put.TheVariants.{Listen}
use Rattle.plays.specs.Games.{Game}
use Rattle.plays.specs.Plays.{item_of}
use Rattle.bus_bench.specs.declared.errors.PutError.{PutError}
use Rattle.bus_bench.specs.declared.errors.PutError.TheVariants.{Over, Early, NotOffered}
use Rattle.bus_bench.specs.declared.errors.Sight.{Sight}
use Rattle.bus_bench.specs.declared.errors.Sight.TheVariants as sight
use Rattle.bus_bench.specs.declared.seats.Standing.{Standing}
use Rattle.bus_bench.specs.declared.seats.Standing.TheVariants.{Playing, Lost, Ended}
use Rattle.bus_bench.specs.Hands.{contents_in, starter}
use Rattle.bus_bench.specs.Steps.{IsPlayed, IsJust}

-- which bench it is, and what is played on it
pub record BenchName : Type 0 where
  pub wire : TableId
  pub plan : Option Plan
  pub starters : List ℕ
  pub answers : List Bool

abbrev pub game_of : BenchName → Game
game_of bench = record { plan = contents_in bench.plan; starters = bench.starters; answers = bench.answers }

-- a seat: its bench, its place among the starters, what it has put and seen, and how it stands
pub record Player : Type 0 where
  pub bench : BenchName
  pub number : ℕ
  pub puts : List Put
  pub seen : List Item
  pub standing : Standing

-- the participant that it plays
abbrev pub participant : Player → ℕ
participant seat = starter (game_of seat.bench) seat.number

-- a seat that has put and seen nothing
abbrev pub fresh : BenchName → ℕ → Player
fresh bench number = record { bench = bench; number = number; puts = []; seen = []; standing = Playing }

-- the seat is live and the run goes on, and its participant may send x after what the seat has seen
abbrev pub MayOffer : Player → Item → Type 0
MayOffer seat x = (seat.standing ≡ Playing) × Offers (game_of seat.bench).plan (participant seat) seat.seen x

-- the item that a put stands for in the seat's slot
abbrev pub put_item : Player → Put → Item
put_item seat x = item_of seat.bench.answers (length seat.seen) x

-- it has put in each slot that it has seen complete, and in no other
abbrev pub HasNotPut : Player → Type 0
HasNotPut seat = length seat.puts ≡ length seat.seen

-- it has put in one slot more
abbrev pub HasPutHere : Player → Type 0
HasPutHere seat = length seat.puts ≡ length seat.seen + 1

abbrev pub CanPut : Player → Put → Type 0
CanPut seat x = HasNotPut seat × MayOffer seat (put_item seat x)

abbrev pub IsPutRefusal : PutError → Player → Put → Type 0
IsPutRefusal Over seat x = seat.standing ≢ Playing
IsPutRefusal Early seat x = (seat.standing ≡ Playing) × HasPutHere seat
IsPutRefusal NotOffered seat x = (seat.standing ≡ Playing) × HasNotPut seat × (MayOffer seat (put_item seat x) → ⊥)

abbrev pub after_put : Put → Player → Player
after_put x seat = record seat { puts = seat.puts ++ x ∷ [] }

-- There is a play of all starters in which the seat's participant has put just what the seat has put, and whose wire
-- begins with what the seat has seen.
abbrev pub HasPlay : Player → Type 0
HasPlay seat = IsPlayed (game_of seat.bench) (participant seat) seat.puts seat.seen

-- There is one whose wire is just that.
abbrev pub HasPlayHere : Player → Type 0
HasPlayHere seat = IsJust (game_of seat.bench) (participant seat) seat.puts seat.seen

-- the item that it has put in its slot
abbrev pub own_item : Player → Item
own_item seat = put_item seat (slice_index_or seat.puts (length seat.seen) Listen)

-- the slot was complete with this wire
abbrev pub after_slot : Item → Standing → Player → Player
after_slot w standing seat = record seat { seen = seat.seen ++ w ∷ []; standing = standing }

-- how a live seat stands after this item: a STOP and a claim end the run
abbrev pub standing_behind : Item → Standing
standing_behind item.Stop = Ended
standing_behind item.Claim = Ended
standing_behind _ = Playing

-- what a look tells, by the seat before and after
abbrev pub Saw : Sight → Player → Player → Type 0
Saw sight.Ended old new = (old.standing ≢ Playing) × (new ≡ old)
Saw sight.NotPut old new = (old.standing ≡ Playing) × HasNotPut old × (new ≡ old)
Saw sight.Waiting old new = (old.standing ≡ Playing) × HasPutHere old × (new ≡ old) × HasPlayHere old
Saw (sight.On w) old new = (old.standing ≡ Playing) × HasPutHere old × (own_item old ≡ w) × (new ≡ after_slot w (standing_behind w) old)
Saw (sight.Lost w) old new = (old.standing ≡ Playing) × HasPutHere old × (own_item old ≢ w) × (new ≡ after_slot w Lost old)
