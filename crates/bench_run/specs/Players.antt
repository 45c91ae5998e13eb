-- What is known of a player while it plays. Only private contracts and proofs use this.
use Rattle.std.specs.Prelude.{◌≡◌, ◌≢◌, Bool, []}
use Rattle.bus_bench.specs.Seats as seats
use Rattle.bus_bench.specs.Seats.{BenchName, game_of, participant, HasNotPut, HasPutHere}
use Rattle.bus_bench.specs.declared.seats.Standing.TheVariants.{Playing}
use Rattle.bench_run.specs.declared.players.Player.{Player}
use Rattle.bench_run.specs.declared.players.Stage.{Stage}
use Rattle.bench_run.specs.declared.rounds.Part.{Part}
use Rattle.bench_run.specs.declared.players.Stage.TheVariants.{Puts, Looks, Over}
use Rattle.bench_run.specs.Filled.{AreFilled}

-- the seat is where its player takes it to be
abbrev pub IsInStep : Stage → seats.Player → Type 0
IsInStep Puts seat = (seat.standing ≡ Playing) × HasNotPut seat
IsInStep Looks seat = (seat.standing ≡ Playing) × HasPutHere seat
IsInStep Over seat = (seat.standing ≢ Playing) × HasNotPut seat

-- a seat of this bench that has put and seen nothing
abbrev pub IsFresh : BenchName → seats.Player → Type 0
IsFresh bench seat = (seat.bench ≡ bench) × (seat.standing ≡ Playing) × (seat.puts ≡ []) × (seat.seen ≡ [])

-- all that was put in this seat is filled
abbrev pub IsFilledSeat : Bool → seats.Player → Type 0
IsFilledSeat fill seat = AreFilled (game_of seat.bench).plan (participant seat) fill seat.puts seat.seen

-- the player has a seat of this bench, is in step with it, and all that it has put is filled
pub record PlaysOn (bench : BenchName) (fill : Bool) (player : Player) : Type 0 where
  pub seat_of : player.seat.bench ≡ bench
  pub in_step : IsInStep player.stage player.seat
  pub filled : IsFilledSeat fill player.seat

-- the part of this bench, to be played with this fill
abbrev pub IsReady : BenchName → Bool → Part → Type 0
IsReady bench fill part = (part.bench.now ≡ bench) × (part.fill ≡ fill) × (part.player.stage ≡ Puts)

-- the part of this bench, played with this fill
abbrev pub IsPart : BenchName → Bool → Part → Type 0
IsPart bench fill part = (part.bench.now ≡ bench) × (part.fill ≡ fill) × PlaysOn bench fill part.player
