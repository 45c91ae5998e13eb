use Rattle.std.proofs.Common.{◌≡◌, length}
use Rattle.std.specs.Prelude.{All}
use Rattle.bench_run.specs.Players.{PlaysOn}
use Rattle.bench_run.proofs.rounds.put_all.Given as goal

abbrev pub invariant-loop-player : goal.invariant-loop-player
invariant-loop-player g l = (length l.player-items ≡ length l.fn.players) × All (PlaysOn l.bench l.manner.fill) l.player-items
