use Rattle.std.proofs.Common.{◌≡◌, length}
use Rattle.std.specs.Prelude.{All}
use Rattle.bench_run.specs.Players.{PlaysOn}
use Rattle.bench_run.proofs.rounds.play_by_turns.Given as goal

abbrev pub invariant-loop : goal.invariant-loop
invariant-loop g l = (length l.players ≡ length l.fn.players) × All (PlaysOn l.bench l.manner.fill) l.players
