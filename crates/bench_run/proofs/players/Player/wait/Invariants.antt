use Rattle.bench_run.specs.Players.{PlaysOn}
use Rattle.bench_run.proofs.players.Player.wait.Given as goal

abbrev pub invariant-loop-looks : goal.invariant-loop-looks
invariant-loop-looks g l = PlaysOn l.bench l.manner.fill l.self
