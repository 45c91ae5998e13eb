use Rattle.std.proofs.Common.{◌≡◌, map}
use Rattle.std.specs.Prelude.{All}
use Rattle.bench_run.specs.Players.{IsReady}
use Rattle.bench_run.proofs.rounds.parts_of.Given as goal

abbrev pub invariant-loop-seat : goal.invariant-loop-seat
invariant-loop-seat l =
    (goal.iterator-loop-seat).can_next l.seat-iterator
    × (goal.iterator-loop-seat).is_finite l.seat-iterator
    × (map (λ p. p.player.seat) l.parts.items ≡ l.yielded)
    × All (IsReady l.fn.bench l.fn.fill) l.parts.items
