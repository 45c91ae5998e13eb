use Rattle.std.proofs.Common.{◌≡◌, map}
use Rattle.bench_run.proofs.rounds.seats_of.Given as goal

abbrev pub invariant-loop-player : goal.invariant-loop-player
invariant-loop-player l =
    (goal.iterator-loop-player).can_next l.player-iterator
    × (goal.iterator-loop-player).is_finite l.player-iterator
    × (l.seats.items ≡ map (λ p. p.seat) l.yielded)
