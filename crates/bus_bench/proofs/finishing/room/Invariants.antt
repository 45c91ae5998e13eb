use Rattle.std.proofs.Common.{◌≡◌, ◌≤◌, ◌++◌, [], drop}
use Rattle.std.specs.Prelude.{vec_capacity}
use Rattle.bus_bench.specs.Finishing.{winners}
use Rattle.bus_bench.specs.Rule.{SLOTS}
use Rattle.bus_bench.proofs.finishing.room.Given as goal

-- the winners so far, and those among the starters from here on, are all
abbrev pub invariant-loop-number : goal.invariant-loop-number
invariant-loop-number l =
    (l.bench ≡ l.fn.bench)
    × (l.seats ≡ l.fn.seats)
    × (l.starter-items ≡ l.fn.bench.starters)
    × (l.wire.items ≡ [])
    × (SLOTS ≤ vec_capacity l.wire)
    × (l.won.items ++ winners l.fn.seats l.number (drop l.number l.fn.bench.starters) ≡ winners l.fn.seats 0 l.fn.bench.starters)
