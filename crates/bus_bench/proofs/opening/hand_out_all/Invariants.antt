use Rattle.std.proofs.Common.{◌≡◌, length, map}
use Rattle.std.specs.List.{range_with_len}
use Rattle.bus_bench.specs.Opening.{IsHanding}
use Rattle.bus_bench.specs.Seats.{fresh}
use Rattle.bus_bench.proofs.opening.hand_out_all.Given as goal

-- so many seats are out, in order
abbrev pub invariant-loop-number : goal.invariant-loop-number
invariant-loop-number l =
    (l.bench ≡ l.fn.bench) × (l.count ≡ length l.bench.starters) × IsHanding l.bench l.number l.ticket.table_id l.ticket.me × (l.seats.items ≡ map (fresh l.bench) (range_with_len 0 l.number))
