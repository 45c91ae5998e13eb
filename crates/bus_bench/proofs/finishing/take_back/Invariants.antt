use Rattle.std.proofs.Common.{◌≡◌}
use Rattle.bus_bench.specs.Finishing.{HasBack}
use Rattle.bus_bench.specs.Tickets.{bench_name, setup_of}
use Rattle.bus_bench.proofs.finishing.take_back.Given as goal

abbrev pub invariant-loop-seat : goal.invariant-loop-seat
invariant-loop-seat l =
    (goal.iterator-loop-seat).can_next l.seat-iterator
    × (goal.iterator-loop-seat).is_finite l.seat-iterator
    × (l.wire ≡ l.fn.wire)
    × (l.terms ≡ l.fn.terms)
    × HasBack (bench_name l.wire.shared.table_id (setup_of l.wire.shared.key l.terms)) l.yielded l.ticket.table_id l.ticket.me
