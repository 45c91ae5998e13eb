use Rattle.std.proofs.Common.{◌≡◌, ◌≤◌, length}
use Rattle.std.specs.Prelude.{vec_capacity}
use Rattle.bus_bench.specs.Rule.{SLOTS}
use Rattle.bus_bench.proofs.FinishLemmas.{IsReading}
use Rattle.bus_bench.proofs.finishing.read_wire.Given as goal

abbrev pub invariant-loop-slot : goal.invariant-loop-slot
invariant-loop-slot l =
    (l.wire ≡ l.fn.wire)
    × (l.terms ≡ l.fn.terms)
    × (l.count ≡ l.fn.count)
    × (l.ticket.table_id ≡ l.fn.ticket.table_id)
    × (l.ticket.me ≡ l.fn.ticket.me)
    × (length l.items.items ≡ l.slot)
    × (SLOTS ≤ vec_capacity l.items)
    × IsReading l.fn.ticket.me.0 l.fn.count l.items.items l.live
