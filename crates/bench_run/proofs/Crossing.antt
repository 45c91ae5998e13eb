-- A player may be handed to another thread, with the bench on which it plays.
use denote.Param.Send.{IsSend, IsSync, sendable, view_send, view_sync, recorded_send, recorded_sync, struct_send, struct_sync}
use denote.Struct.Declared.{shape}
use Rattle.std.proofs.Crossing.{crosses}
use Rattle.message_tree.proofs.tree.Frame.TheLaws.TheKnot as knot
use Rattle.atomic_table.proofs.shared.Shared.TheSendSync as shared
use Rattle.atomic_table.proofs.shared.Seat.TheSendSync as ticket
use Rattle.atomic_table.proofs.send_lease.SendLease.TheSendSync as lease
use Rattle.bus_bench.specs.contracts.seats.Bench as Bench
use Rattle.bus_bench.specs.contracts.seats.Seat as Seat
use Rattle.bus_bench.specs.contracts.seats.Bench.TheInside as BenchInside
use Rattle.bus_bench.specs.contracts.seats.Seat.TheInside as SeatInside
use Rattle.bench_run.specs.contracts.players.Player as Player
use Rattle.bench_run.specs.contracts.rounds.Part as Part

bench_inside : (κ : _) → IsSync (BenchInside.the_row κ)
bench_inside κ = recorded_sync (BenchInside.the_field κ).row _ _ (BenchInside.the_type κ).to_one (struct_sync (shape (BenchInside.the_type κ)) (
  search (sendable, crosses, shared.the_sync, lease.the_sync) depth 40 fits 20000,
  (
    search (sendable, crosses) depth 40 fits 20000,
    tt,
  ),
))

bench_sync : (κ : _) → IsSync (Bench.the_row κ)
bench_sync κ = view_sync (BenchInside.the_row κ) _ _ _ _ (bench_inside κ)

seat_inside : (κ : _) → IsSend (SeatInside.the_row κ)
seat_inside κ = recorded_send (SeatInside.the_field κ).row _ _ (SeatInside.the_type κ).to_one (struct_send (shape (SeatInside.the_type κ)) (
  search (sendable, ticket.the_send) depth 40 fits 20000,
  (
    search sendable,
    (
      search (sendable, crosses, knot.sync-Payload, knot.sync-Tail) depth 60 fits 20000,
      (
        search sendable depth 40 fits 20000,
        (
          search sendable,
          (
            search sendable,
            (
              search sendable depth 40 fits 20000,
              tt,
            ),
          ),
        ),
      ),
    ),
  ),
))

seat_send : (κ : _) → IsSend (Seat.the_row κ)
seat_send κ = view_send (SeatInside.the_row κ) _ _ _ _ (seat_inside κ)

player_fields : (κ : _) → IsSend (Player.the_field κ).row
player_fields κ = struct_send (shape (Player.the_type κ)) (
  search (sendable, seat_send) depth 40 fits 20000,
  (
    search sendable,
    (
      search sendable,
      (
        search sendable depth 40,
        tt,
      ),
    ),
  ),
)

pub part_send : (κ : _) (κ' : _) → IsSend (Part.the_row κ κ')
part_send κ κ' = recorded_send (Part.the_field κ κ').row _ _ (Part.the_type κ κ').to_one (struct_send (shape (Part.the_type κ κ')) (
  search (sendable, player_fields) depth 40 fits 20000,
  (
    search (sendable, bench_sync) depth 40 fits 20000,
    (
      search sendable,
      tt,
    ),
  ),
))
