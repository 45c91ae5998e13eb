use Rattle.std.proofs.Common.{◌≡◌, false, take}
use Rattle.std.specs.List.{list_any}
use Rattle.bus_bench.specs.Finishing.{is_ended}
use Rattle.bus_bench.proofs.finishing.run_length.Given as goal

-- none of those before has seen the end
abbrev pub invariant-loop-seat : goal.invariant-loop-seat
invariant-loop-seat l = list_any (λ t. is_ended t.standing) (take l.seat-index l.seats) ≡ false
