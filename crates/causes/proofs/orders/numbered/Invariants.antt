use Rattle.std.proofs.Common.{◌≡◌, ℕ, ◌<◌, length, slice_get, Some}
use Rattle.verdicts.specs.Faults.{fault_list}
use Rattle.causes.specs.Causes.{wires_of}
use Rattle.causes.proofs.orders.numbered.Given as goal

abbrev pub invariant-loop-k : goal.invariant-loop-k
invariant-loop-k l = record {
  whole : length l.order.items ≡ l.k;
  each : (k n : ℕ) → k < l.k → slice_get (wires_of (fault_list l.faults)) k ≡ Some n → slice_get l.order.items k ≡ Some (n, k);
}
