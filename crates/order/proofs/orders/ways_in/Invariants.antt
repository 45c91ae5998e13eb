use Rattle.std.proofs.Common.{◌≡◌, ◌≤◌, length, drop}
use Rattle.order.specs.Known.{IsMemo}
use Rattle.order.proofs.WayLemmas.{SoFar}
use Rattle.plan_core.specs.PlanContents.{plan_contents}
use Rattle.verdicts.specs.Faults.{AreFaults, fault_list}
use Rattle.order.proofs.orders.ways_in.Given as goal

abbrev pub invariant-loop-i : goal.invariant-loop-i
invariant-loop-i l = record {
  memo : IsMemo (plan_contents l.plan) l.known;
  count : length l.ways.items ≡ l.i;
  met : l.met ≤ l.i;
  so_far : (right : AreFaults (plan_contents l.plan) (fault_list l.faults)) →
      SoFar (plan_contents l.plan) (fault_list l.faults) right.verdicts l.met l.i l.ways.items;
}
