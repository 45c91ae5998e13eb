use Rattle.std.proofs.Common.{◌≡◌, map, take}
use Rattle.plan_core.specs.PlanContents.{plan_contents}
use Rattle.verdicts.specs.Faults.{fault_list}
use Rattle.mending.specs.Numbers.{numbers_of}
use Rattle.mending.proofs.left.all_numbers.Given as goal

abbrev pub invariant-loop-k : goal.invariant-loop-k
invariant-loop-k l =
    l.pairs.items ≡ map (numbers_of (plan_contents l.plan) (plan_contents l.other)) (take l.k (fault_list l.faults))
