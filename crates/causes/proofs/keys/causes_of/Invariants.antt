use Rattle.std.proofs.Common.{◌≡◌, take}
use Rattle.plan_core.specs.PlanContents.{plan_contents}
use Rattle.verdicts.specs.Faults.{fault_list}
use Rattle.causes.specs.Causes.{causes_of}
use Rattle.causes.proofs.keys.causes_of.Given as goal

-- those of the first k
abbrev pub invariant-loop-k : goal.invariant-loop-k
invariant-loop-k l = l.causes.items ≡ take l.k (causes_of (plan_contents l.plan) l.families (fault_list l.faults))
