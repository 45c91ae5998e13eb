use Rattle.std.proofs.Common.{◌≡◌, take}
use Rattle.plan_core.specs.Pairs.{pairs_of}
use Rattle.plan_core.specs.PlanContents.{plan_contents}
use Rattle.order.proofs.orders.pairs_in.Given as goal

abbrev pub invariant-loop-i : goal.invariant-loop-i
invariant-loop-i l = l.pairs.items ≡ take l.i (pairs_of (plan_contents l.plan))
