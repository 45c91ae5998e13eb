use Rattle.std.proofs.Common.{◌≡◌, length}
use Rattle.plan_core.specs.PlanContents.{plan_contents}
use Rattle.verdicts.specs.Verdicts.{AreVerdictsOf}
use Rattle.verdicts.proofs.walks.table.Given as goal

-- those so far are the verdicts of the first pairs
abbrev pub invariant-loop-i : goal.invariant-loop-i
invariant-loop-i l = record { sized : length l.verdicts.items ≡ l.i; each : AreVerdictsOf (plan_contents l.plan) l.verdicts.items }
