use Rattle.plan_core.specs.PlanContents.{plan_contents}
use Rattle.capture_check.proofs.LeaverLemmas.{AreLeaversBelow}
use Rattle.capture_check.proofs.explaining.explain_marks.Given as goal

-- those among the first participants
abbrev pub invariant-loop-p : goal.invariant-loop-p
invariant-loop-p l = AreLeaversBelow (plan_contents l.plan) l.marks l.p l.explainers.items
