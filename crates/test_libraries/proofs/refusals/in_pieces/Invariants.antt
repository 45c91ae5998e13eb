use Rattle.plan_core.specs.PlanContents.{plan_contents}
use Rattle.cert_check.specs.Fed.{IsOf}
use Rattle.test_libraries.proofs.refusals.in_pieces.Given as goal

abbrev pub invariant-loop-piece : goal.invariant-loop-piece
invariant-loop-piece l = IsOf (plan_contents l.plan) l.checker
