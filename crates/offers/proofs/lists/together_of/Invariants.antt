use Rattle.given_plans.specs.Sources.{bytes_of}
use Rattle.offers.specs.Offered.{IsTogether}
use Rattle.plan_core.specs.PlanContents.{plan_contents}
use Rattle.verdicts.specs.Faults.{fault_list}
use Rattle.offers.proofs.lists.together_of.Given as goal

abbrev pub invariant-loop : goal.invariant-loop
invariant-loop l = IsTogether (bytes_of l.was.texts.now) (plan_contents l.was.plan.now) (fault_list l.was.faults.now) l.list
