use Rattle.plan_core.specs.PlanContents.{plan_contents}
use Rattle.verdicts.proofs.FaultLemmas.{ListsFaults}
use Rattle.verdicts.proofs.searches.faults_known.Given as goal

abbrev pub invariant-loop-i : goal.invariant-loop-i
invariant-loop-i l = ListsFaults (plan_contents l.plan) l.known.items l.listed.items l.i
