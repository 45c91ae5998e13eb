use Rattle.plan_core.specs.PlanContents.{plan_contents}
use Rattle.verdicts.specs.Samples.{AreSamples}
use Rattle.verdicts.proofs.samples.samples.Given as goal

abbrev pub invariant-loop-i : goal.invariant-loop-i
invariant-loop-i l = AreSamples (plan_contents l.plan) l.samples.items l.i
