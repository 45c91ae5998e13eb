use Rattle.std.proofs.Common.{◌≢◌, ℕ, ◌<◌}
use Rattle.plan_core.specs.Labels.{label_of}
use Rattle.plan_core.specs.PlanContents.{plan_contents}
use Rattle.plan_core.proofs.plans.Plan.find.Given as goal

abbrev pub invariant-loop-i : goal.invariant-loop-i
invariant-loop-i l = (k : ℕ) → k < l.i → label_of (plan_contents l.self) k ≢ l.label
