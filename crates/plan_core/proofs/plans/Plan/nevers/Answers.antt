use Rattle.std.proofs.Common.{arith, length, ◌≤◌}
use Rattle.plan_core.specs.Parts.{contents_of}
use Rattle.plan_core.specs.PlanContents.{plan_contents}
use Rattle.plan_core.proofs.ContentsLemmas.{nevers_few}
use Rattle.plan_core.proofs.PlanLemmas.{limits_of}
use Rattle.plan_core.proofs.plans.Plan.nevers.Goals as goal

pub overflow_cast-result : goal.overflow_cast-result
unfolding plan_contents contents_of
overflow_cast-result c =
    let plan = c.args.self.now in
    let few : length plan.nevers.items ≤ 1024 = nevers_few (plan_contents plan) (limits_of plan) in
    omega (arith, few, plan.nevers.ok.0)
