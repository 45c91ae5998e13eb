use Rattle.std.proofs.Common.{[]}
use Rattle.plan_core.specs.PlanContents.{plan_contents}
use Rattle.cert_check.proofs.acceptance.judge_proofs.Goals as goal

pub returns : goal.returns
returns c text so_far = c.judge_rest.ensures text [] so_far (c.new-2.ensures (plan_contents c.args.plan.now))
