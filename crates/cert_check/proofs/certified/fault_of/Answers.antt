use Rattle.plan_core.specs.PlanContents.{plan_contents}
use Rattle.cert_check.proofs.certified.fault_of.Goals as goal

pub loop-cert-init : goal.loop-cert-init
loop-cert-init c = c.new-tally.ensures (plan_contents c.args.plan.now)
