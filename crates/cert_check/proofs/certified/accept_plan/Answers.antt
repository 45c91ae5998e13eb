use Rattle.std.proofs.Common.{map}
use Rattle.certificate.specs.Proofs.{proof_tree}
use Rattle.plan_core.specs.PlanContents.{plan_contents}
use Rattle.cert_check.proofs.Checked.{certified_is_safe}
use Rattle.cert_check.proofs.certified.accept_plan.Goals as goal

pub invariant_of-result : goal.invariant_of-result
invariant_of-result c = record { safe = certified_is_safe (plan_contents c.args.plan) (map proof_tree c.args.certs.now) c.in-None.ensures }
