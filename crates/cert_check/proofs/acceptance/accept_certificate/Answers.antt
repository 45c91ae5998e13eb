use Rattle.std.proofs.Common.{subst}
use Rattle.plan_core.specs.PlanContents.{plan_contents}
use Rattle.cert_check.specs.Accepts.{IsAnswer}
use Rattle.cert_check.proofs.AnswerLemmas.{judged_safe}
use Rattle.cert_check.proofs.acceptance.accept_certificate.Goals as goal

pub invariant_of-result : goal.invariant_of-result
invariant_of-result c =
    let judged = subst (IsAnswer (plan_contents c.args.plan) c.args.cert.now) c.in-Safe.is c.in_ok-check_certificate.ensures in
    record { safe = judged_safe (plan_contents c.args.plan) judged.0 judged.2 }
