use Rattle.plan_core.specs.PlanContents.{plan_contents}
use Rattle.std.proofs.Common.{Err, ap, ◌∙◌}
use Rattle.std.proofs.lemmas.Result.{err_from_is_err_and}
use Rattle.verifying.proofs.AcceptLemmas.{refused_right}
use Rattle.verifying.proofs.acceptance.judge.Goals as goal

pub returns-in_err-plan : goal.returns-in_err-plan
returns-in_err-plan c =
    let p = err_from_is_err_and c.from_residual.result c.from_residual.ensures.1 in
    refused_right c.args.plan.now c.args.cert.now c.in_err-plan.field-0.0 c.from_residual.result (p.1 ∙ ap Err p.2) c.in_err-plan.ensures.refused

pub returns : goal.returns
unfolding plan_contents
returns c = record {
  plan = plan_contents c.in_ok-plan.plan;
  spelled = c.in_ok-plan.ensures.spelled;
  limits = c.in_ok-plan.plan.limits;
  right = c.in_ok-answer.ensures;
}
