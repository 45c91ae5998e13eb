use Rattle.std.proofs.Common.{true≢false, sym}
use Rattle.plan_core.proofs.LabelLemmas.{after_slash, no_slash}
use Rattle.plan_core.proofs.labels.is_sending_label.Goals as goal

pub returns-in-Some-rest_after : goal.returns-in-Some-rest_after
returns-in-Some-rest_after c = after_slash c.args.controller.now c.args.label.now c.in-Some.rest.now c.as_bytes.result.now _ c.args.message.now c.eq.result c.in-Some.ensures c.as_bytes.ensures.value c.in-Some-rest_after.ensures c.eq.ensures

pub returns-in-None-rest_after : goal.returns-in-None-rest_after
returns-in-None-rest_after c = ((λ yes. absurd (true≢false (sym yes))), (λ same. absurd (no_slash c.args.controller.now c.args.label.now c.in-Some.rest.now c.as_bytes.result.now c.args.message.now c.in-Some.ensures c.as_bytes.ensures.value c.in-None-rest_after.ensures same)))
