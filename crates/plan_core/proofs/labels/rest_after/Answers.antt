use Rattle.plan_core.proofs.LabelLemmas.{front_cases}
use Rattle.plan_core.proofs.labels.rest_after.Goals as goal

pub returns : goal.returns
returns c = front_cases c.strip_prefix.result c.args.front.now c.args.bytes.now c.strip_prefix.ensures.cases
