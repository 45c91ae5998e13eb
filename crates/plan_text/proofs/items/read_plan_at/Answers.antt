use Rattle.plan_text.proofs.ReadLemmas.{spelled, plans, refusals}
use Rattle.plan_text.proofs.items.read_plan_at.Goals as goal

pub returns-clause-spelled : goal.returns-clause-spelled
returns-clause-spelled c = spelled c.args.text.now c.read.result c.read.ensures.read

pub returns-clause-plans : goal.returns-clause-plans
returns-clause-plans c = plans c.args.text.now c.read.result c.read.ensures.read c.read.ensures.refused

pub returns-clause-refusals : goal.returns-clause-refusals
returns-clause-refusals c = refusals c.args.text.now c.read.result c.read.ensures.read c.read.ensures.refused
