use Rattle.brief_text.proofs.TextLemmas.{plans, refusals}
use Rattle.brief_text.proofs.items.expand_brief_at.Goals as goal

pub returns-clause-plans : goal.returns-clause-plans
returns-clause-plans c = plans c.args.text.now c.read.result c.read.ensures.read c.read.ensures.refused

pub returns-clause-refusals : goal.returns-clause-refusals
returns-clause-refusals c = refusals c.args.text.now c.read.result c.read.ensures.read c.read.ensures.refused
