use Rattle.brief_text.specs.Together.{together}
use Rattle.brief_text.proofs.TextLemmas as text
use Rattle.plan_core.specs.PlanContents.{plan_contents}
use Rattle.given_plans.proofs.GivenLemmas.{means_read}
use Rattle.given_plans.proofs.plans.as_brief.Goals as goal

pub returns-in-Ok-meant_together-clause-meant : goal.returns-in-Ok-meant_together-clause-meant
returns-in-Ok-meant_together-clause-meant c =
    means_read c.args.text.now (together c.new-briefs.result) (together c.in-Ok.briefs) (plan_contents c.in-Ok-meant_together.meaning.plan) c.new-briefs.ensures c.in-Ok.ensures.read c.in-Ok-meant_together.ensures

pub returns-in-Err-clause-refused : goal.returns-in-Err-clause-refused
returns-in-Err-clause-refused c =
    text.brief_refused c.args.text.now (together c.new-briefs.result) c.in-Err.refused.error c.new-briefs.ensures c.in-Err.ensures.refused
