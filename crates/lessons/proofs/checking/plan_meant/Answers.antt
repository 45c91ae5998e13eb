use Rattle.plan_core.specs.PlanContents.{plan_contents}
use Rattle.brief_text.specs.Together.{together}
use Rattle.lessons.specs.Lessons.{texts_before}
use Rattle.lessons.proofs.MeaningLemmas.{means_after}
use Rattle.lessons.proofs.checking.plan_meant.Goals as goal

pub returns : goal.returns
returns c =
    means_after (texts_before c.args.before) c.args.text.now (together c.in_ok-briefs.briefs) (together c.in_ok-briefs-2.briefs)
    (plan_contents c.in_ok-plan.field-0) c.in_ok-briefs.ensures c.in_ok-briefs-2.ensures c.in_ok-plan.ensures
