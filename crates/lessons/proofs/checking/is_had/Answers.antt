use Rattle.std.proofs.Common.{subst}
use Rattle.plan_core.specs.PlanContents.{plan_contents}
use Rattle.lessons.specs.Plans.{HasPath}
use Rattle.lessons.proofs.checking.is_had.Goals as goal

pub returns-then-participant_has : goal.returns-then-participant_has
returns-then-participant_has c = λ e.
    subst (HasPath (plan_contents c.args.plan.now)) c.as_slice-path.ensures.value (c.participant_has.ensures c.if-participant_has.true)
