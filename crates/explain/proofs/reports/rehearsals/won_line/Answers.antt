use Rattle.std.proofs.Common.{◌<◌, subst, sym}
use Rattle.plan_core.specs.Participants.{participant_count}
use Rattle.plan_core.specs.PlanContents.{plan_contents}
use Rattle.plan_core.specs.declared.plans.Plan.{Plan}
use Rattle.explain.proofs.reports.rehearsals.won_line.Goals as goal

pub push_won_line-requires : goal.push_won_line-requires
push_won_line-requires c p h =
    subst (λ (q : Plan). p < participant_count (plan_contents q)) (sym c.plan.ensures.plan) (c.requires p h)
