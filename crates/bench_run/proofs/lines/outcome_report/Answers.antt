use Rattle.std.proofs.Common.{◌<◌, subst, sym}
use Rattle.plan_core.specs.Participants.{participant_count}
use Rattle.plan_core.specs.PlanContents.{plan_contents}
use Rattle.plan_core.specs.declared.plans.Plan.{Plan}
use Rattle.bench_run.specs.Outcomes.{HasWinners}
use Rattle.bench_run.proofs.lines.outcome_report.Goals as goal

pub played_lines-requires : goal.played_lines-requires
played_lines-requires c p h =
    let winners = subst HasWinners c.in-Played.is c.requires in
    subst (λ (q : Plan). p < participant_count (plan_contents q)) (sym c.plan.ensures.plan) (winners p h)
