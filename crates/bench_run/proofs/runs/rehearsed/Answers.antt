use Rattle.std.proofs.Common.{◌≡◌, ◌∙◌, subst, List, Bool}
use Rattle.plan_core.specs.PlanContents.{plan_contents}
use Rattle.bench_run.specs.Outcomes.{IsOutcomeOf}
use Rattle.bench_run.specs.Starters.{bits_in}
use Rattle.bench_run.proofs.RehearsalLemmas.{due_when_written, no_report, not_opened}
use Rattle.bench_run.proofs.runs.rehearsed.Goals as goal

pub returns-in-Ok-clause-report : goal.returns-in-Ok-clause-report
returns-in-Ok-clause-report g c =
    let bits : c.as_slice.result.now ≡ bits_in c.args.answers.now = c.as_slice.ensures.value ∙ c.in_ok-bits.ensures in
    let plan = plan_contents c.args.plan in
    let found = subst (λ (bs : List Bool). IsOutcomeOf plan c.args.starters.now bs c.args.fill c.args.cert.now c.in-Ok.outcome) bits c.in-Ok.ensures.found in
    due_when_written c.args.starters.now c.args.answers.now c.args.fill plan c.args.cert.now c.in-Ok.outcome c.report_on.result found c.report_on.ensures.lines c.report_on.ensures.status

pub returns-in-Ok-clause-refused : goal.returns-in-Ok-clause-refused
returns-in-Ok-clause-refused g c = no_report (plan_contents c.args.plan) c.args.starters.now c.args.cert.now c.report_on.result c.report_on.ensures.memory

pub returns-clause-refused : goal.returns-clause-refused
returns-clause-refused g c = λ text spelled. not_opened c.args.plan c.args.starters.now c.args.cert.now text c.in-Err.unplayed spelled c.in-Err.ensures.refused
