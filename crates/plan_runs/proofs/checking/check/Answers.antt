use Rattle.plan_core.specs.PlanContents.{plan_contents}
use Rattle.plan_runs.proofs.StatusLemmas.{of_this}
use Rattle.plan_runs.specs.Statuses.{JudgesIn}
use Rattle.report.specs.Checks.{Judges}
use Rattle.plan_runs.proofs.checking.check.Goals as goal

pub returns : goal.returns
returns g c =
    let ran = c.in_ok-found in
    let within = c.is_within-within in
    record { status = (within.result, within.ensures, of_this g.I.Input.reader (plan_contents ran.found.checked.plan) (Judges ran.by_plan) (JudgesIn c.args.look.strict within.result c.judged-status.result) c.args.plans.now.readers.items c.check_by_form.new.plans.readers.items c.judged-status.ensures ran.ensures.judged) }
