use Rattle.plan_core.proofs.PlanLemmas.{limits_of}
use Rattle.plan_core.specs.PlanContents.{plan_contents}
use Rattle.spellings.specs.Canonical.{plan_text}
use Rattle.std.proofs.Common.{refl}
use Rattle.run_parts.specs.declared.runs.Status.TheVariants.{Good}
use Rattle.given_runs.specs.Due.{PrintedPlan}
use Rattle.given_runs.proofs.DueLemmas.{printed_plan}
use Rattle.given_runs.proofs.RunLemmas.{stops_at}
use Rattle.given_runs.proofs.rewriting.print_plan.Goals as goal

pub returns-in-Ok-clause-wrote : goal.returns-in-Ok-clause-wrote
returns-in-Ok-clause-wrote g c =
    let plan = plan_contents c.args.plan.now in
    record { report = plan_text plan; due = printed_plan plan c.in-Ok.status (limits_of c.args.plan.now) c.in-Ok.ensures.status; written = c.in-Ok.ensures.written }

pub returns-in-Err-clause-stops : goal.returns-in-Err-clause-stops
returns-in-Err-clause-stops g c =
    let plan = plan_contents c.args.plan.now in
    stops_at (PrintedPlan plan) g.O.Output.writer c.args.out.now c.print_found.new.out (plan_text plan) Good (printed_plan plan Good (limits_of c.args.plan.now) refl) c.in-Err.error c.from.result.error c.from.ensures.0 c.in-Err.ensures.stops
