use Rattle.given_plans.specs.Sources.{DueForBriefs, ReadsTexts, HaltsAtBriefs, after_briefs, bytes_of}
use Rattle.plan_core.specs.PlanContents.{plan_contents}
use Rattle.run_parts.specs.Runs.{unwritten}
use Rattle.given_runs.specs.Due.{PrintedPlan}
use Rattle.given_runs.proofs.RunLemmas.{written_stops}
use Rattle.given_runs.proofs.rewriting.expand_given.Goals as goal

pub returns-in-Ok-clause-stops : goal.returns-in-Ok-clause-stops
returns-in-Ok-clause-stops g c =
    let it = c.in-Ok.found in
    written_stops (ReadsTexts g.I.Input.reader) (DueForBriefs PrintedPlan) g.O.Output.writer (HaltsAtBriefs g.I.Input.reader) c.args.readers.now c.args.out.now c.find_in_briefs.new.readers c.print_plan.new.out (PrintedPlan (plan_contents it.plan)) (bytes_of it.provenance.texts.items) c.in-Ok.ensures.read
    (λ report status due. record { plan = plan_contents it.plan; meant = c.in-Ok.ensures.meant; due = due }) c.print_plan.result (after_briefs c.in-Ok.ensures.read) c.print_plan.ensures.stops

pub returns-in-Err-clause-stops : goal.returns-in-Err-clause-stops
returns-in-Err-clause-stops g c = unwritten c.in-Err.ensures.stops
