use Rattle.given_plans.specs.Sources.{DueFor, ReadsTexts, HaltsAtTexts, after_all, bytes_of}
use Rattle.plan_core.specs.PlanContents.{plan_contents}
use Rattle.run_parts.specs.Runs.{unwritten}
use Rattle.given_runs.specs.Due.{OrderedPlan}
use Rattle.given_runs.proofs.RunLemmas.{written_stops}
use Rattle.given_runs.proofs.ordering.order_given.Goals as goal

pub returns-in-Ok-clause-stops : goal.returns-in-Ok-clause-stops
returns-in-Ok-clause-stops g c =
    let it = c.in-Ok.it in
    let plan = plan_contents it.found.checked.plan in
    written_stops (ReadsTexts g.I.Input.reader) (DueFor OrderedPlan) g.O.Output.writer (HaltsAtTexts g.I.Input.reader) c.args.readers.now c.args.out.now c.find_ordered.new.readers c.write_order.new.out (OrderedPlan plan) (bytes_of it.found.provenance.texts.items) c.in-Ok.ensures.read
    (λ report status due. record { plan = plan; given = c.in-Ok.ensures.given; due = due }) c.write_order.result (after_all c.in-Ok.ensures.read) c.write_order.ensures.stops

pub returns-in-Err-clause-stops : goal.returns-in-Err-clause-stops
returns-in-Err-clause-stops g c = unwritten c.in-Err.ensures.stops
