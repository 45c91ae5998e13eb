use Rattle.given_plans.specs.Sources.{DueFor, ReadsTexts, HaltsAtTexts, after_all, bytes_of}
use Rattle.plan_core.specs.PlanContents.{plan_contents}
use Rattle.run_parts.specs.Runs.{unwritten}
use Rattle.given_runs.specs.Due.{CertifiedPlan}
use Rattle.run_parts.specs.Devices.{by_parts}
use Rattle.given_runs.proofs.RunLemmas.{written_stops}
use Rattle.given_runs.proofs.certifying.certify_given.Goals as goal

pub returns-in-Ok-clause-stops : goal.returns-in-Ok-clause-stops
returns-in-Ok-clause-stops g c =
    let it = c.in-Ok.found in
    written_stops (ReadsTexts g.I.Input.reader) (DueFor CertifiedPlan) (by_parts g.O.Output.writer) (HaltsAtTexts g.I.Input.reader) c.args.readers.now c.args.out.now c.find_among.new.readers c.certify_plan.new.out (CertifiedPlan (plan_contents it.plan)) (bytes_of it.provenance.texts.items) c.in-Ok.ensures.read
    (λ report status due. record { plan = plan_contents it.plan; given = c.in-Ok.ensures.given; due = due }) c.certify_plan.result (after_all c.in-Ok.ensures.read) c.certify_plan.ensures.stops

pub returns-in-Err-clause-stops : goal.returns-in-Err-clause-stops
returns-in-Err-clause-stops g c = unwritten c.in-Err.ensures.stops
