use Rattle.given_plans.specs.Sources.{bytes_of}
use Rattle.plan_core.specs.PlanContents.{plan_contents}
use Rattle.run_parts.specs.Runs.{unwritten}
use Rattle.vcd_read.specs.Views.{asked}
use Rattle.given_runs.specs.Inputs.{at_plan}
use Rattle.given_runs.proofs.CaptureLemmas.{capture_reports, capture_stops}
use Rattle.given_runs.proofs.capturing.capture_given.Goals as goal

pub returns-in-Ok-clause-report : goal.returns-in-Ok-clause-report
returns-in-Ok-clause-report g c =
    let it = c.in-Ok.given in
    capture_reports c.args.least (asked c.args.scl) (asked c.args.sda) g.I.Input.reader g.J.Input.reader g.O.Output.writer c.args.readers.now c.find_among.new.readers c.args.vcd.now c.args.out.now (bytes_of it.provenance.texts.items) (plan_contents it.plan) c.in-Ok.ensures.read c.in-Ok.ensures.given c.capture_plan.new.vcd c.capture_plan.new.out c.capture_plan.result c.capture_plan.ensures.report

pub returns-in-Ok-clause-stops : goal.returns-in-Ok-clause-stops
returns-in-Ok-clause-stops g c =
    let it = c.in-Ok.given in
    capture_stops c.args.least (asked c.args.scl) (asked c.args.sda) g.I.Input.reader g.J.Input.reader g.O.Output.writer c.args.readers.now c.find_among.new.readers c.args.vcd.now c.args.out.now (bytes_of it.provenance.texts.items) (plan_contents it.plan) c.in-Ok.ensures.read c.in-Ok.ensures.given c.capture_plan.new.vcd c.capture_plan.new.out c.capture_plan.result c.capture_plan.ensures.stops

pub returns-in-Err-clause-stops : goal.returns-in-Err-clause-stops
returns-in-Err-clause-stops g c = unwritten (at_plan c.in-Err.ensures.stops)
