use Rattle.std.proofs.Common.{string_bytes}
use Rattle.plan_core.specs.PlanContents.{plan_contents}
use Rattle.vcd_read.specs.Views.{asked}
use Rattle.report.proofs.TellingLemmas.{reports, stops_writing}
use Rattle.run_parts.specs.Runs.{unwritten}
use Rattle.report.proofs.captures.write_capture.Goals as goal

pub returns-in-Ok-clause-report : goal.returns-in-Ok-clause-report
returns-in-Ok-clause-report g c =
    let all = c.in-Ok.ensures.all in
    reports c.args.least (asked c.args.scl) (asked c.args.sda) (plan_contents c.args.plan.now) g.J.Input.reader g.O.Output.writer c.args.vcd.now c.read_capture.new.vcd c.args.out.now c.write_read.new.out all.0 (string_bytes c.in-Ok.captured.report) c.in-Ok.captured.status all.1 all.2 c.write_read.result c.write_read.ensures.status c.write_read.ensures.written

pub returns-in-Ok-clause-stops : goal.returns-in-Ok-clause-stops
returns-in-Ok-clause-stops g c =
    let all = c.in-Ok.ensures.all in
    stops_writing c.args.least (asked c.args.scl) (asked c.args.sda) (plan_contents c.args.plan.now) g.J.Input.reader g.O.Output.writer c.args.vcd.now c.read_capture.new.vcd c.args.out.now c.write_read.new.out all.0 (string_bytes c.in-Ok.captured.report) c.in-Ok.captured.status all.1 all.2 c.write_read.result c.write_read.ensures.stops

pub returns-in-Err-clause-stops : goal.returns-in-Err-clause-stops
returns-in-Err-clause-stops g c = unwritten c.in-Err.ensures.stops
