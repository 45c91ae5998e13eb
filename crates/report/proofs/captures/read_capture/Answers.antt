use Rattle.plan_core.specs.PlanContents.{plan_contents}
use Rattle.vcd_read.specs.Views.{asked}
use Rattle.decoding.specs.Dumps.{HaltsAtDump, refused_at_end}
use Rattle.run_parts.specs.declared.errors.RunError.TheVariants as error
use Rattle.report.proofs.TellingLemmas.{report_of, only_the_dump}
use Rattle.run_parts.proofs.RunLemmas.{on_error}
use Rattle.report.proofs.captures.read_capture.Goals as goal

pub returns-in_err-ending-clause-stops : goal.returns-in_err-ending-clause-stops
returns-in_err-ending-clause-stops g c =
    let e = c.in_err-ending.field-0.0 in
    on_error c.from_residual.result e (λ e. HaltsAtDump g.J.Input.reader (asked c.args.scl) (asked c.args.sda) c.args.vcd.now e c.decode.new.vcd) c.from_residual.ensures.1
    (only_the_dump _ c.args.least (asked c.args.scl) (asked c.args.sda) g.J.Input.reader c.args.vcd.now c.decode.new.vcd e c.decode.new.sink c.in_err-ending.ensures.stops)

pub returns-in_err-captured-clause-stops : goal.returns-in_err-captured-clause-stops
returns-in_err-captured-clause-stops g c =
    let all = c.in_ok-ending.ensures.all in
    on_error c.from_residual-in_err-captured.result error.NoMemory (λ e. HaltsAtDump g.J.Input.reader (asked c.args.scl) (asked c.args.sda) c.args.vcd.now e c.decode.new.vcd) c.from_residual-in_err-captured.ensures.1
    (refused_at_end {error = error.NoMemory} all.read all.passes tt)

pub returns-clause-all : goal.returns-clause-all
returns-clause-all g c =
    let all = c.in_ok-ending.ensures.all in
    (all.dump, all.read, report_of _ c.args.least (asked c.args.scl) (asked c.args.sda) all.dump _ _ c.decode.new.sink all.decodes (c.new.ensures (plan_contents c.args.plan.now)) c.in_ok-captured.ensures.report c.in_ok-captured.ensures.status)
