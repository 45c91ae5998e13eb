use Rattle.std.proofs.Common.{◌∙◌}
use Rattle.plan_core.specs.PlanContents.{plan_contents}
use Rattle.vcd_read.specs.Views.{asked}
use Rattle.report.specs.LiveCaptures.{HaltsLive, WroteFront}
use Rattle.report.proofs.FrontLemmas.{front_live}
use Rattle.report.proofs.LiveLemmas.{ends_live, last_fails, no_last}
use Rattle.run_parts.specs.declared.errors.RunError.TheVariants as error
use Rattle.run_parts.proofs.RunLemmas.{on_error}
use Rattle.report.proofs.live.live_capture.Goals as goal

pub returns-in_err-told-clause-front : goal.returns-in_err-told-clause-front
returns-in_err-told-clause-front g c =
    let e = c.in_err-told.field-0.0 in
    on_error c.from_residual.result e (λ e. WroteFront c.args.least (asked c.args.scl) (asked c.args.sda) (plan_contents c.args.plan.now) g.J.Input.reader g.O.Output.writer c.args.vcd.now c.args.out.now c.tell.new.vcd c.tell.new.out) c.from_residual.ensures.1
    (front_live c.args.least (asked c.args.scl) (asked c.args.sda) (plan_contents c.args.plan.now) g.J.Input.reader g.O.Output.writer c.args.vcd.now c.args.out.now e c.tell.new.vcd c.tell.new.out c.in_err-told.ensures.stops)

pub returns-in_err-last-clause-stops : goal.returns-in_err-last-clause-stops
returns-in_err-last-clause-stops g c =
    on_error c.from_residual-in_err-last.result error.NoMemory (λ e. HaltsLive c.args.least (asked c.args.scl) (asked c.args.sda) (plan_contents c.args.plan.now) g.J.Input.reader g.O.Output.writer c.args.vcd.now c.args.out.now e c.tell.new.vcd c.tell.new.out) c.from_residual-in_err-last.ensures.1
    (no_last c.args.least (asked c.args.scl) (asked c.args.sda) (plan_contents c.args.plan.now) g.J.Input.reader g.O.Output.writer c.args.vcd.now c.args.out.now c.in_ok-told.told c.tell.new.vcd c.tell.new.out c.in_ok-told.ensures.all)

pub returns-in_err-last-clause-front : goal.returns-in_err-last-clause-front
returns-in_err-last-clause-front g c =
    on_error c.from_residual-in_err-last.result error.NoMemory (λ e. WroteFront c.args.least (asked c.args.scl) (asked c.args.sda) (plan_contents c.args.plan.now) g.J.Input.reader g.O.Output.writer c.args.vcd.now c.args.out.now c.tell.new.vcd c.tell.new.out) c.from_residual-in_err-last.ensures.1
    (front_live c.args.least (asked c.args.scl) (asked c.args.sda) (plan_contents c.args.plan.now) g.J.Input.reader g.O.Output.writer c.args.vcd.now c.args.out.now error.NoMemory c.tell.new.vcd c.tell.new.out
    (no_last c.args.least (asked c.args.scl) (asked c.args.sda) (plan_contents c.args.plan.now) g.J.Input.reader g.O.Output.writer c.args.vcd.now c.args.out.now c.in_ok-told.told c.tell.new.vcd c.tell.new.out c.in_ok-told.ensures.all))

pub returns-in_err-write_report-clause-stops : goal.returns-in_err-write_report-clause-stops
returns-in_err-write_report-clause-stops g c =
    let e = c.in_err-write_report.field-0.0 in
    on_error c.from_residual-in_err-write_report.result e (λ e. HaltsLive c.args.least (asked c.args.scl) (asked c.args.sda) (plan_contents c.args.plan.now) g.J.Input.reader g.O.Output.writer c.args.vcd.now c.args.out.now e c.tell.new.vcd c.write_report.new.writer) c.from_residual-in_err-write_report.ensures.1
    (last_fails c.args.least (asked c.args.scl) (asked c.args.sda) (plan_contents c.args.plan.now) g.J.Input.reader g.O.Output.writer c.args.vcd.now c.args.out.now c.in_ok-told.told c.tell.new.vcd c.tell.new.out c.in_ok-told.ensures.all
    c.in_ok-last.last.status c.as_bytes.result.now e c.write_report.new.writer c.in_ok-last.ensures.status (c.as_bytes.ensures.value ∙ c.in_ok-last.ensures.report) c.in_err-write_report.ensures.stops)

pub returns-in_err-write_report-clause-front : goal.returns-in_err-write_report-clause-front
returns-in_err-write_report-clause-front g c =
    let e = c.in_err-write_report.field-0.0 in
    on_error c.from_residual-in_err-write_report.result e (λ e. WroteFront c.args.least (asked c.args.scl) (asked c.args.sda) (plan_contents c.args.plan.now) g.J.Input.reader g.O.Output.writer c.args.vcd.now c.args.out.now c.tell.new.vcd c.write_report.new.writer) c.from_residual-in_err-write_report.ensures.1
    (front_live c.args.least (asked c.args.scl) (asked c.args.sda) (plan_contents c.args.plan.now) g.J.Input.reader g.O.Output.writer c.args.vcd.now c.args.out.now e c.tell.new.vcd c.write_report.new.writer
    (last_fails c.args.least (asked c.args.scl) (asked c.args.sda) (plan_contents c.args.plan.now) g.J.Input.reader g.O.Output.writer c.args.vcd.now c.args.out.now c.in_ok-told.told c.tell.new.vcd c.tell.new.out c.in_ok-told.ensures.all
    c.in_ok-last.last.status c.as_bytes.result.now e c.write_report.new.writer c.in_ok-last.ensures.status (c.as_bytes.ensures.value ∙ c.in_ok-last.ensures.report) c.in_err-write_report.ensures.stops))

pub returns-clause-report : goal.returns-clause-report
returns-clause-report g c =
    ends_live c.args.least (asked c.args.scl) (asked c.args.sda) (plan_contents c.args.plan.now) g.J.Input.reader g.O.Output.writer c.args.vcd.now c.args.out.now c.in_ok-told.told c.tell.new.vcd c.tell.new.out c.in_ok-told.ensures.all
    _ c.as_bytes.result.now c.write_report.new.writer c.in_ok-last.ensures.status c.in_ok-last.ensures.transactions c.in_ok-last.ensures.stopped c.in_ok-last.ensures.unexplained (c.as_bytes.ensures.value ∙ c.in_ok-last.ensures.report) c.in_ok-write_report.ensures.all
