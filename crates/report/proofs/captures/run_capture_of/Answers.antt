use Rattle.std.proofs.Common.{sym, subst, ℕ, List}
use Rattle.plan_core.specs.PlanContents.{plan_contents}
use Rattle.vcd_read.specs.Views.{asked}
use Rattle.plan_text.specs.Grammar.{Spells}
use Rattle.report.specs.Captures.{CaptureOf, Captured, HaltsAtCapture, at_plan, at_dump}
use Rattle.run_parts.specs.PlanTexts.{RefusesPlan}
use Rattle.run_parts.specs.Runs.{ReadsBoth, unread, refused}
use Rattle.run_parts.specs.RunErrors.{run_error}
use Rattle.run_parts.proofs.PlanTextLemmas.{spells_plan}
use Rattle.run_parts.proofs.PlanTextLemmas.{refuses_plan}
use Rattle.run_parts.proofs.RunLemmas.{halting_stops, writing_reports, writing_stops}
use Rattle.report.proofs.captures.run_capture_of.Goals as goal

pub returns-in_err-text-clause-stops : goal.returns-in_err-text-clause-stops
returns-in_err-text-clause-stops g c =
    halting_stops (ReadsBoth g.I.Input.reader g.J.Input.reader) (Captured c.args.least (asked c.args.scl) (asked c.args.sda)) g.O.Output.writer (HaltsAtCapture g.I.Input.reader g.J.Input.reader (asked c.args.scl) (asked c.args.sda)) (c.args.plan.now, c.args.vcd.now) c.args.out.now (c.read_within.new.reader, c.args.vcd.now) c.from_residual.result c.in_err-text.field-0.0 c.from_residual.ensures.1 (at_plan (unread c.in_err-text.ensures.stops))

pub returns-in_err-plan-clause-stops : goal.returns-in_err-plan-clause-stops
returns-in_err-plan-clause-stops g c =
    let e = c.in_err-plan.field-0.0 in
    let first = subst (λ (t : List ℕ). RefusesPlan t (run_error e)) c.as_slice.ensures.value (refuses_plan c.as_slice.result.now e c.in_err-plan.ensures.refused) in
    halting_stops (ReadsBoth g.I.Input.reader g.J.Input.reader) (Captured c.args.least (asked c.args.scl) (asked c.args.sda)) g.O.Output.writer (HaltsAtCapture g.I.Input.reader g.J.Input.reader (asked c.args.scl) (asked c.args.sda)) (c.args.plan.now, c.args.vcd.now) c.args.out.now (c.read_within.new.reader, c.args.vcd.now) c.from_residual-in_err-plan.result (run_error e) c.from_residual-in_err-plan.ensures.1 (at_plan (refused c.in_ok-text.ensures.all first))

pub returns-in_err-captured-clause-stops : goal.returns-in_err-captured-clause-stops
returns-in_err-captured-clause-stops g c =
    let spelled = spells_plan c.in_ok-text.text.items c.as_slice.result.now (plan_contents c.in_ok-plan.plan) c.as_slice.ensures.value c.in_ok-plan.ensures.spelled in
    halting_stops (ReadsBoth g.I.Input.reader g.J.Input.reader) (Captured c.args.least (asked c.args.scl) (asked c.args.sda)) g.O.Output.writer (HaltsAtCapture g.I.Input.reader g.J.Input.reader (asked c.args.scl) (asked c.args.sda)) (c.args.plan.now, c.args.vcd.now) c.args.out.now (c.read_within.new.reader, c.read_capture.new.vcd) c.from_residual-in_err-captured.result c.in_err-captured.field-0.0 c.from_residual-in_err-captured.ensures.1 (at_dump c.in_ok-text.ensures.all spelled c.in_err-captured.ensures.stops)

pub returns-clause-report : goal.returns-clause-report
returns-clause-report g c =
    let text = c.in_ok-text.text.items in
    let plan = plan_contents c.in_ok-plan.plan in
    let spelled = subst (λ (t : List ℕ). Spells t plan) c.as_slice.ensures.value c.in_ok-plan.ensures.spelled in
    let all = c.in_ok-captured.ensures.all in
    let capture = subst (λ (r : List ℕ). CaptureOf c.args.least (asked c.args.scl) (asked c.args.sda) plan all.0 r c.in_ok-captured.captured.status) (sym c.as_bytes.ensures.value) all.2 in
    let due : Captured c.args.least (asked c.args.scl) (asked c.args.sda) (text, all.0) c.as_bytes.result.now c.in_ok-captured.captured.status = record { plan = plan; spelled = spelled; capture = capture } in
    writing_reports (ReadsBoth g.I.Input.reader g.J.Input.reader) (Captured c.args.least (asked c.args.scl) (asked c.args.sda)) g.O.Output.writer (HaltsAtCapture g.I.Input.reader g.J.Input.reader (asked c.args.scl) (asked c.args.sda)) (c.args.plan.now, c.args.vcd.now) c.args.out.now (c.read_within.new.reader, c.read_capture.new.vcd) (text, all.0) (c.in_ok-text.ensures.all, all.1) c.as_bytes.result.now c.in_ok-captured.captured.status due c.write_lines.new.out c.write_lines.result c.write_lines.ensures.status c.write_lines.ensures.all

pub returns-clause-stops : goal.returns-clause-stops
returns-clause-stops g c =
    let text = c.in_ok-text.text.items in
    let plan = plan_contents c.in_ok-plan.plan in
    let spelled = subst (λ (t : List ℕ). Spells t plan) c.as_slice.ensures.value c.in_ok-plan.ensures.spelled in
    let all = c.in_ok-captured.ensures.all in
    let capture = subst (λ (r : List ℕ). CaptureOf c.args.least (asked c.args.scl) (asked c.args.sda) plan all.0 r c.in_ok-captured.captured.status) (sym c.as_bytes.ensures.value) all.2 in
    let due : Captured c.args.least (asked c.args.scl) (asked c.args.sda) (text, all.0) c.as_bytes.result.now c.in_ok-captured.captured.status = record { plan = plan; spelled = spelled; capture = capture } in
    writing_stops (ReadsBoth g.I.Input.reader g.J.Input.reader) (Captured c.args.least (asked c.args.scl) (asked c.args.sda)) g.O.Output.writer (HaltsAtCapture g.I.Input.reader g.J.Input.reader (asked c.args.scl) (asked c.args.sda)) (c.args.plan.now, c.args.vcd.now) c.args.out.now (c.read_within.new.reader, c.read_capture.new.vcd) (text, all.0) (c.in_ok-text.ensures.all, all.1) c.as_bytes.result.now c.in_ok-captured.captured.status due c.write_lines.new.out c.write_lines.result c.write_lines.ensures.stops
