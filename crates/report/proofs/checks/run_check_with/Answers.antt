use Rattle.std.proofs.Common.{string_bytes}
use Rattle.plan_core.specs.PlanContents.{plan_contents}
use Rattle.report.specs.Checks.{Checked}
use Rattle.run_parts.specs.PlanTexts.{RefusesPlan}
use Rattle.run_parts.specs.Runs.{ReadsText, HaltsAtText, refused}
use Rattle.run_parts.specs.declared.errors.RunError.TheVariants as error
use Rattle.report.proofs.CheckLemmas.{due_report}
use Rattle.run_parts.proofs.RunLemmas.{halting_stops, writing_reports, writing_stops}
use Rattle.report.proofs.checks.run_check_with.Goals as goal

pub returns-in_err-checked-clause-stops : goal.returns-in_err-checked-clause-stops
returns-in_err-checked-clause-stops g c one =
    let reader = g.I.Input.reader in
    halting_stops (ReadsText reader) Checked g.O.Output.writer (HaltsAtText reader RefusesPlan) c.args.plan.now c.args.out.now _ c.from_residual.result c.in_err-checked.field-0.0 c.from_residual.ensures.1 (c.in_err-checked.ensures.stops one)

pub returns-in_err-report-clause-stops : goal.returns-in_err-report-clause-stops
returns-in_err-report-clause-stops g c one =
    let reader = g.I.Input.reader in
    halting_stops (ReadsText reader) Checked g.O.Output.writer (HaltsAtText reader RefusesPlan) c.args.plan.now c.args.out.now _ c.from_residual-in_err-report.result error.NoMemory c.from_residual-in_err-report.ensures.1 (refused c.in_ok-checked.ensures.found.read tt)

pub returns-clause-report : goal.returns-clause-report
returns-clause-report g c =
    let reader = g.I.Input.reader in
    let it = c.in_ok-checked.checked in
    let found = c.in_ok-checked.ensures.found in
    let due = due_report found.texts (string_bytes c.in_ok-report.report) c.as_bytes.result.now c.status_of.result it found.due c.as_bytes.ensures.value c.in_ok-report.ensures (λ right. c.status_of.ensures (plan_contents it.plan) (c.is_safe.ensures (plan_contents it.plan) right)) in
    writing_reports (ReadsText reader) Checked g.O.Output.writer (HaltsAtText reader RefusesPlan) c.args.plan.now c.args.out.now _ _ found.read _ _ due c.write_lines.new.out c.write_lines.result c.write_lines.ensures.status c.write_lines.ensures.all

pub returns-clause-stops : goal.returns-clause-stops
returns-clause-stops g c one =
    let reader = g.I.Input.reader in
    let it = c.in_ok-checked.checked in
    let found = c.in_ok-checked.ensures.found in
    let due = due_report found.texts (string_bytes c.in_ok-report.report) c.as_bytes.result.now c.status_of.result it found.due c.as_bytes.ensures.value c.in_ok-report.ensures (λ right. c.status_of.ensures (plan_contents it.plan) (c.is_safe.ensures (plan_contents it.plan) right)) in
    writing_stops (ReadsText reader) Checked g.O.Output.writer (HaltsAtText reader RefusesPlan) c.args.plan.now c.args.out.now _ _ found.read _ _ due c.write_lines.new.out c.write_lines.result c.write_lines.ensures.stops
