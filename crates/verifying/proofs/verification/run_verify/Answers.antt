use Rattle.std.proofs.Common.{◌∙◌}
use Rattle.verifying.specs.Verified.{Verified}
use Rattle.run_parts.specs.PlanTexts.{RefusesPlan, SpellsPlan}
use Rattle.run_parts.specs.Runs.{ReadsBoth, HaltsAtBoth, after_both}
use Rattle.run_parts.specs.declared.errors.RunError.TheVariants as error
use Rattle.run_parts.proofs.RunLemmas.{halting_stops, writing_reports, writing_stops}
use Rattle.verifying.proofs.verification.run_verify.Goals as goal

pub returns-in_err-found-clause-stops : goal.returns-in_err-found-clause-stops
returns-in_err-found-clause-stops g c =
    halting_stops (ReadsBoth g.I.Input.reader g.J.Input.reader) Verified g.O.Output.writer (HaltsAtBoth g.I.Input.reader g.J.Input.reader RefusesPlan SpellsPlan) (c.args.plan.now, c.args.cert.now) c.args.out.now _ c.from_residual.result c.in_err-found.field-0.0 c.from_residual.ensures.1 c.in_err-found.ensures.stops

pub returns-in_err-report-clause-stops : goal.returns-in_err-report-clause-stops
returns-in_err-report-clause-stops g c =
    halting_stops (ReadsBoth g.I.Input.reader g.J.Input.reader) Verified g.O.Output.writer (HaltsAtBoth g.I.Input.reader g.J.Input.reader RefusesPlan SpellsPlan) (c.args.plan.now, c.args.cert.now) c.args.out.now (c.verify_plan.new.plan, c.verify_plan.new.cert) c.from_residual-in_err-report.result error.NoMemory c.from_residual-in_err-report.ensures.1 (after_both c.in_ok-found.ensures.found.read)

pub returns-clause-report : goal.returns-clause-report
returns-clause-report g c =
    let found = c.in_ok-found.ensures.found in
    writing_reports (ReadsBoth g.I.Input.reader g.J.Input.reader) Verified g.O.Output.writer (HaltsAtBoth g.I.Input.reader g.J.Input.reader RefusesPlan SpellsPlan) (c.args.plan.now, c.args.cert.now) c.args.out.now (c.verify_plan.new.plan, c.verify_plan.new.cert) found.texts found.read c.as_bytes.result.now c.status_of_answer.result (record { answer = c.in_ok-found.found.answer; right = found.due.right; line = c.as_bytes.ensures.value ∙ c.in_ok-report.ensures; ended = c.status_of_answer.ensures }) c.write_lines.new.out c.write_lines.result c.write_lines.ensures.status c.write_lines.ensures.all

pub returns-clause-stops : goal.returns-clause-stops
returns-clause-stops g c =
    let found = c.in_ok-found.ensures.found in
    writing_stops (ReadsBoth g.I.Input.reader g.J.Input.reader) Verified g.O.Output.writer (HaltsAtBoth g.I.Input.reader g.J.Input.reader RefusesPlan SpellsPlan) (c.args.plan.now, c.args.cert.now) c.args.out.now (c.verify_plan.new.plan, c.verify_plan.new.cert) found.texts found.read c.as_bytes.result.now c.status_of_answer.result (record { answer = c.in_ok-found.found.answer; right = found.due.right; line = c.as_bytes.ensures.value ∙ c.in_ok-report.ensures; ended = c.status_of_answer.ensures }) c.write_lines.new.out c.write_lines.result c.write_lines.ensures.stops
