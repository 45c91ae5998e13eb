use Rattle.std.proofs.Common.{subst, List, ℕ}
use Rattle.plan_core.specs.PlanContents.{plan_contents}
use Rattle.plan_text.specs.Grammar.{Spells}
use Rattle.run_parts.specs.PlanTexts.{RefusesPlan}
use Rattle.run_parts.specs.Runs.{ReadsBoth, at_first, at_second, unread, refused}
use Rattle.run_parts.specs.RunErrors.{run_error}
use Rattle.run_parts.proofs.PlanTextLemmas.{spells_plan}
use Rattle.run_parts.proofs.PlanTextLemmas.{refuses_plan}
use Rattle.run_parts.proofs.RunLemmas.{halting_stops, writing_reports, writing_stops}
use Rattle.bench_run.specs.Rehearsals.{Rehearsed, HaltsAtBench, at_texts}
use Rattle.bench_run.proofs.RehearsalLemmas.{halts_after, due_for}
use Rattle.bench_run.proofs.runs.run_bench.Goals as goal

pub returns-in_err-text-clause-stops : goal.returns-in_err-text-clause-stops
returns-in_err-text-clause-stops g c =
    halting_stops (ReadsBoth g.I.Input.reader g.J.Input.reader) (Rehearsed c.args.starters.now c.args.answers.now c.args.fill) g.O.Output.writer (HaltsAtBench g.I.Input.reader g.J.Input.reader c.args.starters.now) (c.args.plan.now, c.args.cert.now) c.args.out.now (c.read_within.new.reader, c.args.cert.now) c.from_residual.result c.in_err-text.field-0.0 c.from_residual.ensures.1 (at_texts (at_first (unread c.in_err-text.ensures.stops)))

pub returns-in_err-plan-clause-stops : goal.returns-in_err-plan-clause-stops
returns-in_err-plan-clause-stops g c =
    let e = c.in_err-plan.field-0.0 in
    let first = subst (λ (t : List ℕ). RefusesPlan t (run_error e)) c.as_slice.ensures.value (refuses_plan c.as_slice.result.now e c.in_err-plan.ensures.refused) in
    halting_stops (ReadsBoth g.I.Input.reader g.J.Input.reader) (Rehearsed c.args.starters.now c.args.answers.now c.args.fill) g.O.Output.writer (HaltsAtBench g.I.Input.reader g.J.Input.reader c.args.starters.now) (c.args.plan.now, c.args.cert.now) c.args.out.now (c.read_within.new.reader, c.args.cert.now) c.from_residual-in_err-plan.result (run_error e) c.from_residual-in_err-plan.ensures.1 (at_texts (at_first (refused c.in_ok-text.ensures.all first)))

pub returns-in_err-cert-clause-stops : goal.returns-in_err-cert-clause-stops
returns-in_err-cert-clause-stops g c =
    let spelled = spells_plan c.in_ok-text.text.items c.as_slice.result.now (plan_contents c.in_ok-plan.plan) c.as_slice.ensures.value c.in_ok-plan.ensures.spelled in
    halting_stops (ReadsBoth g.I.Input.reader g.J.Input.reader) (Rehearsed c.args.starters.now c.args.answers.now c.args.fill) g.O.Output.writer (HaltsAtBench g.I.Input.reader g.J.Input.reader c.args.starters.now) (c.args.plan.now, c.args.cert.now) c.args.out.now (c.read_within.new.reader, c.read_within-2.new.reader) c.from_residual-in_err-cert.result c.in_err-cert.field-0.0 c.from_residual-in_err-cert.ensures.1 (at_texts (at_second c.in_ok-text.ensures.all spelled c.in_err-cert.ensures.stops))

pub returns-in_err-report-clause-stops : goal.returns-in_err-report-clause-stops
returns-in_err-report-clause-stops g c =
    let text = c.in_ok-text.text.items in
    let spelled = subst (λ (t : List ℕ). Spells t (plan_contents c.in_ok-plan.plan)) c.as_slice.ensures.value c.in_ok-plan.ensures.spelled in
    let e = c.in_err-report.field-0.0 in
    halting_stops (ReadsBoth g.I.Input.reader g.J.Input.reader) (Rehearsed c.args.starters.now c.args.answers.now c.args.fill) g.O.Output.writer (HaltsAtBench g.I.Input.reader g.J.Input.reader c.args.starters.now) (c.args.plan.now, c.args.cert.now) c.args.out.now (c.read_within.new.reader, c.read_within-2.new.reader) c.from_residual-in_err-report.result e c.from_residual-in_err-report.ensures.1
    (halts_after g.I.Input.reader g.J.Input.reader c.args.starters.now (c.args.plan.now, c.args.cert.now) (c.read_within.new.reader, c.read_within-2.new.reader) text c.in_ok-cert.cert.items c.as_slice-2.result.now e c.as_slice-2.ensures.value (c.in_ok-text.ensures.all, c.in_ok-cert.ensures.all) (c.in_err-report.ensures.refused text spelled))

pub returns-clause-report : goal.returns-clause-report
returns-clause-report g c =
    let text = c.in_ok-text.text.items in
    let spelled = subst (λ (t : List ℕ). Spells t (plan_contents c.in_ok-plan.plan)) c.as_slice.ensures.value c.in_ok-plan.ensures.spelled in
    let due = due_for c.args.starters.now c.args.answers.now c.args.fill text c.in_ok-cert.cert.items c.as_slice-2.result.now _ c.as_bytes.result.now c.in_ok-report.status c.as_slice-2.ensures.value c.as_bytes.ensures.value (c.in_ok-report.ensures.report text spelled) in
    writing_reports (ReadsBoth g.I.Input.reader g.J.Input.reader) (Rehearsed c.args.starters.now c.args.answers.now c.args.fill) g.O.Output.writer (HaltsAtBench g.I.Input.reader g.J.Input.reader c.args.starters.now) (c.args.plan.now, c.args.cert.now) c.args.out.now (c.read_within.new.reader, c.read_within-2.new.reader) (text, c.in_ok-cert.cert.items) (c.in_ok-text.ensures.all, c.in_ok-cert.ensures.all) c.as_bytes.result.now c.in_ok-report.status due c.write_lines.new.out c.write_lines.result c.write_lines.ensures.status c.write_lines.ensures.all

pub returns-clause-stops : goal.returns-clause-stops
returns-clause-stops g c =
    let text = c.in_ok-text.text.items in
    let spelled = subst (λ (t : List ℕ). Spells t (plan_contents c.in_ok-plan.plan)) c.as_slice.ensures.value c.in_ok-plan.ensures.spelled in
    let due = due_for c.args.starters.now c.args.answers.now c.args.fill text c.in_ok-cert.cert.items c.as_slice-2.result.now _ c.as_bytes.result.now c.in_ok-report.status c.as_slice-2.ensures.value c.as_bytes.ensures.value (c.in_ok-report.ensures.report text spelled) in
    writing_stops (ReadsBoth g.I.Input.reader g.J.Input.reader) (Rehearsed c.args.starters.now c.args.answers.now c.args.fill) g.O.Output.writer (HaltsAtBench g.I.Input.reader g.J.Input.reader c.args.starters.now) (c.args.plan.now, c.args.cert.now) c.args.out.now (c.read_within.new.reader, c.read_within-2.new.reader) (text, c.in_ok-cert.cert.items) (c.in_ok-text.ensures.all, c.in_ok-cert.ensures.all) c.as_bytes.result.now c.in_ok-report.status due c.write_lines.new.out c.write_lines.result c.write_lines.ensures.stops
