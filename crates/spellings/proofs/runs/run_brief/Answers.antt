use Rattle.std.proofs.Common.{◌∙◌, refl, subst, ℕ, List}
use Rattle.plan_core.specs.PlanContents.{plan_contents}
use Rattle.spellings.specs.Spellings.{Abbreviated, GivesNoBrief}
use Rattle.run_parts.specs.Runs.{ReadsText, HaltsAtText, unread, refused}
use Rattle.run_parts.specs.RunErrors.{run_error, brief_error}
use Rattle.spellings.proofs.SpellingLemmas.{abbreviates, refuses_plan_to_brief, gives_no_brief}
use Rattle.run_parts.proofs.RunLemmas.{halting_stops, writing_reports, writing_stops}
use Rattle.spellings.proofs.runs.run_brief.Goals as goal

pub returns-in_err-text-clause-stops : goal.returns-in_err-text-clause-stops
returns-in_err-text-clause-stops g c =
    let reader = g.I.Input.reader in
    halting_stops (ReadsText reader) Abbreviated g.O.Output.writer (HaltsAtText reader GivesNoBrief) c.args.plan.now c.args.out.now _ c.from_residual.result c.in_err-text.field-0.0 c.from_residual.ensures.1 (unread c.in_err-text.ensures.stops)

pub returns-in_err-plan-clause-stops : goal.returns-in_err-plan-clause-stops
returns-in_err-plan-clause-stops g c =
    let reader = g.I.Input.reader in
    let e = c.in_err-plan.field-0.0 in
    let first = subst (λ (t : List ℕ). GivesNoBrief t (run_error e)) c.as_slice.ensures.value (refuses_plan_to_brief c.as_slice.result.now e c.in_err-plan.ensures.refused) in
    halting_stops (ReadsText reader) Abbreviated g.O.Output.writer (HaltsAtText reader GivesNoBrief) c.args.plan.now c.args.out.now _ c.from_residual-in_err-plan.result (run_error e) c.from_residual-in_err-plan.ensures.1 (refused c.in_ok-text.ensures.all first)

pub returns-in_err-report-clause-stops : goal.returns-in_err-report-clause-stops
returns-in_err-report-clause-stops g c =
    let reader = g.I.Input.reader in
    let e = c.in_err-report.field-0.0 in
    let why = gives_no_brief c.in_ok-text.text.items c.as_slice.result.now (plan_contents c.in_ok-plan.plan) e c.as_slice.ensures.value c.in_ok-plan.ensures.spelled c.in_err-report.ensures.refused in
    halting_stops (ReadsText reader) Abbreviated g.O.Output.writer (HaltsAtText reader GivesNoBrief) c.args.plan.now c.args.out.now _ c.from_residual-in_err-report.result (brief_error e) c.from_residual-in_err-report.ensures.1 (refused c.in_ok-text.ensures.all why)

pub returns-clause-report : goal.returns-clause-report
returns-clause-report g c =
    let reader = g.I.Input.reader in
    let it = c.in_ok-report.ensures in
    let due = abbreviates c.in_ok-text.text.items c.as_slice.result.now c.in_ok-report.report.items c.as_slice-2.result.now (plan_contents c.in_ok-plan.plan) c.as_slice.ensures.value c.as_slice-2.ensures.value c.in_ok-plan.ensures.spelled it.names it.meant in
    writing_reports (ReadsText reader) Abbreviated g.O.Output.writer (HaltsAtText reader GivesNoBrief) c.args.plan.now c.args.out.now _ _ c.in_ok-text.ensures.all _ _ due c.write_lines.new.out c.write_lines.result c.write_lines.ensures.status c.write_lines.ensures.all

pub returns-clause-stops : goal.returns-clause-stops
returns-clause-stops g c =
    let reader = g.I.Input.reader in
    let it = c.in_ok-report.ensures in
    let due = abbreviates c.in_ok-text.text.items c.as_slice.result.now c.in_ok-report.report.items c.as_slice-2.result.now (plan_contents c.in_ok-plan.plan) c.as_slice.ensures.value c.as_slice-2.ensures.value c.in_ok-plan.ensures.spelled it.names it.meant in
    writing_stops (ReadsText reader) Abbreviated g.O.Output.writer (HaltsAtText reader GivesNoBrief) c.args.plan.now c.args.out.now _ _ c.in_ok-text.ensures.all _ _ due c.write_lines.new.out c.write_lines.result c.write_lines.ensures.stops
