use Rattle.std.proofs.Common.{◌∙◌, refl, subst, ℕ, List}
use Rattle.plan_core.proofs.PlanLemmas.{limits_of}
use Rattle.plan_core.specs.PlanContents.{plan_contents}
use Rattle.spellings.specs.Spellings.{Expanded, RefusesBrief}
use Rattle.run_parts.specs.Runs.{ReadsText, HaltsAtText, unread, refused}
use Rattle.run_parts.specs.RunErrors.{run_error}
use Rattle.spellings.proofs.SpellingLemmas.{expands, refuses_brief, found_stops}
use Rattle.run_parts.proofs.RunLemmas.{halting_stops, writing_reports}
use Rattle.spellings.proofs.runs.run_expand.Goals as goal

pub returns-in_err-text-clause-stops : goal.returns-in_err-text-clause-stops
returns-in_err-text-clause-stops g c =
    let reader = g.I.Input.reader in
    halting_stops (ReadsText reader) Expanded g.O.Output.writer (HaltsAtText reader RefusesBrief) c.args.brief.now c.args.out.now _ c.from_residual.result c.in_err-text.field-0.0 c.from_residual.ensures.1 (unread c.in_err-text.ensures.stops)

pub returns-in_err-plan-clause-stops : goal.returns-in_err-plan-clause-stops
returns-in_err-plan-clause-stops g c =
    let reader = g.I.Input.reader in
    let e = c.in_err-plan.field-0.0 in
    let first = subst (λ (t : List ℕ). RefusesBrief t (run_error e)) c.as_slice.ensures.value (refuses_brief c.as_slice.result.now e c.in_err-plan.ensures.refused) in
    halting_stops (ReadsText reader) Expanded g.O.Output.writer (HaltsAtText reader RefusesBrief) c.args.brief.now c.args.out.now _ c.from_residual-in_err-plan.result (run_error e) c.from_residual-in_err-plan.ensures.1 (refused c.in_ok-text.ensures.all first)

pub returns-clause-report : goal.returns-clause-report
returns-clause-report g c =
    let reader = g.I.Input.reader in
    let plan = plan_contents c.in_ok-plan.plan in
    let due = expands c.in_ok-text.text.items c.as_slice.result.now plan (limits_of c.in_ok-plan.plan) c.as_slice.ensures.value c.in_ok-plan.ensures.meant in
    writing_reports (ReadsText reader) Expanded g.O.Output.writer (HaltsAtText reader RefusesBrief) c.args.brief.now c.args.out.now _ _ c.in_ok-text.ensures.all _ _ due c.print_found.new.out c.print_found.result c.print_found.ensures.status c.print_found.ensures.written

pub returns-clause-stops : goal.returns-clause-stops
returns-clause-stops g c =
    let reader = g.I.Input.reader in
    let plan = plan_contents c.in_ok-plan.plan in
    let due = expands c.in_ok-text.text.items c.as_slice.result.now plan (limits_of c.in_ok-plan.plan) c.as_slice.ensures.value c.in_ok-plan.ensures.meant in
    found_stops (ReadsText reader) Expanded g.O.Output.writer (HaltsAtText reader RefusesBrief) c.args.brief.now c.args.out.now _ _ c.in_ok-text.ensures.all _ _ due c.print_found.new.out c.print_found.result (refused c.in_ok-text.ensures.all tt) c.print_found.ensures.stops
