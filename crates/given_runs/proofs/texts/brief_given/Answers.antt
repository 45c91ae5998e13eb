use Rattle.std.proofs.Common.{ℕ, List, subst, sym}
use Rattle.plan_core.specs.PlanContents.{plan_contents}
use Rattle.plan_text.specs.Grammar.{Spells}
use Rattle.run_parts.specs.RunErrors.{run_error}
use Rattle.run_parts.specs.Runs.{ReadsText, HaltsAtText, Stops, unread, refused, unwritten}
use Rattle.run_parts.specs.declared.errors.RunError.{RunError}
use Rattle.spellings.specs.Spellings.{Abbreviated, GivesNoBrief}
use Rattle.spellings.proofs.SpellingLemmas.{refuses_plan_to_brief}
use Rattle.given_runs.proofs.TextLemmas.{on_unabbreviated, brief_reports, brief_stops}
use Rattle.given_runs.proofs.texts.brief_given.Goals as goal

pub returns-in_err-text-clause-stops : goal.returns-in_err-text-clause-stops
returns-in_err-text-clause-stops g c =
    on_unabbreviated c.from_residual.result c.in_err-text.field-0.0 (λ e. Stops (ReadsText g.I.Input.reader) Abbreviated g.O.Output.writer (HaltsAtText g.I.Input.reader GivesNoBrief) c.args.text.now c.args.out.now e c.read_within.new.reader c.args.out.now) c.from_residual.ensures.1 (unwritten (unread c.in_err-text.ensures.stops))

pub returns-in-Ok-clause-report : goal.returns-in-Ok-clause-report
returns-in-Ok-clause-report g c =
    let spelled = subst (λ (t : List ℕ). Spells t (plan_contents c.in-Ok.plan)) c.as_slice.ensures.value c.in-Ok.ensures.spelled in
    brief_reports g.I.Input.reader g.O.Output.writer c.args.text.now c.read_within.new.reader c.args.out.now c.write_brief.new.out c.in_ok-text.text.items (plan_contents c.in-Ok.plan) c.in_ok-text.ensures.all spelled c.write_brief.result c.write_brief.ensures.wrote

pub returns-in-Ok-clause-stops : goal.returns-in-Ok-clause-stops
returns-in-Ok-clause-stops g c =
    let spelled = subst (λ (t : List ℕ). Spells t (plan_contents c.in-Ok.plan)) c.as_slice.ensures.value c.in-Ok.ensures.spelled in
    brief_stops g.I.Input.reader g.O.Output.writer c.args.text.now c.read_within.new.reader c.args.out.now c.write_brief.new.out c.in_ok-text.text.items (plan_contents c.in-Ok.plan) c.in_ok-text.ensures.all spelled c.write_brief.result c.write_brief.ensures.stops

pub returns-in-Err-clause-stops : goal.returns-in-Err-clause-stops
returns-in-Err-clause-stops g c =
    let e = c.in-Err.refused.error in
    let first = subst (λ (t : List ℕ). GivesNoBrief t (run_error e)) c.as_slice.ensures.value (refuses_plan_to_brief c.as_slice.result.now e c.in-Err.ensures.refused) in
    subst (λ (error : RunError). Stops (ReadsText g.I.Input.reader) Abbreviated g.O.Output.writer (HaltsAtText g.I.Input.reader GivesNoBrief) c.args.text.now c.args.out.now error c.read_within.new.reader c.args.out.now) (sym c.unread.ensures) (unwritten (refused c.in_ok-text.ensures.all first))
