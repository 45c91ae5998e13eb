use Rattle.std.proofs.Common.{subst, ℕ, List}
use Rattle.run_parts.specs.PlanTexts.{RefusesPlan}
use Rattle.run_parts.specs.Runs.{HaltsAtText, unread, refused}
use Rattle.run_parts.specs.RunErrors.{run_error}
use Rattle.run_parts.proofs.PlanTextLemmas.{refuses_plan}
use Rattle.run_parts.proofs.RunLemmas.{on_error}
use Rattle.verifying.proofs.finding.find_plan.Goals as goal

pub returns-in_err-text-clause-stops : goal.returns-in_err-text-clause-stops
returns-in_err-text-clause-stops g c =
    on_error c.from_residual.result c.in_err-text.field-0.0 (λ e. HaltsAtText g.I.Input.reader RefusesPlan c.args.plan.now e c.read_within.new.reader) c.from_residual.ensures.1 (unread c.in_err-text.ensures.stops)

pub returns-in_err-found-clause-stops : goal.returns-in_err-found-clause-stops
returns-in_err-found-clause-stops g c =
    let e = c.in_err-found.field-0.0 in
    let first = subst (λ (t : List ℕ). RefusesPlan t (run_error e)) c.as_slice.ensures.value (refuses_plan c.as_slice.result.now e c.in_err-found.ensures.refused) in
    on_error c.from_residual-in_err-found.result (run_error e) (λ e. HaltsAtText g.I.Input.reader RefusesPlan c.args.plan.now e c.read_within.new.reader) c.from_residual-in_err-found.ensures.1 (refused c.in_ok-text.ensures.all first)
