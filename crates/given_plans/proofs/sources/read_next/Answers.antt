use Rattle.std.proofs.Common.{subst, sym, ℕ, List}
use Rattle.brief_text.specs.Together.{together}
use Rattle.given_plans.specs.Given.{RefusesFurther}
use Rattle.given_plans.proofs.GivenLemmas.{refuses_further, on_halted, if_error}
use Rattle.run_parts.specs.Runs.{HaltsAtText, unread, refused}
use Rattle.run_parts.specs.RunErrors.{run_error}
use Rattle.run_parts.specs.declared.errors.RunError.{RunError}
use Rattle.run_parts.specs.declared.errors.RunError.TheVariants.{NoMemory}
use Rattle.given_plans.proofs.sources.read_next.Goals as goal

pub returns-in_err-text-clause-stops : goal.returns-in_err-text-clause-stops
returns-in_err-text-clause-stops g c =
    on_halted c.from_residual.result c.in_err-text.field-0.0 (λ e. HaltsAtText g.I.Input.reader (RefusesFurther (together c.args.read.briefs)) c.args.next.now e c.read_within.new.reader) c.from_residual.ensures.1 (unread c.in_err-text.ensures.stops)

pub returns-in-Ok-clause-stops : goal.returns-in-Ok-clause-stops
returns-in-Ok-clause-stops g c =
    if_error c.with_text.result NoMemory (λ e. HaltsAtText g.I.Input.reader (RefusesFurther (together c.args.read.briefs)) c.args.next.now e c.read_within.new.reader) c.with_text.ensures.error (refused c.in_ok-text.ensures.all tt)

pub returns-in-Err-clause-stops : goal.returns-in-Err-clause-stops
returns-in-Err-clause-stops g c =
    let e = c.in-Err.refused.error in
    let before = together c.args.read.briefs in
    let first = subst (λ (t : List ℕ). RefusesFurther before t (run_error e)) c.as_slice.ensures.value (refuses_further before c.as_slice.result.now e c.in-Err.ensures.refused) in
    subst (λ (e : RunError). HaltsAtText g.I.Input.reader (RefusesFurther before) c.args.next.now e c.read_within.new.reader) (sym c.refused.ensures.error) (refused c.in_ok-text.ensures.all first)
