use Rattle.std.proofs.Common.{subst, sym, ℕ, List}
use Rattle.given_plans.specs.Given.{RefusesGiven}
use Rattle.given_plans.proofs.GivenLemmas.{refuses_given, on_halted, if_error}
use Rattle.run_parts.specs.Runs.{HaltsAtText, unread, refused}
use Rattle.run_parts.specs.RunErrors.{run_error}
use Rattle.run_parts.specs.declared.errors.RunError.{RunError}
use Rattle.run_parts.specs.declared.errors.RunError.TheVariants.{NoMemory}
use Rattle.given_plans.proofs.plans.find_given.Goals as goal

pub returns-in_err-text-clause-stops : goal.returns-in_err-text-clause-stops
returns-in_err-text-clause-stops g c =
    on_halted c.from_residual.result c.in_err-text.field-0.0 (λ e. HaltsAtText g.I.Input.reader RefusesGiven c.args.text.now e c.read_within.new.reader) c.from_residual.ensures.1 (unread c.in_err-text.ensures.stops)

pub returns-in-Err-clause-stops : goal.returns-in-Err-clause-stops
returns-in-Err-clause-stops g c =
    let e = c.in-Err.refusal.refused.error in
    let first = subst (λ (t : List ℕ). RefusesGiven t (run_error e)) c.as_slice.ensures.value (refuses_given c.as_slice.result.now e c.in-Err.ensures.refused) in
    subst (λ (e : RunError). HaltsAtText g.I.Input.reader RefusesGiven c.args.text.now e c.read_within.new.reader) (sym c.refused.ensures.error) (refused c.in_ok-text.ensures.all first)

pub returns-in-Ok-clause-stops : goal.returns-in-Ok-clause-stops
returns-in-Ok-clause-stops g c =
    if_error c.of_one_text.result NoMemory (λ e. HaltsAtText g.I.Input.reader RefusesGiven c.args.text.now e c.read_within.new.reader) c.of_one_text.ensures.error (refused c.in_ok-text.ensures.all tt)
