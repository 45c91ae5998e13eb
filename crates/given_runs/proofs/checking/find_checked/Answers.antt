use Rattle.given_plans.specs.Sources.{HaltsAtTexts, after_all}
use Rattle.run_parts.specs.declared.errors.RunError.TheVariants.{NoMemory}
use Rattle.given_runs.proofs.RunLemmas.{if_error}
use Rattle.given_runs.proofs.checking.find_checked.Goals as goal

pub returns-in-Ok-clause-stops : goal.returns-in-Ok-clause-stops
returns-in-Ok-clause-stops g c some =
    if_error c.check_plan.result NoMemory (λ e. HaltsAtTexts g.I.Input.reader c.args.readers.now e c.find_among.new.readers) c.check_plan.ensures.error (after_all c.in-Ok.ensures.read)
