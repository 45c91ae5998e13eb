use Rattle.std.proofs.Common.{arith}
use Rattle.given_plans.specs.Sources.{HaltsAtTexts, after_all}
use Rattle.run_parts.specs.declared.errors.RunError.TheVariants.{NoMemory}
use Rattle.given_runs.proofs.RunLemmas.{if_error}
use Rattle.given_runs.proofs.ordering.find_ordered.Goals as goal

pub returns-in-Ok-clause-stops : goal.returns-in-Ok-clause-stops
returns-in-Ok-clause-stops g c =
    if_error c.order_found.result NoMemory (λ e. HaltsAtTexts g.I.Input.reader c.args.readers.now e c.find_checked.new.readers) c.order_found.ensures.error (after_all c.in-Ok.ensures.read)

pub returns-in-Err-clause-stops : goal.returns-in-Err-clause-stops
returns-in-Err-clause-stops g c = c.in-Err.ensures.stops (omega arith, omega arith)
