use Rattle.std.proofs.Common.{[], arith}
use Rattle.verifying.specs.Answering.{HaltsAtAnswer, unread}
use Rattle.run_parts.specs.Devices.{no_read}
use Rattle.run_parts.specs.declared.errors.RunError.TheVariants as error
use Rattle.run_parts.proofs.RunLemmas.{on_error}
use Rattle.verifying.proofs.answering.read_answer.Goals as goal

pub returns-in_err-block-clause-stops : goal.returns-in_err-block-clause-stops
returns-in_err-block-clause-stops g c =
    on_error c.from_residual.result error.NoMemory (λ e. HaltsAtAnswer g.J.Input.reader c.args.cert.now e c.args.cert.now) c.from_residual.ensures.1 (unread {error = error.NoMemory} (record { reads = 0; few = omega arith; text = []; read = no_read }))

pub returns-in_err-checker-clause-stops : goal.returns-in_err-checker-clause-stops
returns-in_err-checker-clause-stops g c =
    on_error c.from_residual-in_err-checker.result error.NoMemory (λ e. HaltsAtAnswer g.J.Input.reader c.args.cert.now e c.args.cert.now) c.from_residual-in_err-checker.ensures.1 (unread {error = error.NoMemory} (record { reads = 0; few = omega arith; text = []; read = no_read }))
