use Rattle.std.proofs.Common.{[], arith}
use Rattle.run_parts.specs.Reading.{ReadingStops}
use Rattle.run_parts.specs.Devices.{no_read}
use Rattle.run_parts.specs.declared.errors.RunError.TheVariants as error
use Rattle.run_parts.proofs.RunLemmas.{on_error}
use Rattle.run_parts.proofs.devices.reading.read_within.Goals as goal

pub returns-in_err-block-clause-stops : goal.returns-in_err-block-clause-stops
returns-in_err-block-clause-stops g c =
    let reader = g.I.Input.reader in
    on_error c.from_residual.result error.NoMemory (λ e. ReadingStops reader c.args.limit c.args.reader.now e c.args.reader.now) c.from_residual.ensures.1 (record { reads = 0; few = omega arith; text = []; read = no_read })
