-- V1 to V4, as the calls of a reader answer them.
use Rattle.vcd_read.specs.declared.errors.Refusal.{Refusal}
use Rattle.vcd_read.specs.declared.errors.Refusal.TheVariants.{NoSignal, BadToken, TimeBack, Unended}
use Rattle.run_errors.specs.declared.dumps.VcdError.{VcdError}
use Rattle.run_errors.specs.declared.dumps.VcdError.TheVariants as errors

abbrev pub error_of : Refusal → VcdError
error_of (NoSignal signal) = errors.NoSignal signal
error_of (BadToken line) = errors.BadToken line
error_of (TimeBack line) = errors.TimeBack line
error_of (Unended line) = errors.Unended line
