use Rattle.vcd_read.specs.Pieces.{kept_of}
use Rattle.vcd_read.specs.Readers.{reading_of}
use Rattle.vcd_read.proofs.FedLemmas.{scan_of_going, scan_of_refused, samples_going, samples_refused_at_end, samples_refused, is_refusal}
use Rattle.vcd_read.proofs.reader.Reader.finish.Goals as goal

pub returns-in-Some : goal.returns-in-Some
returns-in-Some g c = λ scl sda text cleared fed.
    is_refusal _ c.in-Some.refusal _ (samples_refused scl sda text _ (scan_of_refused scl sda text cleared (reading_of c.args.self) c.in-Some.refusal c.in-Some.is fed)) c.from-error.ensures

pub returns-in-Err : goal.returns-in-Err
returns-in-Err g c = λ scl sda text cleared fed.
    is_refusal _ c.in-Err.refusal _
    (samples_refused_at_end scl sda text cleared (kept_of c.args.self.scanner) c.in-Err.refusal (scan_of_going scl sda text cleared (reading_of c.args.self) c.in_default.is fed) c.in-Err.ensures) c.from-error-in-Err.ensures

pub returns-in-Ok : goal.returns-in-Ok
returns-in-Ok g c = λ scl sda text cleared fed.
    samples_going scl sda text cleared (kept_of c.args.self.scanner) _ (scan_of_going scl sda text cleared (reading_of c.args.self) c.in_default.is fed) c.in-Ok.ensures
