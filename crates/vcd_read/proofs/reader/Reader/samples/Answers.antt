use Rattle.vcd_read.specs.Readers.{reading_of}
use Rattle.vcd_read.proofs.FedLemmas.{samples_so_far, given_in}
use Rattle.vcd_read.proofs.reader.Reader.samples.Goals as goal

pub returns-clause-so_far : goal.returns-clause-so_far
returns-clause-so_far c = λ scl sda text cleared fed. rw c.as_slice.ensures.value (samples_so_far scl sda text cleared (reading_of c.args.self.now) fed)

pub returns-clause-up_to_refusal : goal.returns-clause-up_to_refusal
returns-clause-up_to_refusal c = λ scl sda text cleared fed. rw c.as_slice.ensures.value (given_in scl sda text cleared (reading_of c.args.self.now) fed)
