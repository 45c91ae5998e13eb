use Rattle.vcd_read.specs.Readers.{reading_of}
use Rattle.vcd_read.proofs.FedLemmas.{fed_cleared}
use Rattle.vcd_read.proofs.reader.Reader.clear_samples.Goals as goal

pub returns : goal.returns
returns c = λ scl sda text cleared fed. rw c.clear.ensures.items (fed_cleared scl sda text cleared (reading_of c.args.self.now) fed)
