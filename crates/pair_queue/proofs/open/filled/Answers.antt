use Rattle.pair_queue.proofs.StepLemmas.{begins}
use Rattle.pair_queue.proofs.open.filled.Goals as goal

pub fifo_as-requires : goal.fifo_as-requires
fifo_as-requires c = begins
