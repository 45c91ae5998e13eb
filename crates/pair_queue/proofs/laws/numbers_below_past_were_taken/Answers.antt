use Rattle.pair_queue.proofs.TakenLemmas.{known_taken}
use Rattle.pair_queue.proofs.laws.numbers_below_past_were_taken.Goals as goal

pub returns : goal.returns
returns c items views seat v h at = known_taken items views seat v h at
