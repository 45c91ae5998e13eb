use Rattle.pair_queue.proofs.StepLemmas.{joins}
use Rattle.pair_queue.proofs.settling.give_back.Goals as goal

pub absorb-requires-clause-rule : goal.absorb-requires-clause-rule
absorb-requires-clause-rule c = joins _ _ _ _ c.requires.live c.requires.parts
