use Rattle.pulses.proofs.EndedLemmas.{none_has_ended}
use Rattle.pulses.proofs.laws.all_that_ended_is_handed_out.Goals as goal

pub returns : goal.returns
returns c = none_has_ended
