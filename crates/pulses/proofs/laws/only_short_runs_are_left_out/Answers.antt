use Rattle.pulses.proofs.LawLemmas.{unchanged, lasting, once}
use Rattle.pulses.proofs.laws.only_short_runs_are_left_out.Goals as goal

pub returns-clause-unchanged : goal.returns-clause-unchanged
returns-clause-unchanged c = unchanged

pub returns-clause-lasting : goal.returns-clause-lasting
returns-clause-lasting c = lasting

pub returns-clause-once : goal.returns-clause-once
returns-clause-once c = once
