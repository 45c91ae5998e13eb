use Rattle.vcd_read.proofs.SpelledDumps.{spelled, accepted}
use Rattle.vcd_read.proofs.laws.accepted_dumps_are_those_that_the_grammar_spells.Goals as goal

pub returns-clause-spelled : goal.returns-clause-spelled
returns-clause-spelled c = spelled

pub returns-clause-accepted : goal.returns-clause-accepted
returns-clause-accepted c = accepted
