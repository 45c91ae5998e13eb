use Rattle.vcd_read.proofs.SpelledDumps.{lacking, refused}
use Rattle.vcd_read.proofs.laws.dumps_without_a_signal_are_those_whose_definitions_lack_it.Goals as goal

pub returns-clause-lacking : goal.returns-clause-lacking
returns-clause-lacking c = lacking

pub returns-clause-refused : goal.returns-clause-refused
returns-clause-refused c = refused
