use Rattle.vcd_read.proofs.NameLemmas.{names}
use Rattle.vcd_read.proofs.WrongLemmas.{bad, bad_is_refused, back, back_is_refused, ending}
use Rattle.vcd_read.proofs.laws.refused_tokens_are_the_first_wrong_ones.Goals as goal

pub returns-clause-names : goal.returns-clause-names
returns-clause-names c = names

pub returns-clause-bad : goal.returns-clause-bad
returns-clause-bad c = bad

pub returns-clause-bad_is_refused : goal.returns-clause-bad_is_refused
returns-clause-bad_is_refused c = bad_is_refused

pub returns-clause-back : goal.returns-clause-back
returns-clause-back c = back

pub returns-clause-back_is_refused : goal.returns-clause-back_is_refused
returns-clause-back_is_refused c = back_is_refused

pub returns-clause-ending : goal.returns-clause-ending
returns-clause-ending c = ending
