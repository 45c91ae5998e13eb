use Rattle.text_laws.proofs.MeantLemmas.{in_one_part, in_no_part}
use Rattle.text_laws.proofs.meanings.each_message_is_in_one_part.Goals as goal

pub returns-clause-once : goal.returns-clause-once
returns-clause-once c = in_one_part

pub returns-clause-no_other : goal.returns-clause-no_other
returns-clause-no_other c = in_no_part
