use Rattle.text_laws.proofs.MeantLemmas.{somebody_sends, nobody_else, all_listed, all_send, controllers_are}
use Rattle.text_laws.proofs.meanings.each_listed_message_has_one_participant.Goals as goal

pub returns-clause-somebody : goal.returns-clause-somebody
returns-clause-somebody c = λ draft controller message read at listed. somebody_sends draft read controller message at listed

pub returns-clause-nobody_else : goal.returns-clause-nobody_else
returns-clause-nobody_else c = λ draft p q x read first second. nobody_else draft read p q x first second

pub returns-clause-listed : goal.returns-clause-listed
returns-clause-listed c = λ draft p x read sends. all_listed draft read p x sends

pub returns-clause-each : goal.returns-clause-each
returns-clause-each c = λ draft p c k read at. all_send draft read p c k at

pub returns-clause-controllers : goal.returns-clause-controllers
returns-clause-controllers c = controllers_are
