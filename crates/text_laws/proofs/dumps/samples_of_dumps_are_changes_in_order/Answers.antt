use Rattle.text_laws.proofs.DumpSamples.{dumps_in_order, dumps_of_changes}
use Rattle.text_laws.proofs.dumps.samples_of_dumps_are_changes_in_order.Goals as goal

pub returns-clause-in_order : goal.returns-clause-in_order
returns-clause-in_order c = dumps_in_order

pub returns-clause-changes : goal.returns-clause-changes
returns-clause-changes c = dumps_of_changes
