use Rattle.capture_check.proofs.RunLemmas.{run_of_leaver, leaver_of_run, run_of_somebody, somebody_of_run, listed}
use Rattle.capture_check.proofs.laws.explained_transactions_are_those_of_runs.Goals as goal

pub returns-clause-each : goal.returns-clause-each
returns-clause-each c plan marks p = (run_of_leaver plan marks p, leaver_of_run plan marks p)

pub returns-clause-somebody : goal.returns-clause-somebody
returns-clause-somebody c plan marks = (run_of_somebody plan marks, somebody_of_run plan marks)

pub returns-clause-listed : goal.returns-clause-listed
returns-clause-listed c plan t time ps are until = listed plan t time ps are until
