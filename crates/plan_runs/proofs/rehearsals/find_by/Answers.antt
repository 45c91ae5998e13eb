use Rattle.plan_runs.proofs.StatusLemmas.{is_rehearsed}
use Rattle.plan_runs.proofs.rehearsals.find_by.Goals as goal

pub returns-in-Ok-clause-answered : goal.returns-in-Ok-clause-answered
returns-in-Ok-clause-answered g c =
    is_rehearsed g.I.Input.reader g.J.Input.reader (c.args.readers.now, c.args.cert.now) (c.find_rehearsed.new.readers, c.find_rehearsed.new.cert) c.args.starters.now c.args.answers.now c.args.fill c.in-Ok.found c.status_of_outcome-status.result c.status_of_outcome-status.ensures c.in-Ok.ensures.read c.in-Ok.ensures.cert c.in-Ok.ensures.outcome
