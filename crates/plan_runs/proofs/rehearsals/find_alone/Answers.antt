use Rattle.plan_runs.proofs.StatusLemmas.{is_self_judged}
use Rattle.plan_runs.proofs.rehearsals.find_alone.Goals as goal

pub returns-in-Ok-clause-judged : goal.returns-in-Ok-clause-judged
returns-in-Ok-clause-judged g c =
    is_self_judged g.I.Input.reader c.args.readers.now c.find_self_rehearsed.new.readers c.args.starters.now c.args.answers.now c.args.fill c.in-Ok.found c.status_of_outcome-status.result c.status_of_outcome-status.ensures c.in-Ok.ensures.read c.in-Ok.ensures.outcome
