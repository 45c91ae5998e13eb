use Rattle.plan_runs.proofs.StatusLemmas.{is_checked}
use Rattle.plan_runs.proofs.checking.check_readers.Goals as goal

pub returns-clause-judged : goal.returns-clause-judged
returns-clause-judged g c =
    is_checked g.I.Input.reader c.args.readers.now c.check_given.new.readers c.check_given.result c.check_given.ensures.read c.check_given.ensures.given c.check_given.ensures.judged
