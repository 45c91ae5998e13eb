use Rattle.plan_runs.proofs.StatusLemmas.{is_answered}
use Rattle.plan_runs.proofs.checking.answer_exactly.Goals as goal

pub returns-clause-answered : goal.returns-clause-answered
returns-clause-answered g c =
    is_answered g.I.Input.reader g.J.Input.reader g.O.Output.writer (c.args.readers.now, c.args.cert.now) (c.verify_given.new.readers, c.verify_given.new.cert) c.args.out.now c.verify_given.new.out c.verify_given.result c.verify_given.ensures.report
