use Rattle.plan_runs.proofs.StatusLemmas.{is_benched}
use Rattle.plan_runs.proofs.rehearsals.bench_readers.Goals as goal

pub returns-clause-answered : goal.returns-clause-answered
returns-clause-answered g c =
    is_benched g.I.Input.reader g.J.Input.reader (c.args.readers.now, c.args.cert.now) (c.bench_given.new.readers, c.bench_given.new.cert) c.args.starters.now c.args.answers.now c.args.fill g.O.Output.writer c.args.out.now c.bench_given.new.out c.bench_given.result c.bench_given.ensures.report
