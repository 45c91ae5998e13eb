use Rattle.plan_runs.proofs.StatusLemmas.{is_judged}
use Rattle.plan_runs.proofs.rehearsals.bench_readers_alone.Goals as goal

pub returns-clause-judged : goal.returns-clause-judged
returns-clause-judged g c =
    is_judged g.I.Input.reader c.args.readers.now c.self_bench_given.new.readers c.args.starters.now c.args.answers.now c.args.fill g.O.Output.writer c.args.out.now c.self_bench_given.new.out c.self_bench_given.result c.self_bench_given.ensures.report
