use Rattle.bench_run.proofs.OneRunLemmas.{one_rehearsal}
use Rattle.bench_run.proofs.laws.rehearsals_are_one.Goals as goal

pub returns : goal.returns
returns c game fill wire other won others is a b = one_rehearsal game fill wire other won others is a b
