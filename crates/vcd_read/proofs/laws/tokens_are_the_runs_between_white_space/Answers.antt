use Rattle.vcd_read.proofs.RunsLemmas.{are_runs}
use Rattle.vcd_read.proofs.laws.tokens_are_the_runs_between_white_space.Goals as goal

pub returns : goal.returns
returns c = λ text. are_runs text 1
