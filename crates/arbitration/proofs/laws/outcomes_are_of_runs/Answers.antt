use Rattle.plan_core.specs.Lawful.{pair}
use Rattle.arbitration.proofs.Runs.{ended, ends, first_wins_run, second_wins_run, wins_of_run, comes_to, some_outcome}
use Rattle.arbitration.proofs.laws.outcomes_are_of_runs.Goals as goal

pub returns : goal.returns
returns c = record {
  both = λ plan x y k n. (ended plan x y n k, ends plan x y n k);
  first = λ plan x y k n. (first_wins_run plan x y n k, wins_of_run plan (pair x y) x y k);
  second = λ plan x y k n. (second_wins_run plan x y n k, wins_of_run plan (pair x y) y x k);
  goes_on = comes_to;
  some = some_outcome;
}
