use Rattle.std.proofs.Common.{◌≡◌, replicate, None}
use Rattle.verdicts.proofs.samples.no_samples.Given as goal

abbrev pub invariant-loop : goal.invariant-loop
invariant-loop l = l.samples.items ≡ replicate l.counter None
