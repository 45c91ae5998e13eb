use Rattle.std.proofs.Common.{◌≡◌, replicate}
use Rattle.verdicts.specs.declared.known.Known.TheVariants.{NotYet}
use Rattle.verdicts.proofs.known.not_yet.Given as goal

abbrev pub invariant-loop : goal.invariant-loop
invariant-loop l = l.known.items ≡ replicate l.counter NotYet
