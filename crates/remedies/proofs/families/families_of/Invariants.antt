use Rattle.std.proofs.Common.{◌≡◌, length}
use Rattle.remedies.proofs.families.families_of.Given as goal

abbrev pub invariant-loop-m : goal.invariant-loop-m
invariant-loop-m l = length l.families.items ≡ l.m
