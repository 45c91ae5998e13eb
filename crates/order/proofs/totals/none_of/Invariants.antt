use Rattle.std.proofs.Common.{◌≡◌, replicate}
use Rattle.order.specs.Counting.{none}
use Rattle.order.proofs.totals.none_of.Given as goal

abbrev pub invariant-loop : goal.invariant-loop
invariant-loop l = l.totals.items ≡ replicate l.counter none
