use Rattle.std.proofs.Common.{◌≡◌, None, replicate}
use Rattle.order.proofs.known.unknown.Given as goal

abbrev pub invariant-loop : goal.invariant-loop
invariant-loop l = l.found.items ≡ replicate l.counter None
