use Rattle.causes.specs.Orders.{AreCounts}
use Rattle.causes.proofs.grouping.counts.Given as goal

abbrev pub invariant-loop-i : goal.invariant-loop-i
invariant-loop-i l = AreCounts l.n l.numbers l.i l.counts.items
