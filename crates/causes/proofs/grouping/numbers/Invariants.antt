use Rattle.indexmap.specs.IndexSet.{keys}
use Rattle.causes.specs.Orders.{AreNumbers}
use Rattle.causes.proofs.grouping.numbers.Given as goal

abbrev pub invariant-loop-k : goal.invariant-loop-k
invariant-loop-k l = AreNumbers (keys l.known) l.causes l.k l.numbers.items
