use Rattle.indexmap.specs.IndexSet.{keys}
use Rattle.causes.specs.Orders.{AreFirsts}
use Rattle.causes.proofs.grouping.firsts.Given as goal

abbrev pub invariant-loop-i : goal.invariant-loop-i
invariant-loop-i l = AreFirsts l.causes l.order l.i (keys l.known) l.places.items
