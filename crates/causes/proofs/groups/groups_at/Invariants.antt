use Rattle.causes.specs.Orders.{AreGroupsAt}
use Rattle.causes.proofs.groups.groups_at.Given as goal

abbrev pub invariant-loop-g : goal.invariant-loop-g
invariant-loop-g l = AreGroupsAt l.causes l.order l.places l.counts l.g l.groups.items
