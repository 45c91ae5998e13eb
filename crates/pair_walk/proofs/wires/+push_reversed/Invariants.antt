use Rattle.std.proofs.Common.{length}
use Rattle.pair_walk.proofs.wires.+push_reversed.Given as goal

abbrev pub decreases-push_reversed : goal.decreases-push_reversed
decreases-push_reversed l = length l.items.now
