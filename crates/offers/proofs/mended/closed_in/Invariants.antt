use Rattle.std.proofs.Common.{All}
use Rattle.offers.specs.Open.{IsClosed}
use Rattle.offers.proofs.mended.closed_in.Given as goal

abbrev pub invariant-loop-g : goal.invariant-loop-g
invariant-loop-g l = All (IsClosed l.flags) l.closed.items
