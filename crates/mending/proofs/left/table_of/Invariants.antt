use Rattle.std.proofs.Common.{take}
use Rattle.mending.specs.Numbers.{IsTable}
use Rattle.mending.proofs.left.table_of.Given as goal

abbrev pub invariant-loop-k : goal.invariant-loop-k
invariant-loop-k l = IsTable l.n (take l.k l.pairs) l.table.items
