use Rattle.std.proofs.Common.{length}
use Rattle.plan_core.specs.PairTables.{are_apart, IsTable}
use Rattle.plan_core.proofs.pairs.PairTable.new.Given as goal

abbrev pub invariant-loop-x : goal.invariant-loop-x
invariant-loop-x l = IsTable (are_apart l.nevers l.participants) (length l.participants) l.x l.table
