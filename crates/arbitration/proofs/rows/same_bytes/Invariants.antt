use Rattle.std.proofs.Common.{◌≡◌, take}
use Rattle.arbitration.proofs.rows.same_bytes.Given as goal

abbrev pub invariant-loop-k : goal.invariant-loop-k
invariant-loop-k l = take l.k l.first.bytes.items ≡ take l.k l.second.bytes.items
