use Rattle.std.proofs.Common.{◌≡◌, map, take}
use Rattle.mending.specs.Numbers.{is_among}
use Rattle.mending.proofs.left.among.Given as goal

abbrev pub invariant-loop-k : goal.invariant-loop-k
invariant-loop-k l = l.found.items ≡ map (is_among l.others) (take l.k l.pairs)
