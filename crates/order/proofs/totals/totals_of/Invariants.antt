use Rattle.std.proofs.Common.{◌≡◌, take}
use Rattle.std.specs.List.{zip}
use Rattle.order.specs.Totals.{totals_below}
use Rattle.order.proofs.totals.totals_of.Given as goal

-- the first pairs are counted
abbrev pub invariant-loop-k : goal.invariant-loop-k
invariant-loop-k l = l.totals.items ≡ totals_below l.participants (take l.k (zip l.pairs l.ways))
