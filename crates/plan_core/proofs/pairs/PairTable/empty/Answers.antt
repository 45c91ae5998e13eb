use Rattle.std.proofs.Common.{ap, arith, length, refl}
use Rattle.plan_core.proofs.pairs.PairTable.empty.Goals as goal

pub returns : goal.returns
returns c is_apart n = record {
  sized = ap length c.new.ensures.items;
  row = λ x d h. absurd (omega (arith, h));
  pairs = refl;
  few = omega (arith, ap length c.new-2.ensures.items);
}
