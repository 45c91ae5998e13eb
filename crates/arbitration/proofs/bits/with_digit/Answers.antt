use Rattle.std.specs.Int.{w8}
use Rattle.std.proofs.lemmas.Nat.Bits.{bit_at_set_same, bit_at_set_other}
use Rattle.arbitration.proofs.bits.with_digit.Goals as goal

pub returns-then-is-clause-set : goal.returns-then-is-clause-set
returns-then-is-clause-set c e = bit_at_set_same w8 c.args.digits c.args.k c.requires

pub returns-then-is-clause-others : goal.returns-then-is-clause-others
returns-then-is-clause-others c j n = bit_at_set_other w8 c.args.digits c.args.k c.requires j n
