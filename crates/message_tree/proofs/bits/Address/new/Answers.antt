use Rattle.std.proofs.Common.{bit_and, ◌∙◌, lit≤}
use Rattle.std.proofs.lemmas.Nat.{and_assoc}
use Rattle.std.specs.Int.Bits.{and_self, mask_lt}
use Rattle.message_tree.specs.Patterns.{address_bits}
use Rattle.message_tree.proofs.BitLemmas.{bits_below-masked, bits_below-low}
use Rattle.message_tree.proofs.bits.Address.new.Goals as goal

pub invariant_of-result : goal.invariant_of-result
invariant_of-result c = record {
  known_is_address = mask_lt c.args.known 7;
  open_bits_are_zero = rw (and_assoc, and_self);
}

pub returns : goal.returns
unfolding address_bits
returns c = bits_below-masked 7 (bit_and c.args.known 127) c.args.value ∙ bits_below-low 7 7 c.args.known c.args.value (lit≤ tt)
