use Rattle.std.proofs.Common.{arith}
use Rattle.std.proofs.lemmas.Nat.{and_assoc}
use Rattle.std.specs.Int.Bits.{and_self}
use Rattle.message_tree.specs.Patterns.{pattern_bits}
use Rattle.message_tree.proofs.BitLemmas.{bits_below-masked}
use Rattle.message_tree.proofs.bits.Pattern.new.Goals as goal

pub invariant_of-result : goal.invariant_of-result
invariant_of-result c = record {
  known_is_byte = omega arith;
  open_bits_are_zero = rw (and_assoc, and_self);
}

pub returns : goal.returns
unfolding pattern_bits
returns c = bits_below-masked 8 c.args.known c.args.value
