use Rattle.message_tree.specs.Patterns.{address_bits}
use Rattle.message_tree.proofs.bits.Address.bits.Goals as goal

pub returns : goal.returns
unfolding address_bits
returns c = cc
