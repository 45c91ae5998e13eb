use Rattle.message_tree.specs.Patterns.{address_bits}
use Rattle.pair_walk.proofs.wires.header_items.Goals as goal

pub returns : goal.returns
unfolding address_bits
returns c = cc
