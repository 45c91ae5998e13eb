use Rattle.message_tree.specs.Patterns.{pattern_bits}
use Rattle.pair_walk.proofs.wires.byte_items.Goals as goal

pub returns : goal.returns
unfolding pattern_bits
returns c = cc
