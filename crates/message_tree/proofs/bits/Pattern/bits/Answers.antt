use Rattle.message_tree.specs.Patterns.{pattern_bits}
use Rattle.message_tree.proofs.bits.Pattern.bits.Goals as goal

pub returns : goal.returns
unfolding pattern_bits
returns c = cc
