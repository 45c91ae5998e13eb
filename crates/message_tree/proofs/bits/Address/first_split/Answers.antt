use Rattle.message_tree.specs.Patterns.{address_bits}
use Rattle.message_tree.proofs.BitLemmas.{first_split_from}
use Rattle.message_tree.proofs.bits.Address.first_split.Goals as goal

pub returns : goal.returns
unfolding address_bits
returns c = first_split_from 7 c.args.self.now.known c.args.self.now.value c.args.other.now.known c.args.other.now.value c.highest_one.result c.highest_one.ensures
