use Rattle.std.proofs.Common.{◌-◌, ◌∙◌, ap, sym, Some, arith}
use Rattle.message_tree.specs.Patterns.{address_bits}
use Rattle.message_tree.proofs.BitLemmas.{get_bit}
use Rattle.message_tree.proofs.bits.Address.bit.Goals as goal

pub returns : goal.returns
unfolding address_bits
returns c = get_bit 7 c.args.self.now.known c.args.self.now.value c.args.k (6 - c.args.k) (omega arith) ∙ ap Some (sym c.bit_at.ensures)
