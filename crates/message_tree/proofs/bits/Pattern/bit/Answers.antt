use Rattle.std.proofs.Common.{◌-◌, ◌∙◌, ap, sym, Some, arith}
use Rattle.message_tree.specs.Patterns.{pattern_bits}
use Rattle.message_tree.proofs.BitLemmas.{get_bit}
use Rattle.message_tree.proofs.bits.Pattern.bit.Goals as goal

pub returns : goal.returns
unfolding pattern_bits
returns c = get_bit 8 c.args.self.now.known c.args.self.now.value c.args.k (7 - c.args.k) (omega arith) ∙ ap Some (sym c.bit_at.ensures)
