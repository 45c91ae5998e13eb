use Rattle.std.proofs.Common.{arith}
use Rattle.message_tree.proofs.BitLemmas.{highest_at}
use Rattle.message_tree.proofs.bits.highest_one.Goals as goal

pub overflow_sub-result-else-digits-eq0 : goal.overflow_sub-result-else-digits-eq0
overflow_sub-result-else-digits-eq0 c = (highest_at c.args.width c.args.digits c.requires.within c.requires.fits (omega arith)).0

pub returns-else-digits-eq0 : goal.returns-else-digits-eq0
returns-else-digits-eq0 c = (highest_at c.args.width c.args.digits c.requires.within c.requires.fits (omega arith)).1
