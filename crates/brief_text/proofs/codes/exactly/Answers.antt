use Rattle.std.proofs.Common.{sym, ap, ◌∙◌}
use Rattle.message_tree.specs.Bits.{bits_below}
use Rattle.brief_text.specs.Codes.{exactly}
use Rattle.brief_text.proofs.WordLemmas.{any_is, byte_is}
use Rattle.brief_text.proofs.codes.exactly.Goals as goal

pub returns-in-Some : goal.returns-in-Some
returns-in-Some c = byte_is c.new.result (bits_below 8 255 c.in-Some.byte) c.new.ensures ∙ sym (ap exactly c.in-Some.is)

pub returns-in-None : goal.returns-in-None
returns-in-None c = sym (any_is c.new-in-None.result c.new-in-None.ensures) ∙ sym (ap exactly c.in-None.is)
