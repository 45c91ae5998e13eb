use Rattle.std.proofs.Common.{Some, None}
use Rattle.message_tree.specs.Patterns.{address_bits}
use Rattle.capture_check.proofs.AlongLemmas.{header_fits, begins_with, along, never, always}
use Rattle.capture_check.proofs.texts.interrupt_fits.Goals as goal

pub returns-in-Some : goal.returns-in-Some
returns-in-Some c =
    along (always (begins_with c.in-Some.field-0.now))
    (header_fits (address_bits c.args.address.now) c.header_bits.result c.args.marks.now (Some c.in-Some.field-0.now) c.header_bits.ensures c.in-Some.ensures)

pub returns-in-None : goal.returns-in-None
returns-in-None c =
    along never (header_fits (address_bits c.args.address.now) c.header_bits.result c.args.marks.now None c.header_bits.ensures c.in-None.ensures)
