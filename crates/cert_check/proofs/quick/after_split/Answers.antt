use Rattle.std.proofs.Common.{arith}
use Rattle.cert_check.proofs.QuickLemmas.{split_begins}
use Rattle.cert_check.proofs.quick.after_split.Goals as goal

pub returns-in-48-to-55 : goal.returns-in-48-to-55
returns-in-48-to-55 c =
    let inner = c.in_ok-after_byte.field-0.now in
    split_begins c.args.text.now inner c.args.a.now c.args.b.now c.in_ok-after_byte.ensures c.in-len1-up.len_at_least (omega (arith, c.in-48-to-55)) (omega (arith, c.in-48-to-55)) (c.are_split_at.ensures.0 c.if-are_split_at.true)
