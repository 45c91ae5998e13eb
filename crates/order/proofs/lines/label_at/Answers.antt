use Rattle.std.proofs.Common.{sym, arith}
use Rattle.order.proofs.LineLemmas.{no_label}
use Rattle.order.proofs.lines.label_at.Goals as goal

pub returns-in-None : goal.returns-in-None
returns-in-None c plan labels =
    sym (no_label plan c.args.p (omega (arith, labels.all, c.in-None.ensures.lookup.3)))
