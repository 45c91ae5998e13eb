use Rattle.std.proofs.Common.{arith}
use Rattle.certificate.proofs.ReadLemmas.{seen_short}
use Rattle.certificate.proofs.lines.ProofLines.resume.Goals as goal

pub returns-in_default-clause-none : goal.returns-in_default-clause-none
returns-in_default-clause-none c before trees stands =
    let short = seen_short before trees c.args.standing stands in omega (arith, short, c.in_default.ensures)

pub returns-in_default-at_line-clause-none : goal.returns-in_default-at_line-clause-none
returns-in_default-at_line-clause-none c before trees stands =
    let short = seen_short before trees c.args.standing stands in omega (arith, short, c.in-Some.ensures, c.in_default-at_line.ensures.none)
