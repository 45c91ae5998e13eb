use Rattle.std.proofs.Common.{length, ap, sym}
use Rattle.certificate.specs.Reading.{text_left}
use Rattle.cert_check.proofs.checkers.stopped_before.Goals as goal

pub returns-clause-stands : goal.returns-clause-stands
returns-clause-stands c text trees so_far =
    let it = c.standing.ensures text trees so_far in
    record { before = it.0; rest = text_left c.args.lines.now; stands = it.1; text_is = it.2; size = ap length (sym c.rest.ensures) }
