use Rattle.std.proofs.Common.{refl}
use Rattle.certificate.proofs.SameLine.{line_taken}
use Rattle.certificate.proofs.lines.ProofLines.takes_again.Goals as goal

pub returns-clause-read : goal.returns-clause-read
returns-clause-read c _ tree spelled =
    line_taken c.args.self.now _ c.args.line.now tree spelled c.in-Some.ensures.bytes c.in-Some.ensures.line refl refl
