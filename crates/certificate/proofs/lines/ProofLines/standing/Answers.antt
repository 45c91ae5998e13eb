use Rattle.std.proofs.Common.{refl}
use Rattle.certificate.proofs.ReadLemmas.{stands_here}
use Rattle.certificate.proofs.lines.ProofLines.standing.Goals as goal

pub returns : goal.returns
returns c text trees so_far = stands_here text trees c.args.self.now _ refl refl so_far
