use Rattle.certificate.proofs.Soundness.{sound}
use Rattle.certificate.proofs.laws.proved_pairs_never_clash.Goals as goal

pub returns : goal.returns
returns c p s t h = sound p s t h
