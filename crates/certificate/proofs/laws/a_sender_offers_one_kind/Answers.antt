use Rattle.certificate.proofs.Soundness.{offers_one_kind}
use Rattle.certificate.proofs.laws.a_sender_offers_one_kind.Goals as goal

pub returns : goal.returns
returns c s = offers_one_kind s
