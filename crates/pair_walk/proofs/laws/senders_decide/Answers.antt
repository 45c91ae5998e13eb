use Rattle.pair_walk.proofs.Faulty.{same_senders}
use Rattle.pair_walk.proofs.laws.senders_decide.Goals as goal

pub returns : goal.returns
returns c plan x y v w lt less e f found h = same_senders plan x y v w lt less e f found h
