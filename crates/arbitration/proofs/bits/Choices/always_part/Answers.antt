use Rattle.std.proofs.Common.{arith}
use Rattle.arbitration.proofs.BitPlaces.{is_some}
use Rattle.arbitration.proofs.bits.Choices.always_part.Goals as goal

pub returns : goal.returns
returns c bs cs is are = is_some bs cs c.splits.result (omega arith) (c.splits.ensures bs cs is are)
