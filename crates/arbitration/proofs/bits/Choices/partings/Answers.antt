use Rattle.arbitration.specs.Ways.{both_end, first_wins, second_wins}
use Rattle.arbitration.proofs.BitPlaces.{wins, split_other}
use Rattle.arbitration.proofs.bits.Choices.partings.Goals as goal

pub returns : goal.returns
returns c bs cs is are both_end = λ k h. h
returns c bs cs is are first_wins =
    wins bs cs c.args.self.zero c.args.other.one c.splits.result c.up_to_first-before.result is.eight is.zero are.one (c.splits.ensures bs cs is are) c.up_to_first-before.ensures c.places.result c.places.ensures
returns c bs cs is are second_wins =
    wins cs bs c.args.other.zero c.args.self.one c.splits.result c.up_to_first-before.result are.eight are.zero is.one (split_other bs cs c.splits.result (c.splits.ensures bs cs is are)) c.up_to_first-before.ensures c.places-2.result c.places-2.ensures
