use Rattle.std.proofs.Common.{bit_and, refl, arith}
use Rattle.std.proofs.lemmas.Nat.{or_of_8, and_le_l}
use Rattle.arbitration.proofs.BitPlaces.{split_digits}
use Rattle.arbitration.proofs.bits.Choices.splits.Goals as goal

pub returns : goal.returns
returns c bs cs is are k =
    split_digits bs cs c.args.self c.args.other is are k _ refl (omega arith) (or_of_8 (bit_and c.args.self.zero c.args.other.zero) (bit_and c.args.self.one c.args.other.one) (omega (arith, and_le_l c.args.self.zero c.args.other.zero)) (omega (arith, and_le_l c.args.self.one c.args.other.one)))
