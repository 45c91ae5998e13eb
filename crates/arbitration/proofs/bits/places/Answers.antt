use Rattle.std.proofs.Common.{refl, arith}
use Rattle.std.proofs.lemmas.Nat.{leading_top}
use Rattle.arbitration.proofs.BitPlaces.{first_and_last}
use Rattle.arbitration.proofs.bits.places.Goals as goal

pub returns : goal.returns
returns c = first_and_last c.args.digits _ (omega arith) (omega arith) refl (let top = leading_top 8 c.args.digits (omega arith) (omega arith) in omega (arith, top.1))
