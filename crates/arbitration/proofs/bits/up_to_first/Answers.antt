use Rattle.std.proofs.Common.{arith}
use Rattle.std.specs.Int.{w8, trailing_zeros}
use Rattle.std.proofs.lemmas.Nat.Bits.{bit_at_ones, bit_at-trailing_zeros}
use Rattle.arbitration.proofs.BitPlaces.{up_to, none_before, ones_below}
use Rattle.arbitration.proofs.bits.up_to_first.Goals as goal

pub returns-then-places-eq0 : goal.returns-then-places-eq0
returns-then-places-eq0 c k l = (λ h. none_before c.args.places k c.if-places-eq0.true, λ b. bit_at_ones 8 k l)

pub returns-else-places-eq0 : goal.returns-else-places-eq0
returns-else-places-eq0 c k l =
    let t = bit_at-trailing_zeros w8 c.args.places (omega arith) (omega arith) in
    up_to c.args.places (trailing_zeros w8 c.args.places) t.1 t.2 _ k (ones_below (trailing_zeros w8 c.args.places) t.0)
