use Rattle.std.proofs.Common.{true, false, arith}
use Rattle.std.proofs.lemmas.Option.{slice_get-get_or}
use Rattle.arbitration.proofs.BitPlaces.{one_more_digit, all_digits}
use Rattle.arbitration.proofs.bits.Choices.of.Goals as goal

pub loop-k-preserved : goal.loop-k-preserved
loop-k-preserved c =
    let bs = c.args.bits.now in
    let k = c.loop-k.k in
    record {
      zero = one_more_digit bs false k c.loop-k.zero c.with_digit-zero.result _ c.may_be.result (slice_get-get_or bs k _ (omega arith)) c.may_be.ensures c.with_digit-zero.ensures.set c.with_digit-zero.ensures.same c.with_digit-zero.ensures.others c.loop-k.invariant.zero;
      one = one_more_digit bs true k c.loop-k.one c.with_digit-one.result _ c.may_be-in-loop-k.result (slice_get-get_or bs k _ (omega arith)) c.may_be-in-loop-k.ensures c.with_digit-one.ensures.set c.with_digit-one.ensures.same c.with_digit-one.ensures.others c.loop-k.invariant.one;
    }

pub returns : goal.returns
returns c =
    let bs = c.args.bits.now in
    record {
      eight = c.told-bits;
      zero = all_digits bs false c.loop-k.k c.loop-k.zero c.told-bits c.loop-k-test.false c.loop-k.invariant.zero;
      one = all_digits bs true c.loop-k.k c.loop-k.one c.told-bits c.loop-k-test.false c.loop-k.invariant.one;
    }
