use Rattle.std.proofs.Common.{false, get_or, refl}
use Rattle.byte_lines.proofs.ByteLemmas.{one_digit_more, still_small}
use Rattle.byte_lines.proofs.bytes.number.Goals as goal

pub loop-bit-preserved : goal.loop-bit-preserved
loop-bit-preserved c = record {
  so_far = one_digit_more c.args.bits.now c.loop-bit.bit-index c.loop-bit.number c.from.result false c.loop-bit-test.true c.loop-bit.invariant.so_far c.from.ensures;
  small = still_small c.loop-bit.bit-index c.loop-bit.number c.from.result (get_or c.args.bits.now c.loop-bit.bit-index false) c.loop-bit.invariant.small c.from.ensures;
}
