use Rattle.std.proofs.Common.{◌≡◌, ◌<◌, ◌+◌, ◌-◌, ◌*◌, length, get_or, sym, ◌∙◌, ap, drop, arith}
use Rattle.vcd_read.specs.Words.{number_from}
use Rattle.vcd_read.proofs.WordLemmas.{few_digits, number_next, one_more}
use Rattle.vcd_read.proofs.words.number_from.Goals as goal

pub overflow_mul-number : goal.overflow_mul-number
overflow_mul-number c =
    let few = few_digits c.loop-digit.number (8 + c.loop-digit.digit-index) (8 + length c.args.digits.now) c.loop-digit.invariant.fits (omega arith) (omega arith) in
    record { fits = omega arith }

pub overflow_add-number : goal.overflow_add-number
overflow_add-number c =
    let few = few_digits c.loop-digit.number (8 + c.loop-digit.digit-index) (8 + length c.args.digits.now) c.loop-digit.invariant.fits (omega arith) (omega arith) in
    record { fits = omega (arith, c.from.ensures) }

pub loop-digit-preserved : goal.loop-digit-preserved
loop-digit-preserved c =
    let next = number_next c.args.digits.now c.loop-digit.number c.loop-digit.digit-index c.loop-digit-test.true c.if-digit-lt48.false c.if-digit-gt57.false in
    let digit : c.from.result ≡ get_or c.args.digits.now c.loop-digit.digit-index 0 - 48 = c.from.ensures in
    let one : c.from.result < 10 = omega (arith, c.if-digit-gt57.false, digit) in
    record {
      value = ap (λ d. number_from (c.loop-digit.number * 10 + d) (drop (c.loop-digit.digit-index + 1) c.args.digits.now)) digit ∙ sym next ∙ c.loop-digit.invariant.value;
      fits = one_more c.loop-digit.number c.loop-digit.digit-index c.from.result c.loop-digit.invariant.fits one;
    }
