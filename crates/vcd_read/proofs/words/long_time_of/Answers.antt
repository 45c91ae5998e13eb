use Rattle.std.proofs.Common.{◌≡◌, ◌+◌, ◌-◌, ◌*◌, length, [], get_or, drop, ap, sym, ◌∙◌, arith, false, ◌==◌}
use Rattle.std.proofs.lemmas.List.{drop_all}
use Rattle.vcd_read.specs.Words.{number_from}
use Rattle.vcd_read.proofs.WordLemmas.{number_next, time_too_large, time_is}
use Rattle.vcd_read.proofs.words.long_time_of.Goals as goal

pub returns-in_err-checked_mul : goal.returns-in_err-checked_mul
returns-in_err-checked_mul c =
    let some : (length c.args.digits.now == 0) ≡ false = sym c.is_empty.ensures ∙ c.if-is_empty.false in
    let next = number_next c.args.digits.now c.loop-digit.time c.loop-digit.digit-index c.loop-digit-test.true c.if-digit-lt48.false c.if-digit-gt57.false in
    let large = c.in_err-checked_mul.ensures in
    c.from_residual.ensures ∙ sym (time_too_large c.args.digits.now (drop (c.loop-digit.digit-index + 1) c.args.digits.now)
    (c.loop-digit.time * 10 + (get_or c.args.digits.now c.loop-digit.digit-index 0 - 48)) some (omega arith) (sym next ∙ c.loop-digit.invariant.value))

pub returns-in_err-time : goal.returns-in_err-time
returns-in_err-time c =
    let some : (length c.args.digits.now == 0) ≡ false = sym c.is_empty.ensures ∙ c.if-is_empty.false in
    let next = number_next c.args.digits.now c.loop-digit.time c.loop-digit.digit-index c.loop-digit-test.true c.if-digit-lt48.false c.if-digit-gt57.false in
    let large = c.in_err-time.ensures in
    let product = c.in_ok-checked_mul.ensures in
    c.from_residual-in_err-time.ensures ∙ sym (time_too_large c.args.digits.now (drop (c.loop-digit.digit-index + 1) c.args.digits.now)
    (c.loop-digit.time * 10 + (get_or c.args.digits.now c.loop-digit.digit-index 0 - 48)) some (omega arith) (sym next ∙ c.loop-digit.invariant.value))

pub returns : goal.returns
returns c =
    let some : (length c.args.digits.now == 0) ≡ false = sym c.is_empty.ensures ∙ c.if-is_empty.false in
    let all : drop c.loop-digit.digit-index c.args.digits.now ≡ [] = drop_all c.loop-digit.digit-index c.args.digits.now c.loop-digit-test.false in
    time_is c.args.digits.now c.loop-digit.time some c.loop-digit.invariant.fits (sym (ap (number_from c.loop-digit.time) all) ∙ c.loop-digit.invariant.value)
