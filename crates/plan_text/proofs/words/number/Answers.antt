use Rattle.std.proofs.Common.{◌≡◌, ◌+◌, ap, sym, ◌∙◌, arith, is_some}
use Rattle.std.proofs.lemmas.Bool.{le-leb}
use Rattle.std.proofs.lemmas.List.{take_all}
use Rattle.plan_text.specs.Words.{number}
use Rattle.plan_text.proofs.WordLemmas.{number_more, too_large}
use Rattle.plan_text.proofs.words.number.Goals as goal

pub returns-in_err-checked_mul-clause-form : goal.returns-in_err-checked_mul-clause-form
returns-in_err-checked_mul-clause-form c =
    let next = number_more c.args.digits.now c.loop-digit.digit-index c.requires c.loop-digit-test.true in
    let large = too_large c.args.digits.now (c.loop-digit.digit-index + 1) (omega (arith, c.in_err-checked_mul.ensures)) in
    ap is_some c.from_residual.ensures ∙ sym large

pub returns-in_err-number-clause-form : goal.returns-in_err-number-clause-form
returns-in_err-number-clause-form c =
    let next = number_more c.args.digits.now c.loop-digit.digit-index c.requires c.loop-digit-test.true in
    let large = too_large c.args.digits.now (c.loop-digit.digit-index + 1) (omega (arith, c.in_err-number.ensures, c.in_ok-checked_mul.ensures, c.in_ok-checked_sub.ensures)) in
    ap is_some c.from_residual-in_err-number.ensures ∙ sym large

pub loop-digit-preserved : goal.loop-digit-preserved
loop-digit-preserved c =
    let next = number_more c.args.digits.now c.loop-digit.digit-index c.requires c.loop-digit-test.true in
    record {
      value = omega (arith, c.in_ok-number.ensures, c.in_ok-checked_mul.ensures, c.in_ok-checked_sub.ensures);
      fits = omega (arith, c.in_ok-number.ensures);
    }

pub returns-clause-form : goal.returns-clause-form
returns-clause-form c =
    let value : c.loop-digit.number ≡ number c.args.digits.now = c.loop-digit.invariant.value ∙ ap number (take_all c.loop-digit.digit-index c.args.digits.now c.loop-digit-test.false) in
    sym (le-leb (number c.args.digits.now) 255 (omega (arith, value, c.loop-digit.invariant.fits)))
