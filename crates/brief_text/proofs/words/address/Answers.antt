use Rattle.std.proofs.Common.{refl, sym, ◌∙◌, ◌<◌, ◌⊎◌, inl, inr, arith}
use Rattle.brief_text.proofs.WordLemmas.{address_missing, address_base_2, address_base_16, address_result, seven_one, seven_known}
use Rattle.brief_text.proofs.words.address.Goals as goal
use Rattle.brief_text.proofs.words.address.Goals.{else-bits-ge128-via-then-bits-ge128+else-bits-ge128-2, else-bits-ge128-via-else-bits-ge128}

pub returns-in-Some : goal.returns-in-Some
returns-in-Some c = address_result c.address.result c.in-Some.bits.now c.address.ensures.form c.address.ensures.bits ∙ sym (address_base_2 c.args.word.now c.in-Some.bits.now c.in-Some.ensures)

pub returns-in_err-digits : goal.returns-in_err-digits
returns-in_err-digits c = rw c.from_residual.ensures (sym (address_missing c.args.word.now c.in_default.ensures c.in_err-digits.ensures))

pub returns-in_err-bits : goal.returns-in_err-bits
returns-in_err-bits c = rw c.from_residual-in_err-bits.ensures (sym (address_base_16 c.args.word.now c.in_ok-digits.digits.now c.in_ok-digits.ensures ∙ rw c.in_err-bits.ensures.bits refl))

pub returns-then-bits-ge128-2 : goal.returns-then-bits-ge128-2
returns-then-bits-ge128-2 c =
    sym (address_base_16 c.args.word.now c.in_ok-digits.digits.now c.in_ok-digits.ensures
    ∙ seven_one _ c.in_ok-bits.bits.known c.in_ok-bits.bits.value c.in_ok-bits.ensures.bits c.if-bits-ge128.true c.in_ok-bits.ensures.known c.if-bits-ge128-2.true c.in_ok-bits.ensures.value)

pub returns : goal.returns
returns c =
    let low : (c.in_ok-bits.bits.known < 128) ⊎ (c.in_ok-bits.bits.value < 128) = elim c.else-bits-ge128.branch [ else-bits-ge128-via-then-bits-ge128+else-bits-ge128-2 w ↦ inr (omega (arith, w.if-bits-ge128-2.false)) | else-bits-ge128-via-else-bits-ge128 w ↦ inl (omega (arith, w.if-bits-ge128.false)) ] in
    sym (address_base_16 c.args.word.now c.in_ok-digits.digits.now c.in_ok-digits.ensures ∙ seven_known _ c.in_ok-bits.bits.known c.in_ok-bits.bits.value c.new.result c.in_ok-bits.ensures.bits low c.new.ensures)
