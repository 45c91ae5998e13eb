use Rattle.std.proofs.Common.{refl, sym, ◌∙◌}
use Rattle.brief_text.proofs.WordLemmas.{data_none, data_base_2, data_base_16, pattern_result, eight_known}
use Rattle.brief_text.proofs.words.data.Goals as goal

pub returns-in-Some : goal.returns-in-Some
returns-in-Some c = pattern_result c.pattern.result c.in-Some.bits.now c.pattern.ensures.form c.pattern.ensures.bits ∙ sym (data_base_2 c.args.word.now c.in-Some.bits.now c.in-Some.ensures)

pub returns-in_err-digits : goal.returns-in_err-digits
returns-in_err-digits c = rw c.from_residual.ensures (sym (data_none c.args.word.now c.in_default.ensures c.in_err-digits.ensures))

pub returns-in_err-bits : goal.returns-in_err-bits
returns-in_err-bits c = rw c.from_residual-in_err-bits.ensures (sym (data_base_16 c.args.word.now c.in_ok-digits.digits.now c.in_ok-digits.ensures ∙ rw c.in_err-bits.ensures.bits refl))

pub returns : goal.returns
returns c = sym (data_base_16 c.args.word.now c.in_ok-digits.digits.now c.in_ok-digits.ensures ∙ eight_known _ c.in_ok-bits.bits.known c.in_ok-bits.bits.value c.new.result c.in_ok-bits.ensures.bits c.new.ensures)
