use Rattle.std.proofs.Common.{map, sym, ap, ◌∙◌}
use Rattle.std.specs.Prelude.{unwrap_or}
use Rattle.plan_text.specs.Symbols.{bit_symbol}
use Rattle.plan_text.specs.Values.{pattern_of}
use Rattle.brief_text.specs.Codes.{header_word}
use Rattle.brief_text.specs.Words.{any_byte}
use Rattle.brief_text.proofs.WordLemmas.{any_is, pattern_of_word, pattern_result}
use Rattle.brief_text.proofs.codes.header_bits.Goals as goal

pub returns-in-Some : goal.returns-in-Some
returns-in-Some c = pattern_of_word c.in-Some.bits (map bit_symbol (header_word c.args.reads c.args.to.now)) (c.in-Some.ensures.bits ∙ c.as_slice.ensures ∙ c.header_symbols-symbols.ensures)

pub returns-in-None : goal.returns-in-None
returns-in-None c =
    let none = sym c.in-None.is ∙ pattern_result c.pattern.result c.as_slice.result.now c.pattern.ensures.form c.pattern.ensures.bits ∙ ap pattern_of (c.as_slice.ensures ∙ c.header_symbols-symbols.ensures) in
    sym (any_is c.new.result c.new.ensures) ∙ ap (λ o. unwrap_or o any_byte) none
