use Rattle.std.proofs.Common.{ap, sym, ◌∙◌}
use Rattle.std.specs.List.{list_all}
use Rattle.std.proofs.lemmas.List.{take_all}
use Rattle.message_tree.specs.Bits.{bits_below}
use Rattle.plan_text.specs.Words.{is_bit}
use Rattle.plan_text.proofs.WordLemmas.{bits_more, next_fits, all_bits}
use Rattle.plan_text.proofs.words.bits.Goals as goal

pub loop-byte-preserved : goal.loop-byte-preserved
loop-byte-preserved c = record {
  known = next_fits _ _ _ c.loop-byte.invariant.known c.in_ok-last.ensures.known;
  value = next_fits _ _ _ c.loop-byte.invariant.value c.in_ok-last.ensures.value;
  bits = bits_more _ _ _ _ _ _ c.loop-byte-test.true c.in_ok-last.ensures.known c.in_ok-last.ensures.value c.in_ok-last.ensures.bit c.loop-byte.invariant.bits;
}

pub returns-clause-form : goal.returns-clause-form
returns-clause-form c =
    let whole = take_all c.loop-byte.byte-index c.args.word.now c.loop-byte-test.false in
    sym (ap (list_all is_bit) (sym whole) ∙ ap (list_all is_bit) (sym c.loop-byte.invariant.bits) ∙ all_bits (bits_below c.loop-byte.byte-index c.loop-byte.bits.known c.loop-byte.bits.value))
