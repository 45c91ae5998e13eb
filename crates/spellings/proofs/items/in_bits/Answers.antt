use Rattle.std.proofs.Common.{◌<◌, [], ◌∷◌, ◌++◌, map, take, string_bytes, arith, subst, sym, ap, ◌∙◌, append-nil}
use Rattle.std.proofs.lemmas.Option.{slice_get-get_or}
use Rattle.message_tree.specs.declared.bits.Bit.TheVariants.{Zero}
use Rattle.plan_text.specs.Symbols.{bit_symbol}
use Rattle.spellings.proofs.Adding.{bits_after, bits_more, symbol_ascii}
use Rattle.spellings.proofs.items.in_bits.Goals as goal

pub loop-bit-preserved : goal.loop-bit-preserved
loop-bit-preserved c =
    let ascii = c.in_ok-push.ensures.ascii (subst (λ n. n < 128) (sym c.symbol.ensures) (symbol_ascii _)) in
    let more = c.in_ok-push.ensures.bytes ∙ ap (λ l. string_bytes c.loop-bit.text ++ l) (ascii ∙ ap (λ n. n ∷ []) c.symbol.ensures) in
    bits_more _ _ _ c.args.bits.now c.loop-bit.bit-index _ (slice_get-get_or c.args.bits.now c.loop-bit.bit-index Zero c.loop-bit-test.true) c.loop-bit.invariant more

pub returns : goal.returns
returns c =
    let front = c.in_ok-word.ensures ∙ ap (λ l. string_bytes c.args.text.now ++ l) (append-nil (32 ∷ c.args.front.now)) in
    bits_after c.args.front.now _ _ c.args.bits.now c.loop-bit.bit-index (omega arith) (c.loop-bit.invariant ∙ ap (λ l. l ++ map bit_symbol (take c.loop-bit.bit-index c.args.bits.now)) front)
