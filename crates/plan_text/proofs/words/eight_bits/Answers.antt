use Rattle.std.proofs.Common.{◌≡◌, ◌<◌, ◌%◌, ◌^◌, ℕ, true, map, ap, sym, ◌∙◌, arith}
use Rattle.std.specs.List.{list_all}
use Rattle.std.proofs.lemmas.Bool.{false_from_ne_true}
use Rattle.message_tree.specs.Bits.{bits_below}
use Rattle.plan_text.specs.Symbols.{bit_symbol}
use Rattle.plan_text.specs.Words.{is_bit}
use Rattle.plan_text.proofs.EightLemmas.{seen, mask, one_lane, known_lane, bit_lane, mask_whole}
use Rattle.plan_text.proofs.words.eight_bits.Goals as goal

pub overflow_cast-result : goal.overflow_cast-result
overflow_cast-result c =
    let fits = (seen c.args.word.now c.requires).known_fits in
    let small : mask known_lane c.args.word.now % 2 ^ 64 < 2 ^ 8 = omega (arith, fits) in
    record { fits = small }

pub returns-then-bits-eq255-clause-form : goal.returns-then-bits-eq255-clause-form
returns-then-bits-eq255-clause-form c =
    sym ((seen c.args.word.now c.requires).full (mask_whole bit_lane c.args.word.now 255 c.if-bits-eq255.true))

pub returns-then-bits-eq255-clause-bits : goal.returns-then-bits-eq255-clause-bits
returns-then-bits-eq255-clause-bits c =
    let word = c.args.word.now in
    let it = seen word c.requires in
    let known : mask known_lane word % 2 ^ 64 ≡ mask known_lane word = omega (arith, it.known_fits) in
    let value : mask one_lane word % 2 ^ 64 ≡ mask one_lane word = omega (arith, it.value_fits) in
    let all : list_all is_bit word ≡ true = it.full (mask_whole bit_lane word 255 c.if-bits-eq255.true) in
    ap (λ (k : ℕ). map bit_symbol (bits_below 8 k (mask one_lane word % 2 ^ 64))) known
    ∙ ap (λ (v : ℕ). map bit_symbol (bits_below 8 (mask known_lane word) v)) value ∙ it.bits all

pub returns-else-bits-eq255-clause-form : goal.returns-else-bits-eq255-clause-form
returns-else-bits-eq255-clause-form c =
    let word = c.args.word.now in
    let it = seen word c.requires in
    sym (false_from_ne_true (list_all is_bit word) (λ all. c.if-bits-eq255.false (ap (λ (n : ℕ). n % 2 ^ 64) (it.is_full all))))
