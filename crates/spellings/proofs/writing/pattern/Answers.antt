use Rattle.std.proofs.Common.{string_bytes}
use Rattle.spellings.proofs.WritingLemmas.{hex_high, hex_low, same_word}
use Rattle.spellings.proofs.writing.pattern.Goals as goal

pub returns-then-high-ne88 : goal.returns-then-high-ne88
returns-then-high-ne88 c =
    let found = c.in-Some-Some in
    same_word c.in_hex.result (string_bytes c.args.text.now) (string_bytes c.in_hex.new.text) _ _
    (hex_high c.args.it.now c.bits-bits.result c.bits-bits.ensures found.high found.low found.ensures.digit found.ensures'.digit c.if-high-ne88.true)
    c.in_hex.ensures

pub returns-then-low-ne88 : goal.returns-then-low-ne88
returns-then-low-ne88 c =
    let found = c.in-Some-Some in
    same_word c.in_hex-then-low-ne88.result (string_bytes c.args.text.now) (string_bytes c.in_hex-then-low-ne88.new.text) _ _
    (hex_low c.args.it.now c.bits-bits.result c.bits-bits.ensures found.high found.low found.ensures.digit found.ensures'.digit c.if-low-ne88.true)
    c.in_hex-then-low-ne88.ensures
