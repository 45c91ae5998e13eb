use Rattle.std.proofs.Common.{sym, ◌∙◌, refl}
use Rattle.message_tree.specs.declared.bits.Bit.TheVariants.{Zero}
use Rattle.spellings.specs.Spelling.{is_open}
use Rattle.spellings.proofs.WritingLemmas.{all_here, none_here}
use Rattle.spellings.proofs.writing.are_open.Goals as goal

pub returns-then-not-is_open : goal.returns-then-not-is_open
returns-then-not-is_open c = none_here c.args.bits.now c.loop-bit.bit-index Zero _ c.loop-bit-test.true refl is_open _ c.loop-bit.invariant (sym c.is_open.ensures ∙ c.if-not-is_open.true)

pub loop-bit-preserved : goal.loop-bit-preserved
loop-bit-preserved c = all_here c.args.bits.now c.loop-bit.bit-index Zero _ c.loop-bit-test.true refl is_open _ c.loop-bit.invariant (sym c.is_open.ensures ∙ c.if-not-is_open.false)
