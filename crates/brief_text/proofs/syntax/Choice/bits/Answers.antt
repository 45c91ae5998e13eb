use Rattle.std.proofs.Common.{sym, ap, ◌∙◌, slice_get}
use Rattle.std.specs.Prelude.{unwrap_or}
use Rattle.std.specs.Option.{option_map}
use Rattle.brief_text.specs.Choices.{blocks, block_bits}
use Rattle.brief_text.specs.Standing.{choice_of}
use Rattle.brief_text.specs.Words.{any_byte}
use Rattle.brief_text.proofs.WordLemmas.{any_is}
use Rattle.brief_text.proofs.syntax.Choice.bits.Goals as goal

pub returns-in-None : goal.returns-in-None
returns-in-None c =
    let found = c.block.ensures ∙ ap (λ k. option_map block_bits (slice_get (blocks (choice_of c.args.self)) k)) c.saturating_sub.ensures in
    sym (any_is c.new.result c.new.ensures) ∙ ap (λ o. unwrap_or o any_byte) (sym c.in-None.is ∙ found)
