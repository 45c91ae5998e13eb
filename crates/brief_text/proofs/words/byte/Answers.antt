use Rattle.std.proofs.Common.{◌∙◌}
use Rattle.brief_text.proofs.WordLemmas.{hex_two, both_known}
use Rattle.brief_text.proofs.words.byte.Goals as goal

pub returns-clause-bits : goal.returns-clause-bits
returns-clause-bits c =
    hex_two c.args.digits.now c.in-len2.len_at_least c.in-len2.len_below
    ∙ both_known _ _ c.in_ok-high.high.known c.in_ok-low.low.known c.in_ok-high.high.value c.in_ok-low.low.value c.in_ok-high.ensures.bits c.in_ok-low.ensures.bits c.in_ok-low.ensures.known c.in_ok-low.ensures.value
