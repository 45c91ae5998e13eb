use Rattle.std.proofs.Common.{◌<◌, ◌+◌, sym, ap, ◌∙◌, arith}
use Rattle.brief_text.specs.Choices.{allows_all}
use Rattle.brief_text.specs.Standing.{choice_of}
use Rattle.brief_text.proofs.BlockStepLemmas.{half_power, one_block, zero_blocks, both_counts}
use Rattle.brief_text.proofs.syntax.Choice.+count.Goals as goal

pub count-requires : goal.count-requires
count-requires t c =
    let some : 0 < c.args.power = omega (arith, c.if-power-eq0.false) in
    let half = half_power c.args.power some in
    (omega (arith, some, c.decreases), (omega (arith, c.requires.power), omega (arith, c.requires.values, half)))

pub count-requires-else-power-eq0 : goal.count-requires-else-power-eq0
count-requires-else-power-eq0 t c =
    let some : 0 < c.args.power = omega (arith, c.if-power-eq0.false) in
    let half = half_power c.args.power some in
    (omega (arith, some, c.decreases), (omega (arith, c.requires.power), omega (arith, c.requires.values, c.size-else-power-eq0.ensures, half)))

pub returns-then-allows_all-clause-count : goal.returns-then-allows_all-clause-count
returns-then-allows_all-clause-count t c =
    let choice = choice_of c.args.self in
    one_block choice c.args.power c.args.first (sym (c.allows_all.ensures ∙ ap (allows_all choice c.args.first) c.size.ensures) ∙ c.if-allows_all.true)

pub returns-then-power-eq0-clause-count : goal.returns-then-power-eq0-clause-count
returns-then-power-eq0-clause-count t c =
    let choice = choice_of c.args.self in
    zero_blocks choice c.args.power c.args.first (sym (c.allows_all.ensures ∙ ap (allows_all choice c.args.first) c.size.ensures) ∙ c.if-allows_all.false) (omega (arith, c.if-power-eq0.true))

pub returns-else-power-eq0-clause-count : goal.returns-else-power-eq0-clause-count
returns-else-power-eq0-clause-count t c =
    let choice = choice_of c.args.self in
    both_counts choice c.args.power c.args.first (sym (c.allows_all.ensures ∙ ap (allows_all choice c.args.first) c.size.ensures) ∙ c.if-allows_all.false) (omega (arith, c.if-power-eq0.false))
    (c.args.first + c.size-else-power-eq0.result) (ap (λ k. c.args.first + k) c.size-else-power-eq0.ensures) c.count.result c.count-else-power-eq0.result c.count.ensures.count c.count-else-power-eq0.ensures.count

pub returns-else-power-eq0-clause-small : goal.returns-else-power-eq0-clause-small
returns-else-power-eq0-clause-small t c =
    let half = half_power c.args.power (omega (arith, c.if-power-eq0.false)) in
    omega (arith, half, c.count.ensures.small, c.count-else-power-eq0.ensures.small)
