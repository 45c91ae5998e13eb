use Rattle.std.proofs.Common.{◌<◌, ◌+◌, ◌-◌, sym, ap, ◌∙◌, arith}
use Rattle.message_tree.specs.Bits.{bits_below}
use Rattle.brief_text.specs.Choices.{allows_all}
use Rattle.brief_text.specs.Codes.{byte_of}
use Rattle.brief_text.specs.Standing.{choice_of}
use Rattle.brief_text.proofs.BlockStepLemmas.{half_power, at_block, past_block, at_none, in_left, in_right}
use Rattle.brief_text.proofs.WordLemmas.{byte_is}
use Rattle.brief_text.proofs.syntax.Choice.+block.Goals as goal

pub count-count-requires-clause-values : goal.count-count-requires-clause-values
count-count-requires-clause-values t c =
    let half = half_power c.args.power (omega (arith, c.if-power-eq0.false)) in
    omega (arith, c.requires.values, half)

pub block-requires : goal.block-requires
block-requires t c =
    let some : 0 < c.args.power = omega (arith, c.if-power-eq0.false) in
    let half = half_power c.args.power some in
    (omega (arith, some, c.decreases), (omega (arith, c.requires.power), omega (arith, c.requires.values, half)))

pub block-requires-else-before-count : goal.block-requires-else-before-count
block-requires-else-before-count t c =
    let some : 0 < c.args.power = omega (arith, c.if-power-eq0.false) in
    let half = half_power c.args.power some in
    (omega (arith, some, c.decreases), (omega (arith, c.requires.power), omega (arith, c.requires.values, c.size-else-power-eq0.ensures, half)))

pub returns-then-before-eq0 : goal.returns-then-before-eq0
returns-then-before-eq0 t c =
    let choice = choice_of c.args.self in
    let bits = byte_is c.new.result (bits_below 8 (256 - c.size-then-before-eq0.result) c.args.first) c.new.ensures ∙ ap (λ k. byte_of (bits_below 8 (256 - k) c.args.first)) c.size-then-before-eq0.ensures in
    at_block choice c.args.power c.args.first (sym (c.allows_all.ensures ∙ ap (allows_all choice c.args.first) c.size.ensures) ∙ c.if-allows_all.true) c.args.before c.new.result (omega (arith, c.if-before-eq0.true)) bits

pub returns-else-before-eq0 : goal.returns-else-before-eq0
returns-else-before-eq0 t c =
    let choice = choice_of c.args.self in
    past_block choice c.args.power c.args.first (sym (c.allows_all.ensures ∙ ap (allows_all choice c.args.first) c.size.ensures) ∙ c.if-allows_all.true) c.args.before (omega (arith, c.if-before-eq0.false))

pub returns-then-power-eq0 : goal.returns-then-power-eq0
returns-then-power-eq0 t c =
    let choice = choice_of c.args.self in
    at_none choice c.args.power c.args.first (sym (c.allows_all.ensures ∙ ap (allows_all choice c.args.first) c.size.ensures) ∙ c.if-allows_all.false) c.args.before (omega (arith, c.if-power-eq0.true))

pub returns-then-before-count : goal.returns-then-before-count
returns-then-before-count t c =
    let choice = choice_of c.args.self in
    in_left choice c.args.power c.args.first (sym (c.allows_all.ensures ∙ ap (allows_all choice c.args.first) c.size.ensures) ∙ c.if-allows_all.false) (omega (arith, c.if-power-eq0.false))
    (c.args.first + c.size-else-power-eq0.result) (ap (λ k. c.args.first + k) c.size-else-power-eq0.ensures) c.args.before c.count-count.result c.block.result c.count-count.ensures.count (omega (arith, c.if-before-count.true)) c.block.ensures

pub returns-else-before-count : goal.returns-else-before-count
returns-else-before-count t c =
    let choice = choice_of c.args.self in
    in_right choice c.args.power c.args.first (sym (c.allows_all.ensures ∙ ap (allows_all choice c.args.first) c.size.ensures) ∙ c.if-allows_all.false) (omega (arith, c.if-power-eq0.false))
    (c.args.first + c.size-else-power-eq0.result) (ap (λ k. c.args.first + k) c.size-else-power-eq0.ensures) c.args.before c.count-count.result c.block-else-before-count.result c.count-count.ensures.count (omega (arith, c.if-before-count.false)) c.block-else-before-count.ensures
