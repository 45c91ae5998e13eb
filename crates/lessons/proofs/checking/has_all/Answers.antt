use Rattle.std.proofs.Common.{◌≡◌, ◌<◌, ◌≤◌, ◌∙◌, true, length, arith}
use Rattle.lessons.specs.Lessons.{is_marked}
use Rattle.lessons.proofs.MarkLemmas.{pass, none_left}
use Rattle.lessons.proofs.checking.has_all.Goals as goal

pub loop-number-preserved : goal.loop-number-preserved
loop-number-preserved c =
    let is : is_marked c.args.had.now c.loop-number.number ≡ true = cc in
    let within : c.loop-number.number < length c.args.sights.now = omega arith in
    c.loop-number.invariant ∙ pass c.args.had.now c.args.sights.now c.loop-number.number is within

pub returns : goal.returns
returns c = λ e.
    let past : length c.args.sights.now ≤ c.loop-number.number = omega arith in
    c.loop-number.invariant ∙ none_left c.args.had.now c.args.sights.now c.loop-number.number past
