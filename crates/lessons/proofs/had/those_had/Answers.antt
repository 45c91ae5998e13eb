use Rattle.std.proofs.Common.{rules, arith, filter, map, take, ap, ◌∙◌}
use Rattle.std.proofs.lemmas.List.{take_all, append-nil}
use Rattle.std.proofs.lemmas.List.Elements.{filter_more}
use Rattle.lessons.specs.Paths.{is_had}
use Rattle.lessons.proofs.had.those_had.Goals as goal
use Rattle.lessons.proofs.had.those_had.Goals.{then-is_had+in_ok-push, else-is_had}

pub loop-number-preserved : goal.loop-number-preserved
loop-number-preserved c =
    let p = is_had c.args.nodes.now (map (λ path. path.now) c.args.paths.now) in
    let more = filter_more p c.args.numbers.now c.loop-number.number-index 0 c.loop-number-test.true in
    elim c.if-is_had.branch [
      | then-is_had+in_ok-push w ↦ grind (arith, more, append-nil)
      | else-is_had w ↦ grind (arith, more, append-nil)
    ]

pub returns : goal.returns
returns c =
    c.loop-number.invariant
    ∙ ap (filter (is_had c.args.nodes.now (map (λ path. path.now) c.args.paths.now)))
    (take_all c.loop-number.number-index c.args.numbers.now c.loop-number-test.false)
