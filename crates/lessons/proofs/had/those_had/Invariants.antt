use Rattle.std.proofs.Common.{◌≡◌, filter, map, take}
use Rattle.lessons.specs.Paths.{is_had}
use Rattle.lessons.proofs.had.those_had.Given as goal

-- those so far that the message has
abbrev pub invariant-loop-number : goal.invariant-loop-number
invariant-loop-number l =
    l.kept.items ≡ filter (is_had l.nodes (map (λ path. path.now) l.paths)) (take l.number-index l.numbers)
