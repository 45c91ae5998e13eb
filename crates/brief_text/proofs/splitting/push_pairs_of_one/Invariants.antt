use Rattle.std.proofs.Common.{◌≡◌, ◌++◌, map, length}
use Rattle.std.specs.List.{filter}
use Rattle.brief_text.specs.Parting.{part, apart, names_of}
use Rattle.brief_text.specs.Splitting.{are_of_one, pairs_among}
use Rattle.brief_text.proofs.splitting.push_pairs_of_one.Given as goal

-- the pairs so far, and those that are left, are all
abbrev pub invariant-loop-left : goal.invariant-loop-left
invariant-loop-left l =
    map apart l.pairs.items ++ map names_of (filter are_of_one (pairs_among (map part l.left)))
    ≡ map apart l.initial.pairs.items ++ map names_of (filter are_of_one (pairs_among (map part l.all)))

abbrev pub decreases-loop-left : goal.decreases-loop-left
decreases-loop-left l = length l.left
