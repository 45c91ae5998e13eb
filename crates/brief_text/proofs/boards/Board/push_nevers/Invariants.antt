use Rattle.std.proofs.Common.{◌≡◌, ◌++◌, map, take}
use Rattle.std.specs.List.{flat_map}
use Rattle.brief_text.specs.Parting.{apart, names_of}
use Rattle.brief_text.specs.Splitting.{pairs_meant}
use Rattle.brief_text.specs.Standing.{draft, sides}
use Rattle.brief_text.proofs.boards.Board.push_nevers.Given as goal

abbrev pub invariant-loop-never : goal.invariant-loop-never
invariant-loop-never l =
    map apart l.pairs.items
    ≡ map apart l.initial.pairs.items ++ flat_map (λ it. map names_of (pairs_meant (draft l.self) (sides it))) (take l.never-index l.never-items)
