use Rattle.std.proofs.Common.{◌≡◌, map, take}
use Rattle.std.specs.List.{flat_map}
use Rattle.brief_text.specs.Parting.{part}
use Rattle.brief_text.specs.Splitting.{parts_of}
use Rattle.brief_text.specs.Standing.{draft, listing}
use Rattle.brief_text.proofs.boards.Board.parts.Given as goal

abbrev pub invariant-loop-controller : goal.invariant-loop-controller
invariant-loop-controller l = map part l.parts.items ≡ flat_map (λ it. parts_of (draft l.self) (listing it)) (take l.controller-index l.controller-items)
