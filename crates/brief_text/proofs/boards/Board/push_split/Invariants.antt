use Rattle.std.proofs.Common.{◌≡◌, [], ◌∷◌, ◌++◌, map, take}
use Rattle.std.specs.Prelude.{if◌then◌else◌}
use Rattle.std.specs.List.{filter, flat_map}
use Rattle.std.specs.Str.{bytes_eq}
use Rattle.brief_text.specs.Parting.{part}
use Rattle.brief_text.specs.Splitting.{labels_of, label_part, sends_any}
use Rattle.brief_text.specs.Standing.{draft, listing, side}
use Rattle.brief_text.proofs.boards.Board.push_split.Given as goal

abbrev pub invariant-loop-label : goal.invariant-loop-label
invariant-loop-label l =
    map part l.parts.items
    ≡ map part l.initial.parts.items
    ++ flat_map (λ it. if bytes_eq (side it).controller (listing l.controller).0 then filter sends_any (label_part (draft l.self) (labels_of (draft l.self) (listing l.controller).0) (listing l.controller).1 (side it) ∷ []) else [])
    (take l.label-index l.label-items)
