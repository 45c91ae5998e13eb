use Rattle.std.proofs.Common.{◌≡◌, [], ◌∷◌, map, take}
use Rattle.std.specs.Prelude.{if◌then◌else◌}
use Rattle.std.specs.List.{flat_map}
use Rattle.plan_core.specs.NameBytes.{name_bytes}
use Rattle.brief_text.specs.Parting.{part}
use Rattle.brief_text.specs.Splitting.{side_means, part_name}
use Rattle.brief_text.specs.Standing.{draft, side}
use Rattle.brief_text.proofs.boards.Board.names_meant.Given as goal

abbrev pub invariant-loop-part : goal.invariant-loop-part
invariant-loop-part l =
    map name_bytes l.names.items
    ≡ flat_map (λ it. if side_means (draft l.self) (side l.party) (part it) then part_name (part it) ∷ [] else []) (take l.part-index l.all)
