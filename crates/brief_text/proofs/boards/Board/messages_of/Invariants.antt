use Rattle.std.proofs.Common.{◌≡◌, [], ◌∷◌, map, take}
use Rattle.std.specs.Prelude.{if◌then◌else◌}
use Rattle.std.specs.List.{flat_map}
use Rattle.plan_core.specs.NameBytes.{name_bytes}
use Rattle.brief_text.specs.Splitting.{is_in_part, labels_of}
use Rattle.brief_text.specs.Standing.{draft, side}
use Rattle.brief_text.proofs.boards.Board.messages_of.Given as goal

abbrev pub invariant-loop-message : goal.invariant-loop-message
invariant-loop-message l =
    map name_bytes l.messages.items
    ≡ flat_map (λ it. if is_in_part (draft l.self) (labels_of (draft l.self) (side l.label).controller) (side l.label) (name_bytes it) then name_bytes it ∷ [] else []) (take l.message-index l.listed)
