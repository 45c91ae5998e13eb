use Rattle.std.proofs.Common.{◌≡◌, map, take}
use Rattle.std.specs.List.{flat_map}
use Rattle.plan_core.specs.NameBytes.{name_bytes}
use Rattle.brief_text.specs.Drafts.{device_meant}
use Rattle.brief_text.specs.Meanings.{message_of}
use Rattle.brief_text.specs.Standing.{draft, brief_frame}
use Rattle.brief_text.proofs.boards.Board.grouped_meant.Given as goal

abbrev pub invariant-loop-device : goal.invariant-loop-device
invariant-loop-device l =
    map message_of l.messages.items
    ≡ flat_map (λ it. device_meant (draft l.self) (name_bytes l.name) l.range (brief_frame l.frames) (name_bytes l.group) (name_bytes it)) (take l.device-index l.device-items)
