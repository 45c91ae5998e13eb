use Rattle.std.proofs.Common.{◌≡◌, [], ◌∷◌, map, take}
use Rattle.std.specs.List.{flat_map}
use Rattle.plan_core.specs.NameBytes.{name_bytes}
use Rattle.brief_text.specs.Drafts.{device_name}
use Rattle.brief_text.proofs.boards.Board.device_names.Given as goal

abbrev pub invariant-loop-device : goal.invariant-loop-device
invariant-loop-device l = map name_bytes l.names.items ≡ flat_map (λ it. device_name (name_bytes l.name) (name_bytes it) ∷ []) (take l.device-index l.devices)
