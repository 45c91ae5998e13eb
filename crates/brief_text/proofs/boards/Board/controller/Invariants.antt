use Rattle.std.proofs.Common.{◌≡◌, drop, map}
use Rattle.std.specs.Map.{lookup}
use Rattle.std.specs.Str.{bytes_eq}
use Rattle.plan_core.specs.NameBytes.{name_bytes}
use Rattle.brief_text.specs.Standing.{listing}
use Rattle.brief_text.proofs.boards.Board.controller.Given as goal

-- none before it has the name
abbrev pub invariant-loop-controller : goal.invariant-loop-controller
invariant-loop-controller l =
    lookup (bytes_eq (name_bytes l.name)) (map listing (drop l.controller-index l.self.controllers.items)) ≡ lookup (bytes_eq (name_bytes l.name)) (map listing l.self.controllers.items)
