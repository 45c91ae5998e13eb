use Rattle.std.proofs.Common.{◌≡◌, drop, map}
use Rattle.std.specs.Map.{lookup}
use Rattle.std.specs.Str.{bytes_eq}
use Rattle.plan_core.specs.NameBytes.{name_bytes}
use Rattle.brief_text.specs.Standing.{naming}
use Rattle.brief_text.proofs.groups.listed.Given as goal

-- none before it has the name
abbrev pub invariant-loop-list : goal.invariant-loop-list
invariant-loop-list l =
    lookup (bytes_eq (name_bytes l.name)) (map naming (drop l.list-index l.lists)) ≡ lookup (bytes_eq (name_bytes l.name)) (map naming l.lists)
