use Rattle.std.proofs.Common.{◌≡◌, [], ◌∷◌, map, take}
use Rattle.std.specs.Prelude.{if◌then◌else◌}
use Rattle.std.specs.List.{flat_map}
use Rattle.std.specs.Str.{bytes_eq}
use Rattle.plan_core.specs.NameBytes.{name_bytes}
use Rattle.std.specs.Prelude.{not}
use Rattle.std.specs.List.{list_any}
use Rattle.brief_text.proofs.splitting.all_but.Given as goal

abbrev pub invariant-loop-name : goal.invariant-loop-name
invariant-loop-name l =
    map name_bytes l.left.items
    ≡ flat_map (λ it. if not (list_any (λ other. bytes_eq other (name_bytes it)) (map name_bytes l.others)) then name_bytes it ∷ [] else []) (take l.name-index l.names)
