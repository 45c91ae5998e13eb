use Rattle.std.proofs.Common.{◌≡◌, ◌++◌, map, take}
use Rattle.std.specs.List.{flat_map}
use Rattle.plan_core.specs.NameBytes.{name_bytes}
use Rattle.brief_text.specs.Parting.{apart}
use Rattle.brief_text.proofs.splitting.push_pairs_between.Given as goal

abbrev pub invariant-loop-first : goal.invariant-loop-first
invariant-loop-first l =
    map apart l.pairs.items
    ≡ map apart l.initial.pairs.items ++ flat_map (λ it. map (λ second. (name_bytes it, second)) (map name_bytes l.seconds)) (take l.first-index l.firsts)
