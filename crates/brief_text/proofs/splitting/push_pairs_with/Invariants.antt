use Rattle.std.proofs.Common.{◌≡◌, [], ◌∷◌, ◌++◌, map, take}
use Rattle.std.specs.List.{flat_map}
use Rattle.plan_core.specs.NameBytes.{name_bytes}
use Rattle.brief_text.specs.Parting.{apart}
use Rattle.brief_text.proofs.splitting.push_pairs_with.Given as goal

abbrev pub invariant-loop-second : goal.invariant-loop-second
invariant-loop-second l =
    map apart l.pairs.items
    ≡ map apart l.initial.pairs.items ++ flat_map (λ it. (name_bytes l.first, name_bytes it) ∷ []) (take l.second-index l.seconds)
