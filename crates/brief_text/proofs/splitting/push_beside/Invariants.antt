use Rattle.std.proofs.Common.{◌≡◌, [], ◌∷◌, ◌++◌, map, take}
use Rattle.std.specs.Prelude.{if◌then◌else◌}
use Rattle.std.specs.List.{flat_map}
use Rattle.brief_text.specs.Parting.{part, apart, names_of}
use Rattle.brief_text.specs.Splitting.{are_of_one}
use Rattle.brief_text.proofs.splitting.push_beside.Given as goal

abbrev pub invariant-loop-second : goal.invariant-loop-second
invariant-loop-second l =
    map apart l.pairs.items
    ≡ map apart l.initial.pairs.items ++ flat_map (λ it. if are_of_one (part l.first, part it) then names_of (part l.first, part it) ∷ [] else []) (take l.second-index l.others)
