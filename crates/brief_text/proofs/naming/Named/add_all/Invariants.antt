use Rattle.std.proofs.Common.{◌≡◌, [], ◌∷◌, ◌++◌, take}
use Rattle.std.specs.List.{flat_map}
use Rattle.plan_core.specs.NameBytes.{name_bytes}
use Rattle.brief_text.specs.Standing.{entries_of}
use Rattle.brief_text.proofs.naming.Named.add_all.Given as goal

abbrev pub invariant-loop-name : goal.invariant-loop-name
invariant-loop-name t l = entries_of l.self ≡ entries_of l.initial.self ++ flat_map (λ it. (name_bytes it, l.value) ∷ []) (take l.name-index l.names)
