-- Values by their names.
use Rattle.std.proofs.Common.{◌≡◌, ℕ, Bool, List, [], ◌∷◌, map, Some, cond, refl, ap}
use Rattle.std.specs.Map.{lookup}
use Rattle.plan_core.specs.NameBytes.{name_bytes}
use Rattle.plan_core.specs.declared.names.Name.{Name}

module _ {A : Type 0} where
  abbrev pub seen : Name × A → List ℕ × A
  seen entry = (name_bytes entry.0, entry.1)

  pub lookup_seen : (test : List ℕ → Bool) (entries : List (Name × A)) → lookup test (map seen entries) ≡ lookup (λ name. test (name_bytes name)) entries
  lookup_seen test [] = refl
  lookup_seen test (entry ∷ entries) = ap (cond (test (name_bytes entry.0)) (Some entry.1)) (lookup_seen test entries)
