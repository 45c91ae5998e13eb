-- Whether a pair is the next one that is listed.
-- Only private contracts and proofs use this.
use Rattle.std.specs.Prelude.{ℕ, Bool, false, ◌==◌, List, [], ◌∷◌}
use Rattle.certificate.specs.declared.values.Fault.{Fault}

abbrev pub is_first : List (ℕ × Fault) → ℕ → Bool
is_first [] pair = false
is_first (f ∷ faults) pair = f.0 == pair
