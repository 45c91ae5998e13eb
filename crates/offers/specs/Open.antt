-- Which groups are open: one of their pairs is left. Only private contracts use this.
use Rattle.std.specs.Prelude.{◌≡◌, ℕ, Bool, true, false, List, Some, slice_get}

-- this group is there, and not open
abbrev pub IsClosed : List Bool → ℕ → Type 0
IsClosed flags g = slice_get flags g ≡ Some false

-- no group is closed of which a pair is left
abbrev pub AreOpen : List ℕ → List Bool → List Bool → Type 0
AreOpen numbers left flags = (k g : ℕ) → slice_get numbers k ≡ Some g → slice_get left k ≡ Some true → IsClosed flags g → ⊥
