-- The ways of a pair, as they are written one after another.
-- Only private contracts and proofs use this.
use Rattle.std.specs.Prelude.{ℕ, Bool, Option, Some, None, List, [], ◌++◌, codes, if◌then◌else◌}
use Rattle.arbitration.specs.declared.spans.Slots.{Slots}
use Rattle.order.specs.Lines.{slots_text}

-- one way, with a comma before it unless it is the first
abbrev pub way_part : Bool → List ℕ → Option Slots → List ℕ
way_part is_first who None = []
way_part is_first who (Some slots) =
    (if is_first then [] else codes ", ") ++ (who ++ (codes " " ++ slots_text slots))
