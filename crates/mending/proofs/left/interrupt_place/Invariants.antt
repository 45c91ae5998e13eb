use Rattle.std.proofs.Common.{◌≡◌, ℕ, ◌<◌, Some, slice_get}
use Rattle.std.specs.Map.{keys_of}
use Rattle.plan_core.specs.NameBytes.{name_bytes}
use Rattle.plan_core.specs.PlanContents.{plan_contents}
use Rattle.mending.proofs.left.interrupt_place.Given as goal

-- it stands nowhere before k
abbrev pub invariant-loop-k : goal.invariant-loop-k
invariant-loop-k l = (j : ℕ) → j < l.k → slice_get (keys_of (plan_contents l.plan).interrupts) j ≡ Some (name_bytes l.name) → ⊥
