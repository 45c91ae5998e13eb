use Rattle.std.proofs.Common.{◌≡◌, ℕ, Some, String, Global, length, slice_get, string_bytes}
use Rattle.plan_core.specs.Labels.{label_of}
use Rattle.plan_core.specs.PlanContents.{plan_contents}
use Rattle.order.proofs.lines.labels_of.Given as goal

abbrev pub invariant-loop-p : goal.invariant-loop-p
invariant-loop-p l = record {
  count : length l.labels.items ≡ l.p;
  each : (p : ℕ) (label : String Global) → slice_get l.labels.items p ≡ Some label → string_bytes label ≡ label_of (plan_contents l.plan) p;
}
