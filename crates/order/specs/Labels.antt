-- The labels of a plan's participants, as they are kept.
-- Only private contracts and proofs use this.
use Rattle.std.specs.Prelude.{◌≡◌, ℕ, Some, List, String, length, slice_get, string_bytes}
use Rattle.std.specs.declared.alloc.Global.{Global}
use Rattle.plan_core.specs.Contents.{Contents}
use Rattle.plan_core.specs.Labels.{label_of}
use Rattle.plan_core.specs.Participants.{participant_count}

pub record AreLabels (plan : Contents) (labels : List (String Global)) : Type 0 where
  pub all : length labels ≡ participant_count plan
  pub each : (p : ℕ) (label : String Global) → slice_get labels p ≡ Some label → string_bytes label ≡ label_of plan p
