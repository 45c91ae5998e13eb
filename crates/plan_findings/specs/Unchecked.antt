-- What of a plan is looked at by a check.
use Rattle.std.specs.Prelude.{◌≡◌, ℕ, ◌<◌, List, Contains, length, Some, slice_get}
use Rattle.std.specs.Map.{values_of}
use Rattle.plan_core.specs.Contents.{Contents}
use Rattle.plan_core.specs.Pairs.{pairs_of}

-- a controller lists the message with this number
pub record IsListed (plan : Contents) (message : ℕ) : Type 0 where
  pub controller : ℕ
  pub messages : List ℕ
  pub here : slice_get (values_of plan.controllers) controller ≡ Some messages
  pub has : Contains messages message

-- some controller lists each message, and there is a pair
pub record IsAllChecked (plan : Contents) : Type 0 where
  pub listed : (message : ℕ) → message < length plan.messages → IsListed plan message
  pub paired : 0 < length (pairs_of plan)
