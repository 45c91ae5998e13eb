-- The faults of a pair that starts alone (UM10204, 3.1.8): any of them, not only the first.
use Rattle.std.specs.Prelude.{◌≡◌, ℕ, List, Some, slice_get}
use Rattle.message_tree.specs.declared.items.Item.{Item}
use Rattle.message_tree.specs.declared.items.Kind.{Kind}
use Rattle.plan_core.specs.Contents.{Contents}
use Rattle.plan_core.specs.Faults.{Fault}
use Rattle.plan_core.specs.Lawful.{pair}
use Rattle.plan_core.specs.Pairs.{pairs_of}

-- the two participants of the pair with number i, alone, may put items of these kinds after u, and these must not meet
pub record IsPairFault (plan : Contents) (i : ℕ) (u : List Item) (j k : Kind) : Type 0 where
  pub x : ℕ
  pub y : ℕ
  pub listed : slice_get (pairs_of plan) i ≡ Some (x, y)
  pub fault : Fault plan (pair x y) u x y j k
