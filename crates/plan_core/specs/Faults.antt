-- Where the bus is undefined (UM10204, 3.1.8), and the plans that never get there.
use Rattle.std.specs.Prelude.{◌≡◌, ℕ, ◌<◌, List}
use Rattle.message_tree.specs.declared.items.Item.{Item}
use Rattle.message_tree.specs.declared.items.Kind.{Kind}
use Rattle.message_tree.specs.Items.{kind_of, KindsClash}
use Rattle.plan_core.specs.Contents.{Contents}
use Rattle.plan_core.specs.Lawful.{Set, In, IsLawful}
use Rattle.plan_core.specs.Rounds.{Offers}
use Rattle.plan_core.specs.Runs.{Reaches}

-- p may put an item of this kind after u
abbrev pub OffersKind : Contents → ℕ → List Item → Kind → Type 0
OffersKind plan p u k = (x : Item) × Offers plan p u x × (kind_of x ≡ k)

-- Those in s have reached the wire u with x and y both live, x may put an item of kind j there and y one of kind k, and
-- these two must not meet.
pub record Fault (plan : Contents) (s : Set) (u : List Item) (x y : ℕ) (j k : Kind) : Type 0 where
  pub live : Set
  pub reached : Reaches plan s u live
  pub in_order : x < y
  pub first : In x live
  pub second : In y live
  pub first_offers : OffersKind plan x u j
  pub second_offers : OffersKind plan y u k
  pub clash : KindsClash j k

abbrev pub IsFaulty : Contents → Set → Type 0
IsFaulty plan s = (u : List Item) × (x : ℕ) × (y : ℕ) × (j : Kind) × (k : Kind) × Fault plan s u x y j k

-- no lawful set ever gets to a fault
abbrev pub IsSafe : Contents → Type 0
IsSafe plan = (s : Set) → IsLawful plan s → IsFaulty plan s → ⊥
