-- What holds of every plan: that pairs suffice, and that the runs of a safe plan go on to their end.
use Rattle.std.specs.Prelude.{◌≡◌, ◌≢◌, ℕ, ◌<◌, ◌≤◌, List, [], ◌∷◌, length, All}
use Rattle.message_tree.specs.declared.items.Item.{Item}
use Rattle.message_tree.specs.declared.items.Item.TheVariants.{Claim}
use Rattle.message_tree.specs.declared.items.Kind.{Kind}
use Rattle.message_tree.specs.Items.{KindsClash}
use Rattle.message_tree.specs.Sizes.{frame_bytes}
use Rattle.plan_core.specs.declared.limits.TheConstants.{MOST_BYTES}
use Rattle.plan_core.specs.Contents.{Contents}
use Rattle.plan_core.specs.Lawful.{Set, In, pair}
use Rattle.plan_core.specs.Rounds.{IsSlot, IsWire}
use Rattle.plan_core.specs.Runs.{Reaches}
use Rattle.plan_core.specs.Faults.{OffersKind}

-- the numbers of messages that controllers send are those of messages
abbrev pub SendsItsMessages : Contents → Type 0
SendsItsMessages plan = All (λ controller. All (λ m. m < length plan.messages) controller.1) plan.controllers

-- no path of a message has more bytes than it may have
abbrev pub HasShortMessages : Contents → Type 0
HasShortMessages plan = All (λ message. frame_bytes message.1 ≤ MOST_BYTES) plan.messages

-- no interrupt has claimed
abbrev pub NoClaim : List Item → Type 0
NoClaim [] = Unit {0}
NoClaim (x ∷ u) = (x ≢ Claim) × NoClaim u

-- x and y are both live in the run of the two alone, when the wire has been u
abbrev pub BothLive : Contents → ℕ → ℕ → List Item → Type 0
BothLive plan x y u = (live : Set) × Reaches plan (pair x y) u live × In x live × In y live

-- after u, x may put an item of kind j and y one of kind k, and these must not meet
abbrev pub MayClash : Contents → ℕ → ℕ → List Item → Kind → Kind → Type 0
MayClash plan x y u j k = OffersKind plan x u j × OffersKind plan y u k × KindsClash j k

-- the live participants may put items that do not clash and that the wire shows
abbrev pub HasNext : Contents → List Item → Set → Type 0
HasNext plan u live = (put : ℕ → Item) × (w : Item) × IsSlot plan u live put w

-- exactly one item is what the wire shows
abbrev pub HasOneWire : Set → (ℕ → Item) → Type 0
HasOneWire live put = (w : Item) × IsWire live put w × ((v : Item) → IsWire live put v → v ≡ w)
