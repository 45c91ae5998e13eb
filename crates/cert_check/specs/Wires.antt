-- What two participants may put after a wire. Only private contracts and proofs use this.
use Rattle.std.specs.Prelude.{◌≡◌, Bool, true, false, List, ◌∷◌, ◌++◌}
use Rattle.message_tree.specs.declared.items.Item.{Item}
use Rattle.message_tree.specs.declared.items.Kind.{Kind}
use Rattle.message_tree.specs.declared.items.Kind.TheVariants as kind
use Rattle.message_tree.specs.Items.{kind_of, KindsClash}
use Rattle.message_tree.specs.Texts.{Language, Sender, SenderText}
use Rattle.places.specs.declared.offers.Offered.{Offered}
use Rattle.places.specs.declared.offers.Offered.TheVariants.{Bit, Listen, Again, Stop, Claim}

-- after u, one of these lists goes on with an item of this kind
abbrev pub GoesOnWith : Language → List Item → Kind → Type 0
GoesOnWith P u k = (x : Item) × ((rest : List Item) × P (u ++ x ∷ rest)) × (kind_of x ≡ k)

-- after u, the two may put items of these kinds, and these must not meet
abbrev pub ClashAfter : Sender → Sender → List Item → Kind → Kind → Type 0
ClashAfter s t u j k = KindsClash j k × GoesOnWith (SenderText s) u j × GoesOnWith (SenderText t) u k

-- an item of this kind may come next
abbrev pub is_offered : Offered → Kind → Bool
is_offered (Bit b) kind.Sent = true
is_offered Listen kind.Heard = true
is_offered Again kind.Again = true
is_offered Stop kind.Stop = true
is_offered Claim kind.Claim = true
is_offered _ _ = false
