-- What may come next in what a participant sends.
use Rattle.std.specs.Prelude.{List, ◌∷◌}
use Rattle.message_tree.specs.declared.items.Item.{Item}
use Rattle.message_tree.specs.declared.items.Item.TheVariants as item
use Rattle.message_tree.specs.Texts.{Language, Allows}
use Rattle.places.specs.declared.offers.Offered.{Offered}
use Rattle.places.specs.declared.offers.Offered.TheVariants.{Bit, Listen, Again, Stop, Claim}

-- one of these lists begins with x
abbrev pub Begins : Language → Item → Type 0
Begins P x = (rest : List Item) × P (x ∷ rest)

-- x is an item that may come next: a bit of the participant that agrees with the pattern, either bit of a target, or the
-- one item that is offered
abbrev pub MayPut : Offered → Item → Type 0
MayPut (Bit b) (item.Sent s) = Allows b s
MayPut Listen (item.Heard s) = Unit {0}
MayPut Again item.Again = Unit {0}
MayPut Stop item.Stop = Unit {0}
MayPut Claim item.Claim = Unit {0}
MayPut _ _ = ⊥
