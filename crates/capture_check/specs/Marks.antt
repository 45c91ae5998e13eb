-- The marks that the items of a text leave on the wires: a bit that is sent and one that is heard are levels alike.
use Rattle.std.specs.Prelude.{◌≡◌, List, [], ◌∷◌}
use Rattle.message_tree.specs.declared.items.Item.{Item}
use Rattle.message_tree.specs.declared.items.Item.TheVariants as item
use Rattle.message_tree.specs.Texts.{Language}
use Rattle.capture_check.specs.declared.listening.Mark.{Mark}
use Rattle.capture_check.specs.declared.listening.Mark.TheVariants as mark

-- the item leaves this mark; a claim leaves none that is known
abbrev pub Leaves : Item → Mark → Type 0
Leaves (item.Sent b) m = m ≡ mark.Level b
Leaves (item.Heard b) m = m ≡ mark.Level b
Leaves item.Again m = m ≡ mark.Again
Leaves item.Stop m = m ≡ mark.Stop
Leaves item.Claim m = ⊥

-- slot by slot
abbrev pub LeaveAll : List Item → List Mark → Type 0
LeaveAll [] [] = Unit {0}
LeaveAll (x ∷ u) (m ∷ marks) = Leaves x m × LeaveAll u marks
LeaveAll _ _ = ⊥

-- one of these lists of items leaves these marks
abbrev pub Fits : Language → List Mark → Type 0
Fits P marks = (u : List Item) × P u × LeaveAll u marks
