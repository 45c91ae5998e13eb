-- What holds of the texts of two participants that a proof proves, and of the texts of one.
use Rattle.std.specs.Prelude.{◌≡◌, List, ◌∷◌, ◌++◌}
use Rattle.message_tree.specs.declared.items.Item.{Item}
use Rattle.message_tree.specs.Items.{kind_of, Clash}
use Rattle.message_tree.specs.Texts.{Language}

-- what goes on after one beginning goes on with items of one kind
abbrev pub OneKind : Language → Type 0
OneKind P = (u v w : List Item) (x y : Item) → P (u ++ x ∷ v) → P (u ++ y ∷ w) → kind_of x ≡ kind_of y

-- no two of these lists go on, after the same beginning, with items that clash
abbrev pub NeverClash : Language → Language → Type 0
NeverClash P Q =
    (u v w : List Item) (x y : Item) → P (u ++ x ∷ v) → Q (u ++ y ∷ w) → Clash x y → ⊥
