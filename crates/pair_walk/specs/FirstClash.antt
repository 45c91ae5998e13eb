-- The first of all clashes of two participants, by the dictionary order of the wires before them. The order is ours;
-- what must not meet is UM10204, 3.1.8.
use Rattle.std.specs.Prelude.{◌≡◌, ◌⊎◌, true, false, List, [], ◌∷◌, ◌++◌}
use Rattle.message_tree.specs.declared.items.Item.{Item}
use Rattle.message_tree.specs.declared.items.Item.TheVariants.{Sent, Heard}
use Rattle.message_tree.specs.declared.items.Kind.{Kind}
use Rattle.message_tree.specs.Items.{kind_of, KindsClash, Clash}
use Rattle.message_tree.specs.Texts.{Language}

-- `0` comes before `1`, and `l` before `h`
abbrev pub ComesBefore : Item → Item → Type 0
ComesBefore (Sent false) (Sent true) = Unit {0}
ComesBefore (Heard false) (Heard true) = Unit {0}
ComesBefore _ _ = ⊥

-- u comes before v in the dictionary, or begins it
abbrev pub InOrder : List Item → List Item → Type 0
InOrder [] v = Unit {0}
InOrder (x ∷ u) [] = ⊥
InOrder (x ∷ u) (y ∷ v) = ComesBefore x y ⊎ ((x ≡ y) × InOrder u v)

-- some list goes on from u with an item of kind k
abbrev pub GoesOnWith : Language → List Item → Kind → Type 0
GoesOnWith P u k = (x : Item) × (v : List Item) × P (u ++ x ∷ v) × (kind_of x ≡ k)

-- each clash is at t, or at a wire that t comes before
abbrev pub AllFrom : Language → Language → List Item → Type 0
AllFrom P Q t =
    (u v w : List Item) (x y : Item) → P (u ++ x ∷ v) → Q (u ++ y ∷ w) → Clash x y → InOrder t u

-- lists of P and of Q go on from u with items of kinds j and k, which clash, and no clash comes before
pub record IsFirstClash (P Q : Language) (u : List Item) (j k : Kind) : Type 0 where
  pub first : GoesOnWith P u j
  pub second : GoesOnWith Q u k
  pub clash : KindsClash j k
  pub earliest : AllFrom P Q u
