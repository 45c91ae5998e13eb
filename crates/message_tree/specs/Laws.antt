-- What holds of the texts of every message and of every interrupt.
use Rattle.std.specs.Prelude.{◌≡◌, Bool, true, false, List, [], ◌∷◌, ◌++◌}
use Rattle.message_tree.specs.declared.items.Item.{Item}
use Rattle.message_tree.specs.declared.items.Item.TheVariants.{Heard, Stop, Claim}
use Rattle.message_tree.specs.Texts.{Language}

-- some list passes
abbrev pub HasText : Language → Type 0
HasText P = (u : List Item) × P u

-- a transmission ends with a STOP, or with a claim
abbrev pub is_end : Item → Bool
is_end Stop = true
is_end Claim = true
is_end _ = false

-- no item of the list ends a transmission
abbrev pub HasNoEnd : List Item → Type 0
HasNoEnd [] = Unit {0}
HasNoEnd (x ∷ u) = (is_end x ≡ false) × HasNoEnd u

-- each list that passes has x as its last item, and no end before
abbrev pub EndsWith : Item → Language → Type 0
EndsWith x P = (u : List Item) → P u → (v : List Item) × HasNoEnd v × (u ≡ v ++ x ∷ [])

-- where a target answers, it may answer either bit
abbrev pub HearsBoth : Language → Type 0
HearsBoth P =
    (u v : List Item) (b c : Bool) → P (u ++ Heard b ∷ v) → (w : List Item) × P (u ++ Heard c ∷ w)

-- no target answers
abbrev pub NeverHears : Language → Type 0
NeverHears P = (u v : List Item) (b : Bool) → P (u ++ Heard b ∷ v) → ⊥

-- none is a proper beginning of another
abbrev pub NoneBeginsAnother : Language → Type 0
NoneBeginsAnother P = (u v : List Item) → P u → P (u ++ v) → v ≡ []
