-- One slot of the bus: what may be put, and what the wire shows.
use Rattle.std.specs.Prelude.{◌≡◌, ◌≢◌, ℕ, ◌⊎◌, Bool, true, false, ◌&&◌, List, ◌∷◌, ◌++◌}
use Rattle.message_tree.specs.declared.items.Item.{Item}
use Rattle.message_tree.specs.declared.items.Item.TheVariants.{Sent, Heard, Again, Stop, Claim}
use Rattle.message_tree.specs.Items.{Clash}
use Rattle.plan_core.specs.Contents.{Contents}
use Rattle.plan_core.specs.Participants.{Text}
use Rattle.plan_core.specs.Lawful.{Set, In}

-- a text of p begins with u
abbrev pub Follows : Contents → ℕ → List Item → Type 0
Follows plan p u = (rest : List Item) × Text plan p (u ++ rest)

-- after the wire u, p may put x: some text of p begins with u and x
abbrev pub Offers : Contents → ℕ → List Item → Item → Type 0
Offers plan p u x = (rest : List Item) × Text plan p (u ++ x ∷ rest)

-- what each live participant puts: an item that it offers, and all who listen hear one bit of the targets
pub record IsRound (plan : Contents) (u : List Item) (live : Set) (put : ℕ → Item) : Type 0 where
  pub offered : (p : ℕ) → In p live → Offers plan p u (put p)
  pub heard : (p q : ℕ) (b c : Bool) → In p live → In q live → put p ≡ Heard b → put q ≡ Heard c → b ≡ c

-- no two of them put items that clash
abbrev pub NoClash : Set → (ℕ → Item) → Type 0
NoClash live put = (p q : ℕ) → p ≢ q → In p live → In q live → Clash (put p) (put q) → ⊥

-- Somebody put the wire's item, and each put it too, or a 1 where the wire is 0: the wire of data bits is their AND
-- (the wired-AND of UM10204, 3.1.1 and 3.1.8), and of other items the one that all put.
pub record IsWire (live : Set) (put : ℕ → Item) (w : Item) : Type 0 where
  pub some : (p : ℕ) × In p live × (put p ≡ w)
  pub all : (p : ℕ) → In p live → (put p ≡ w) ⊎ ((put p ≡ Sent true) × (w ≡ Sent false))

-- one slot: a round without a clash, and what the wire shows
pub record IsSlot (plan : Contents) (u : List Item) (live : Set) (put : ℕ → Item) (w : Item) : Type 0 where
  pub is_round : IsRound plan u live put
  pub no_clash : NoClash live put
  pub is_wire : IsWire live put w

-- two items are one
abbrev pub is_item : Item → Item → Bool
is_item (Sent false) (Sent false) = true
is_item (Sent true) (Sent true) = true
is_item (Heard false) (Heard false) = true
is_item (Heard true) (Heard true) = true
is_item Again Again = true
is_item Stop Stop = true
is_item Claim Claim = true
is_item _ _ = false

-- those who put the wire's item: whoever put another has lost arbitration (UM10204, 3.1.8)
abbrev pub survivors : Set → (ℕ → Item) → Item → Set
survivors live put w p = live p && is_item (put p) w
