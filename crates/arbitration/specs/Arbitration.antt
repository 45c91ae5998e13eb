-- Arbitration between two participants (UM10204, 3.1.8): both go on as long as each sees on the wire what it sends. Who
-- sends 1 and sees 0 has lost, and waits. Slots are counted from 0, after the START.
use Rattle.std.specs.Prelude.{◌≡◌, ℕ, ◌+◌, true, false, List, [], ◌∷◌, ◌++◌, length}
use Rattle.message_tree.specs.declared.items.Item.{Item}
use Rattle.message_tree.specs.declared.items.Item.TheVariants.{Sent, Stop}
use Rattle.message_tree.specs.Sizes.{frame_slots}
use Rattle.message_tree.specs.Texts.{Language, Sender, message, interrupt}

-- some text of P begins with u and x
abbrev pub GoesOn : Language → List Item → Item → Type 0
GoesOn P u x = (rest : List Item) × P (u ++ x ∷ rest)

-- In slot k both put the STOP that ends what they send, and neither has lost before.
pub record EndTogether (P Q : Language) (k : ℕ) : Type 0 where
  pub wire : List Item
  pub slot : length wire ≡ k
  pub first : P (wire ++ Stop ∷ [])
  pub second : Q (wire ++ Stop ∷ [])

-- In slot k the first sends 0 and goes on; the second sends 1, sees 0 and has lost.
pub record Wins (P Q : Language) (k : ℕ) : Type 0 where
  pub wire : List Item
  pub slot : length wire ≡ k
  pub winner : GoesOn P wire (Sent false)
  pub loser : GoesOn Q wire (Sent true)

-- the slots of the longest text that is sent: an interrupt has those of its address, of a 1 and of its claim
abbrev pub sender_slots : Sender → ℕ
sender_slots (message frame) = frame_slots frame
sender_slots (interrupt address) = length address + 2
