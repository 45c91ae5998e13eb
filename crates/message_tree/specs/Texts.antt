-- The texts of a message: the lists of items that one participant can go through, one item a slot, with every
-- choice of its own open bits and of the targets' answers (UM10204, 3.1.4 to 3.1.6 and 3.1.10).
use Rattle.std.specs.Prelude.{◌≡◌, ℕ, suc, zero, ◌+◌, Bool, true, false, List, [], ◌∷◌, ◌++◌}
use Rattle.message_tree.specs.declared.bits.Bit.{Bit}
use Rattle.message_tree.specs.declared.bits.Bit.TheVariants.{Zero, One, Either}
use Rattle.message_tree.specs.declared.bits.Address.{Address}
use Rattle.message_tree.specs.declared.counts.Count.{Count}
use Rattle.message_tree.specs.declared.items.Item.{Item}
use Rattle.message_tree.specs.declared.items.Item.TheVariants.{Sent, Heard, Again, Stop, Claim}
use Rattle.message_tree.specs.Patterns.{pattern_bits, address_bits}
use Rattle.message_tree.specs.Counts.{InRange}
use Rattle.message_tree.specs.Trees.{FrameTree, write, read, PayloadTree, byte, last, TailTree, stop, again}

-- A set of lists of items, as a property of lists.
abbrev pub Language : Type 1
Language = List Item → Type 0

-- a bit that may be sent where the pattern has this one
abbrev pub Allows : Bit → Bool → Type 0
Allows Zero b = b ≡ false
Allows One b = b ≡ true
Allows Either b = Unit {0}

-- the participant sends bits that agree with the pattern, and goes on with P
abbrev pub SentThen : List Bit → Language → Language
SentThen [] P u = P u
SentThen (b ∷ bs) P [] = ⊥
SentThen (b ∷ bs) P (Sent s ∷ u) = Allows b s × SentThen bs P u
SentThen (b ∷ bs) P (_ ∷ u) = ⊥

-- a target sends n bits, whatever they are, and the participant goes on with P
abbrev pub HeardThen : ℕ → Language → Language
HeardThen zero P u = P u
HeardThen (suc n) P [] = ⊥
HeardThen (suc n) P (Heard b ∷ u) = HeardThen n P u
HeardThen (suc n) P (_ ∷ u) = ⊥

-- a target answers: it acknowledges by 0, and the participant goes on with P, or it doesn't, and it goes on with Q
abbrev pub AnswerThen : Language → Language → Language
AnswerThen P Q (Heard false ∷ u) = P u
AnswerThen P Q (Heard true ∷ u) = Q u
AnswerThen P Q _ = ⊥

-- a byte is read: eight bits from the target, and the participant's acknowledge
abbrev pub ByteThen : Bit → Language → Language
ByteThen acknowledge P = HeardThen 8 (SentThen (acknowledge ∷ []) P)

-- n bytes are read, and each is acknowledged, since more are wanted
abbrev pub BytesThen : ℕ → Language → Language
BytesThen zero P u = P u
BytesThen (suc n) P u = ByteThen Zero (BytesThen n P) u

-- Some number of bytes in the range is read. The controller acknowledges all but the last, and ends the read by not
-- acknowledging that one (UM10204, 3.1.6).
abbrev pub ReadThen : Count → Language → Language
ReadThen count P u = (more : ℕ) × InRange count (more + 1) × BytesThen more (ByteThen One P) u

-- a repeated START, and the participant goes on with P
abbrev pub AgainThen : Language → Language
AgainThen P (Again ∷ u) = P u
AgainThen P _ = ⊥

-- this item, and nothing more
abbrev pub Only : Item → Language
Only x u = u ≡ x ∷ []

-- the eight bits of a header: the address, then 0 for a write and 1 for a read (UM10204, 3.1.10)
abbrev pub write_header : Address → List Bit
write_header address = address_bits address ++ Zero ∷ []

abbrev pub read_header : Address → List Bit
read_header address = address_bits address ++ One ∷ []

abbrev mutual
  pub FrameText : FrameTree → Language
  FrameText (write address acked refused) u =
      SentThen (write_header address) (AnswerThen (PayloadText acked) (TailText refused)) u
  FrameText (read address count after refused) u =
      SentThen (read_header address) (AnswerThen (ReadThen count (TailText after)) (TailText refused)) u

  pub PayloadText : PayloadTree → Language
  PayloadText (byte bits acked refused) u =
      SentThen (pattern_bits bits) (AnswerThen (PayloadText acked) (TailText refused)) u
  PayloadText (last tail) u = TailText tail u

  pub TailText : TailTree → Language
  TailText stop u = Only Stop u
  TailText (again frame) u = AgainThen (FrameText frame) u

-- An interrupt sends the bits of its address and a 1 as its header, and waits for the answer (our profile).
abbrev pub InterruptText : List Bit → Language
InterruptText address u = SentThen (address ++ One ∷ []) (Only Claim) u

-- Who takes part: a controller with a message, or an interrupt with the bits of its address.
pub data Sender : Type 0 where
  message : (frame : FrameTree) → Sender
  interrupt : (address : List Bit) → Sender

abbrev pub SenderText : Sender → Language
SenderText (message frame) u = FrameText frame u
SenderText (interrupt address) u = InterruptText address u
