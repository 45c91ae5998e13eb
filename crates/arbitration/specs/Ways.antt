-- The three ways in which two go apart or end, by one description. Only private contracts and proofs use this.
use Rattle.std.specs.Prelude.{◌≡◌, ℕ, ◌+◌, ◌*◌, ◌<◌, ◌⊎◌, true, false, Option, Some, List, [], ◌∷◌, ◌++◌, length, slice_get}
use Rattle.message_tree.specs.declared.bits.Bit.{Bit}
use Rattle.message_tree.specs.declared.bits.Pattern.{Pattern}
use Rattle.message_tree.specs.declared.bits.Bit.TheVariants.{One}
use Rattle.message_tree.specs.declared.counts.Count.{Count}
use Rattle.message_tree.specs.declared.items.Item.{Item}
use Rattle.message_tree.specs.declared.items.Item.TheVariants.{Sent, Stop}
use Rattle.message_tree.specs.Bits.{SplitAt, NeverSplit}
use Rattle.message_tree.specs.Counts.{InRange, greatest_of}
use Rattle.message_tree.specs.Texts.{Language, Sender, message, interrupt, Allows, ReadThen, PayloadText, TailText, write_header, read_header}
use Rattle.message_tree.specs.Patterns.{pattern_bits}
use Rattle.message_tree.specs.Trees.{FrameTree, write, read, PayloadTree, byte, TailTree}
use Rattle.arbitration.specs.declared.beginnings.Beginning.{Beginning}
use Rattle.arbitration.specs.declared.spans.Slots.{Slots}
use Rattle.arbitration.specs.declared.spans.Outcomes.{Outcomes}
use Rattle.arbitration.specs.Arbitration.{GoesOn}
use Rattle.arbitration.specs.Spans.{IsSpan, HasRoom, union_of, after_of, After}

pub data Way : Type 0 where
  both_end : Way
  first_wins : Way
  second_wins : Way

-- what the first puts in the slot, and what the second does
abbrev pub put_first : Way → Item
put_first both_end = Stop
put_first first_wins = Sent false
put_first second_wins = Sent true

abbrev pub put_second : Way → Item
put_second both_end = Stop
put_second first_wins = Sent true
put_second second_wins = Sent false

-- in slot k the two go this way
pub record Goes (way : Way) (P Q : Language) (k : ℕ) : Type 0 where
  pub wire : List Item
  pub slot : length wire ≡ k
  pub first : GoesOn P wire (put_first way)
  pub second : GoesOn Q wire (put_second way)

abbrev pub span_of : Way → Outcomes → Option Slots
span_of both_end outcomes = outcomes.both
span_of first_wins outcomes = outcomes.first
span_of second_wins outcomes = outcomes.second

-- these are the spans of the three ways
abbrev pub AreOutcomes : Language → Language → Outcomes → Type 0
AreOutcomes P Q outcomes = (way : Way) → IsSpan (Goes way P Q) (span_of way outcomes)

abbrev pub AllHaveRoom : ℕ → Outcomes → Type 0
AllHaveRoom n outcomes = (way : Way) → HasRoom n (span_of way outcomes)

-- at place k one may send 0 and the other 1, and no earlier bit is known in both and different
pub record WinsAt (bs cs : List Bit) (k : ℕ) : Type 0 where
  pub zero : (b : Bit) × (slice_get bs k ≡ Some b) × Allows b false
  pub one : (c : Bit) × (slice_get cs k ≡ Some c) × Allows c true
  pub before : (j : ℕ) → j < k → SplitAt bs cs j → ⊥

abbrev pub PartsAt : Way → List Bit → List Bit → ℕ → Type 0
PartsAt both_end bs cs k = ⊥
PartsAt first_wins bs cs k = WinsAt bs cs k
PartsAt second_wins bs cs k = WinsAt cs bs k

abbrev pub ArePartings : List Bit → List Bit → Outcomes → Type 0
ArePartings bs cs outcomes = (way : Way) → IsSpan (PartsAt way bs cs) (span_of way outcomes)

-- the second ends its read with byte n, and the first reads on: the acknowledge is slot 9 n - 1 of the read
abbrev pub ReadsOn : Count → Count → ℕ → Type 0
ReadsOn c d k = (n : ℕ) × InRange d n × (n < greatest_of c) × (k + 1 ≡ 9 * n)

abbrev pub ReadsApart : Way → Count → Count → ℕ → Type 0
ReadsApart both_end c d k = ⊥
ReadsApart first_wins c d k = ReadsOn c d k
ReadsApart second_wins c d k = ReadsOn d c k

abbrev pub AreReadsApart : Count → Count → Outcomes → Type 0
AreReadsApart c d outcomes = (way : Way) → IsSpan (ReadsApart way c d) (span_of way outcomes)

-- they part in the first eight slots, or go on in slot 9, after either answer
abbrev pub Answered : Option Slots → Option Slots → Option Slots → Option Slots → Type 0
Answered parted acked refused result = result ≡ union_of (union_of parted (after_of 9 acked)) (after_of 9 refused)

-- the bits of the first header
abbrev pub header_of : Sender → List Bit
header_of (message (write address acked refused)) = write_header address
header_of (message (read address count after refused)) = read_header address
header_of (interrupt address) = address ++ One ∷ []

-- what follows an acknowledge of the first header
abbrev pub AckedText : FrameTree → Language
AckedText (write address acked refused) = PayloadText acked
AckedText (read address count after refused) = ReadThen count (TailText after)

-- a byte, and what is written after a refusal of it
pub record Step : Type 0 where
  pub bits : Pattern
  pub refused : TailTree

-- these bytes, and what follows them
abbrev pub with_bytes : List Step → PayloadTree → PayloadTree
with_bytes [] x = x
with_bytes (s ∷ ss) x = byte s.bits (with_bytes ss x) s.refused

-- these are as many as those, and none of them parts from its fellow for certain
abbrev pub NeverPart : List Step → List Step → Type 0
NeverPart [] [] = Unit {0}
NeverPart [] (t ∷ ts) = ⊥
NeverPart (s ∷ ss) [] = ⊥
NeverPart (s ∷ ss) (t ∷ ts) = NeverSplit (pattern_bits s.bits) (pattern_bits t.bits) × NeverPart ss ts

-- in slot k two who send these bytes go this way: in a bit, or after a refusal
abbrev pub GoesInByte : Way → Step → Step → ℕ → Type 0
GoesInByte way s t k =
    PartsAt way (pattern_bits s.bits) (pattern_bits t.bits) k ⊎ After 9 (Goes way (TailText s.refused) (TailText t.refused)) k

-- these are the outcomes within this byte
abbrev pub IsInByte : Step → Step → Outcomes → Type 0
IsInByte s t outcomes = (way : Way) → IsSpan (GoesInByte way s t) (span_of way outcomes)

-- in slot k two who send these bytes go this way
abbrev pub GoesWithin : Way → List Step → List Step → ℕ → Type 0
GoesWithin way [] ts k = ⊥
GoesWithin way (s ∷ ss) [] k = ⊥
GoesWithin way (s ∷ ss) (t ∷ ts) k = GoesInByte way s t k ⊎ After 9 (GoesWithin way ss ts) k

-- the beginning has these bytes, and its outcomes are those within them
pub record IsBeginning (ss ts : List Step) (beginning : Beginning) : Type 0 where
  pub together : NeverPart ss ts
  pub count : length ss ≡ beginning.bytes
  pub outcomes : (way : Way) → IsSpan (GoesWithin way ss ts) (span_of way beginning.outcomes)
