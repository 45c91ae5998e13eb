-- Which paths a plan has: a path has texts, as a message has, and a participant of the plan explains each transaction that has
-- the marks of one of them.
use Rattle.std.specs.Prelude.{ℕ, ◌-◌, Bool, true, false, List, [], ◌∷◌, ◌++◌, Option, Some, None}
use Rattle.message_tree.specs.declared.bits.Bit.{Bit}
use Rattle.message_tree.specs.declared.bits.Bit.TheVariants.{Zero, One}
use Rattle.message_tree.specs.declared.items.Item.TheVariants as item
use Rattle.message_tree.specs.Bits.{bits_below}
use Rattle.message_tree.specs.Texts.{Language, SentThen, AnswerThen, AgainThen, BytesThen, ByteThen, Only}
use Rattle.plan_core.specs.Contents.{Contents}
use Rattle.capture_check.specs.declared.listening.Mark.{Mark}
use Rattle.capture_check.specs.Explained.{Leaver}
use Rattle.capture_check.specs.Marks.{Fits}
use Rattle.lessons.specs.declared.paths.Sent.{Sent}
use Rattle.lessons.specs.declared.paths.Sent.TheVariants.{Write, Register, Data, Read}
use Rattle.lessons.specs.declared.paths.Step.{Step}

-- the seven bits of an address, and the eight of a byte, all of them known
abbrev pub seven : ℕ → List Bit
seven address = bits_below 7 127 address

abbrev pub eight : ℕ → List Bit
eight byte = bits_below 8 255 byte

-- the bits of a header or of a data byte (UM10204, 3.1.5 and 3.1.10)
abbrev pub sent_bits : Sent → List Bit
sent_bits (Write address) = seven address ++ Zero ∷ []
sent_bits (Register value) = eight value
sent_bits (Data value) = eight value
sent_bits (Read address count) = seven address ++ One ∷ []

-- how many bytes are read before the last one
abbrev pub bytes_before_last : Option ℕ → ℕ
bytes_before_last (Some count) = count - 1
bytes_before_last None = 0

-- what follows the acknowledge: of a read its bytes, and then P
abbrev pub AckedThen : Sent → Language → Language
AckedThen (Read address count) P = BytesThen (bytes_before_last count) (ByteThen One P)
AckedThen _ P = P

abbrev pub Nothing : Language
Nothing u = ⊥

-- the target answers so, and P follows
abbrev pub AnsweredThen : (refused : Bool) → Sent → Language → Language
AnsweredThen false sent P = AnswerThen (AckedThen sent P) Nothing
AnsweredThen true sent P = AnswerThen Nothing P

abbrev pub StepThen : Step → Language → Language
StepThen step P = SentThen (sent_bits step.sent) (AnsweredThen step.refused step.sent P)

-- a header comes after a repeated START, and a byte directly
abbrev pub LedBy : Sent → Language → Language
LedBy (Write address) P = AgainThen P
LedBy (Read address count) P = AgainThen P
LedBy _ P = P

-- after the last step comes the STOP
abbrev pub StepsText : List Step → Language
StepsText [] = Only item.Stop
StepsText (step ∷ steps) = LedBy step.sent (StepThen step (StepsText steps))

-- the texts of a transaction with this path: those bits and answers, and any bytes from targets
abbrev pub PathText : List Step → Language
PathText [] = Only item.Stop
PathText (step ∷ steps) = StepThen step (StepsText steps)

-- a transaction with these marks has the path
abbrev pub HasMarks : List Step → List Mark → Type 0
HasMarks path marks = Fits (PathText path) marks

-- a participant of the plan explains each transaction that has the path
abbrev pub HasPath : Contents → List Step → Type 0
HasPath plan path = (p : ℕ) × ((marks : List Mark) → HasMarks path marks → Leaver plan marks p)
