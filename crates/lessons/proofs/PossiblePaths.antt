-- Each path is that of some transaction.
use Rattle.std.proofs.Common.{◌≡◌, ℕ, zero, suc, Bool, true, false, List, [], ◌∷◌, ◌++◌, refl}
use Rattle.message_tree.specs.declared.bits.Bit.{Bit}
use Rattle.message_tree.specs.declared.bits.Bit.TheVariants.{Zero, One, Either}
use Rattle.message_tree.specs.declared.items.Item.TheVariants as item
use Rattle.message_tree.specs.Texts.{Language, SentThen, AnswerThen, AgainThen, BytesThen, ByteThen, HeardThen, Only}
use Rattle.capture_check.specs.declared.listening.Mark.{Mark}
use Rattle.capture_check.specs.declared.listening.Mark.TheVariants as mark
use Rattle.capture_check.specs.Marks.{Fits}
use Rattle.lessons.specs.declared.paths.Sent.{Sent}
use Rattle.lessons.specs.declared.paths.Sent.TheVariants.{Write, Register, Data, Read}
use Rattle.lessons.specs.declared.paths.Step.{Step}
use Rattle.lessons.specs.Plans.{HasMarks, sent_bits, bytes_before_last, AckedThen, Nothing, AnsweredThen, StepThen, LedBy, StepsText}

-- a text of it leaves some marks
abbrev pub Some : Language → Type 0
Some P = (marks : List Mark) × Fits P marks

sent : (bs : List Bit) (P : Language) → Some P → Some (SentThen bs P)
sent [] P s = s
sent (Zero ∷ bs) P s = let r = sent bs P s in (mark.Level false ∷ r.0, (item.Sent false ∷ r.1.0, (refl, r.1.1), (refl, r.1.2)))
sent (One ∷ bs) P s = let r = sent bs P s in (mark.Level true ∷ r.0, (item.Sent true ∷ r.1.0, (refl, r.1.1), (refl, r.1.2)))
sent (Either ∷ bs) P s = let r = sent bs P s in (mark.Level false ∷ r.0, (item.Sent false ∷ r.1.0, (tt, r.1.1), (refl, r.1.2)))

heard : (n : ℕ) (P : Language) → Some P → Some (HeardThen n P)
heard zero P s = s
heard (suc n) P s = let r = heard n P s in (mark.Level false ∷ r.0, (item.Heard false ∷ r.1.0, r.1.1, (refl, r.1.2)))

byte : (b : Bit) (P : Language) → Some P → Some (ByteThen b P)
byte b P s = heard 8 (SentThen (b ∷ []) P) (sent (b ∷ []) P s)

bytes : (n : ℕ) (P : Language) → Some P → Some (BytesThen n P)
bytes zero P s = s
bytes (suc n) P s = byte Zero (BytesThen n P) (bytes n P s)

acked : (it : Sent) (P : Language) → Some P → Some (AckedThen it P)
acked (Write to) P s = s
acked (Register b) P s = s
acked (Data b) P s = s
acked (Read from count) P s = bytes (bytes_before_last count) (ByteThen One P) (byte One P s)

answered : (r : Bool) (it : Sent) (P : Language) → Some P → Some (AnsweredThen r it P)
answered false it P s = let a = acked it P s in (mark.Level false ∷ a.0, (item.Heard false ∷ a.1.0, a.1.1, (refl, a.1.2)))
answered true it P s = (mark.Level true ∷ s.0, (item.Heard true ∷ s.1.0, s.1.1, (refl, s.1.2)))

step_on : (step : Step) (P : Language) → Some P → Some (StepThen step P)
step_on step P s = sent (sent_bits step.sent) (AnsweredThen step.refused step.sent P) (answered step.refused step.sent P s)

restart : (P : Language) → Some P → Some (AgainThen P)
restart P s = (mark.Again ∷ s.0, (item.Again ∷ s.1.0, s.1.1, (refl, s.1.2)))

led : (it : Sent) (P : Language) → Some P → Some (LedBy it P)
led (Write to) P s = restart P s
led (Read from count) P s = restart P s
led (Register b) P s = s
led (Data b) P s = s

the_stop : Some (Only item.Stop)
the_stop = (mark.Stop ∷ [], (item.Stop ∷ [], refl, (refl, tt)))

steps_on : (path : List Step) → Some (StepsText path)
steps_on [] = the_stop
steps_on (step ∷ steps) = led step.sent (StepThen step (StepsText steps)) (step_on step (StepsText steps) (steps_on steps))

pub some_marks : (path : List Step) → (marks : List Mark) × HasMarks path marks
some_marks [] = the_stop
some_marks (step ∷ steps) = step_on step (StepsText steps) (steps_on steps)
