-- Marks that are followed to their end are those of a path.
use Rattle.std.proofs.Common.{◌≡◌, ℕ, zero, suc, Bool, true, false, List, [], ◌∷◌, Option, Some, None, refl}
use Rattle.message_tree.specs.declared.bits.Bit.TheVariants.{Zero, One}
use Rattle.message_tree.specs.declared.items.Item.TheVariants as item
use Rattle.message_tree.specs.Texts.{Language, SentThen, AgainThen, BytesThen, ByteThen, HeardThen, Only}
use Rattle.capture_check.specs.Along.{after_bits, FitsAfter}
use Rattle.capture_check.specs.declared.listening.Mark.{Mark}
use Rattle.capture_check.specs.declared.listening.Mark.TheVariants.{Level, Again, Stop}
use Rattle.capture_check.specs.Marks.{Fits}
use Rattle.capture_check.proofs.AlongLemmas.{from_sent}
use Rattle.lessons.specs.declared.paths.Sent.{Sent}
use Rattle.lessons.specs.declared.paths.Sent.TheVariants.{Write, Register, Data, Read}
use Rattle.lessons.specs.declared.paths.Step.{Step}
use Rattle.lessons.specs.Plans.{HasMarks, sent_bits, bytes_before_last, AckedThen, AnsweredThen, StepThen, LedBy, StepsText}
use Rattle.lessons.specs.Fitting.{then_after, after_level, after_levels, after_read_byte, after_read_bytes, after_acked, after_answer, after_step, after_again, after_lead, is_stop, steps_fit, path_fits}

-- where what is left behind f has a text of P, the marks have one of Q
abbrev pub Behind : (List Mark → Option (List Mark)) → Language → Language → Type 0
Behind f P Q = (marks : List Mark) → FitsAfter (f marks) P → Fits Q marks

on : (o : Option (List Mark)) (f : List Mark → Option (List Mark)) (P Q : Language) → Behind f P Q → FitsAfter (then_after o f) P → FitsAfter o Q
on (Some left) f P Q h a = h left a
on None f P Q h a = absurd a

-- ---- bytes that are read

levels : (n : ℕ) (P : Language) → Behind (after_levels n) P (HeardThen n P)
levels zero P marks a = a
levels (suc n) P [] a = absurd a
levels (suc n) P (Level level ∷ marks) a = let f = levels n P marks a in (item.Heard level ∷ f.0, f.1, (refl, f.2))
levels (suc n) P (Again ∷ marks) a = absurd a
levels (suc n) P (Stop ∷ marks) a = absurd a

not_acknowledged : (P : Language) → Behind (after_level true) P (SentThen (One ∷ []) P)
not_acknowledged P [] a = absurd a
not_acknowledged P (Level true ∷ marks) a = (item.Sent true ∷ a.0, (refl, a.1), (refl, a.2))
not_acknowledged P (Level false ∷ marks) a = absurd a
not_acknowledged P (Again ∷ marks) a = absurd a
not_acknowledged P (Stop ∷ marks) a = absurd a

acknowledged : (P : Language) → Behind (after_level false) P (SentThen (Zero ∷ []) P)
acknowledged P [] a = absurd a
acknowledged P (Level true ∷ marks) a = absurd a
acknowledged P (Level false ∷ marks) a = (item.Sent false ∷ a.0, (refl, a.1), (refl, a.2))
acknowledged P (Again ∷ marks) a = absurd a
acknowledged P (Stop ∷ marks) a = absurd a

last_byte : (P : Language) → Behind (after_read_byte true) P (ByteThen One P)
last_byte P marks a =
    levels 8 (SentThen (One ∷ []) P) marks (on (after_levels 8 marks) (after_level true) P (SentThen (One ∷ []) P) (not_acknowledged P) a)

one_byte : (P : Language) → Behind (after_read_byte false) P (ByteThen Zero P)
one_byte P marks a =
    levels 8 (SentThen (Zero ∷ []) P) marks (on (after_levels 8 marks) (after_level false) P (SentThen (Zero ∷ []) P) (acknowledged P) a)

bytes : (n : ℕ) (P : Language) → Behind (after_read_bytes n) P (BytesThen n P)
bytes zero P marks a = a
bytes (suc n) P marks a =
    one_byte (BytesThen n P) marks (on (after_read_byte false marks) (after_read_bytes n) P (BytesThen n P) (bytes n P) a)

-- ---- answers

acked : (sent : Sent) (P : Language) → Behind (after_acked sent) P (AckedThen sent P)
acked (Write address) P marks a = a
acked (Register value) P marks a = a
acked (Data value) P marks a = a
acked (Read address count) P marks a =
    let n = bytes_before_last count in
    bytes n (ByteThen One P) marks (on (after_read_bytes n marks) (after_read_byte true) P (ByteThen One P) (last_byte P) a)

-- the answer of the target, and what follows it
after_ack : (sent : Sent) (P : Language) (marks : List Mark) → FitsAfter (after_level false marks) (AckedThen sent P) → Fits (AnsweredThen false sent P) marks
after_ack sent P [] a = absurd a
after_ack sent P (Level true ∷ marks) a = absurd a
after_ack sent P (Level false ∷ marks) a = (item.Heard false ∷ a.0, a.1, (refl, a.2))
after_ack sent P (Again ∷ marks) a = absurd a
after_ack sent P (Stop ∷ marks) a = absurd a

answered : (r : Bool) (sent : Sent) (P : Language) → Behind (after_answer r sent) P (AnsweredThen r sent P)
answered false sent P marks a = after_ack sent P marks (on (after_level false marks) (after_acked sent) P (AckedThen sent P) (acked sent P) a)
answered true sent P [] a = absurd a
answered true sent P (Level true ∷ marks) a = (item.Heard true ∷ a.0, a.1, (refl, a.2))
answered true sent P (Level false ∷ marks) a = absurd a
answered true sent P (Again ∷ marks) a = absurd a
answered true sent P (Stop ∷ marks) a = absurd a

-- ---- steps

step_on : (step : Step) (P : Language) → Behind (after_step step) P (StepThen step P)
step_on step P marks a =
    let Q : Language = AnsweredThen step.refused step.sent P in
    from_sent (sent_bits step.sent) Q marks
    (on (after_bits (sent_bits step.sent) marks) (after_answer step.refused step.sent) P Q (answered step.refused step.sent P) a)

restarted : (P : Language) → Behind after_again P (AgainThen P)
restarted P [] a = absurd a
restarted P (Level level ∷ marks) a = absurd a
restarted P (Again ∷ marks) a = (item.Again ∷ a.0, a.1, (refl, a.2))
restarted P (Stop ∷ marks) a = absurd a

led : (sent : Sent) (P : Language) → Behind (after_lead sent) P (LedBy sent P)
led (Write address) P marks a = restarted P marks a
led (Read address count) P marks a = restarted P marks a
led (Register value) P marks a = a
led (Data value) P marks a = a

the_stop : (marks : List Mark) → is_stop marks ≡ true → Fits (Only item.Stop) marks
the_stop [] e = cc
the_stop (Stop ∷ []) e = (item.Stop ∷ [], refl, (refl, tt))
the_stop (Stop ∷ (m ∷ marks)) e = cc
the_stop (Level level ∷ marks) e = cc
the_stop (Again ∷ marks) e = cc

-- what is left has the steps
left_fits : (steps : List Step) (o : Option (List Mark)) → (elim o [ None ↦ false | Some left ↦ steps_fit steps left ]) ≡ true → ((left : List Mark) → steps_fit steps left ≡ true → Fits (StepsText steps) left) → FitsAfter o (StepsText steps)
left_fits steps None e h = cc
left_fits steps (Some left) e h = h left e

steps_on : (steps : List Step) (marks : List Mark) → steps_fit steps marks ≡ true → Fits (StepsText steps) marks
steps_on [] marks e = the_stop marks e
steps_on (step ∷ steps) marks e =
    let P : Language = StepsText steps in
    let left = left_fits steps (then_after (after_lead step.sent marks) (after_step step)) e (steps_on steps) in
    led step.sent (StepThen step P) marks (on (after_lead step.sent marks) (after_step step) P (StepThen step P) (step_on step P) left)

pub has_marks : (path : List Step) (marks : List Mark) → path_fits path marks ≡ true → HasMarks path marks
has_marks [] marks e = the_stop marks e
has_marks (step ∷ steps) marks e =
    step_on step (StepsText steps) marks (left_fits steps (after_step step marks) e (steps_on steps))
