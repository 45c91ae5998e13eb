-- A message that takes a path has each of its texts.
use Rattle.std.proofs.Common.{◌≡◌, ℕ, zero, suc, ◌-◌, ◌<◌, ◌≤◌, Bool, true, false, ◌&&◌, nat_le, List, [], ◌∷◌, ◌++◌, Option, Some, None, if◌then◌else◌, length, refl, sym, subst, arith}
use Rattle.std.specs.Int.{bit_at}
use Rattle.std.proofs.lemmas.Bool.{leb-true}
use Rattle.message_tree.specs.declared.bits.Address.{Address}
use Rattle.message_tree.specs.declared.bits.Bit.{Bit}
use Rattle.message_tree.specs.declared.bits.Bit.TheVariants.{Zero, One, Either}
use Rattle.message_tree.specs.declared.bits.Pattern.{Pattern}
use Rattle.message_tree.specs.declared.counts.Count.{Count}
use Rattle.message_tree.specs.declared.items.Item.{Item}
use Rattle.message_tree.specs.declared.items.Item.TheVariants as item
use Rattle.message_tree.specs.Bits.{bit_from}
use Rattle.message_tree.specs.Counts.{least_of, greatest_of}
use Rattle.message_tree.specs.Patterns.{address_bits, pattern_bits}
use Rattle.message_tree.specs.Texts.{Language, SentThen, AnswerThen, AgainThen, BytesThen, ByteThen, HeardThen, ReadThen, write_header, read_header, FrameText, PayloadText, TailText}
use Rattle.message_tree.specs.Trees.{FrameTree, write, read, PayloadTree, byte, last, TailTree, stop, again}
use Rattle.message_tree.specs.Texts.{Sender, message}
use Rattle.plan_core.specs.Contents.{Contents}
use Rattle.plan_core.specs.Participants.{sender_at}
use Rattle.capture_check.specs.declared.listening.Mark.{Mark}
use Rattle.capture_check.specs.Explained.{MayLeave, SomebodyMayLeave}
use Rattle.lessons.specs.declared.paths.Sent.{Sent}
use Rattle.lessons.specs.declared.paths.Sent.TheVariants.{Write, Register, Data, Read}
use Rattle.lessons.specs.declared.paths.Step.{Step}
use Rattle.lessons.specs.Plans.{HasMarks, HasPath, seven, eight, sent_bits, AckedThen, AnsweredThen, StepThen, LedBy, StepsText, PathText}
use Rattle.lessons.specs.Taken.{never_split, writes, reads, sends, has_count, frame_takes, payload_takes, tail_takes}

-- each text of the first is one of the second
abbrev pub In : Language → Language → Type 0
In P Q = (u : List Item) → P u → Q u

both : (a b : Bool) → (a && b) ≡ true → (a ≡ true) × (b ≡ true)
both true true e = (refl, refl)
both true false e = cc
both false b e = cc

-- ---- bits

sent_more : (bs : List Bit) (P Q : Language) → In P Q → In (SentThen bs P) (SentThen bs Q)
sent_more [] P Q h u p = h u p
sent_more (b ∷ bs) P Q h [] p = absurd p
sent_more (b ∷ bs) P Q h (item.Sent s ∷ u) p = (p.0, sent_more bs P Q h u p.1)
sent_more (b ∷ bs) P Q h (item.Heard s ∷ u) p = absurd p
sent_more (b ∷ bs) P Q h (item.Again ∷ u) p = absurd p
sent_more (b ∷ bs) P Q h (item.Stop ∷ u) p = absurd p
sent_more (b ∷ bs) P Q h (item.Claim ∷ u) p = absurd p

-- bits that are all known, by their digits
abbrev pub known_bits : List ℕ → List Bit
known_bits [] = []
known_bits (v ∷ vs) = bit_from 1 v ∷ known_bits vs

-- bits that never split them are sent for these
sent_like : (xs : List Bit) (vs : List ℕ) (zs : List Bit) (P Q : Language) → length xs ≡ length vs → never_split xs (known_bits vs) ≡ true → In P Q →
    In (SentThen (known_bits vs ++ zs) P) (SentThen (xs ++ zs) Q)
sent_like [] [] zs P Q l e h u p = sent_more zs P Q h u p
sent_like [] (v ∷ vs) zs P Q l e h u p = cc
sent_like (x ∷ xs) [] zs P Q l e h u p = cc
sent_like (x ∷ xs) (v ∷ vs) zs P Q l e h [] p = absurd p
sent_like (Zero ∷ xs) (zero ∷ vs) zs P Q l e h (item.Sent s ∷ u) p = (p.0, sent_like xs vs zs P Q (cc) e h u p.1)
sent_like (Zero ∷ xs) (suc v ∷ vs) zs P Q l e h (item.Sent s ∷ u) p = cc
sent_like (One ∷ xs) (zero ∷ vs) zs P Q l e h (item.Sent s ∷ u) p = cc
sent_like (One ∷ xs) (suc v ∷ vs) zs P Q l e h (item.Sent s ∷ u) p = (p.0, sent_like xs vs zs P Q (cc) e h u p.1)
sent_like (Either ∷ xs) (v ∷ vs) zs P Q l e h (item.Sent s ∷ u) p = (tt, sent_like xs vs zs P Q (cc) e h u p.1)
sent_like (x ∷ xs) (v ∷ vs) zs P Q l e h (item.Heard s ∷ u) p = absurd p
sent_like (x ∷ xs) (v ∷ vs) zs P Q l e h (item.Again ∷ u) p = absurd p
sent_like (x ∷ xs) (v ∷ vs) zs P Q l e h (item.Stop ∷ u) p = absurd p
sent_like (x ∷ xs) (v ∷ vs) zs P Q l e h (item.Claim ∷ u) p = absurd p

digits : ℕ → ℕ → List ℕ
digits zero value = []
digits (suc n) value = bit_at value n ∷ digits n value

address_like : (a : Address) (to : ℕ) (zs : List Bit) (P Q : Language) → never_split (address_bits a) (seven to) ≡ true → In P Q →
    In (SentThen (seven to ++ zs) P) (SentThen (address_bits a ++ zs) Q)
unfolding address_bits digits
address_like a to zs P Q e h u p = sent_like (address_bits a) (digits 7 to) zs P Q refl e h u p

pattern_like : (b : Pattern) (value : ℕ) (P Q : Language) → never_split (pattern_bits b) (eight value) ≡ true → In P Q →
    In (SentThen (eight value) P) (SentThen (pattern_bits b) Q)
unfolding pattern_bits digits
pattern_like b value P Q e h u p = sent_like (pattern_bits b) (digits 8 value) [] P Q refl e h u p

-- ---- answers, and the bytes of a read

answer_in : (r : Bool) (sent : Sent) (P A R : Language) → (r ≡ false → In (AckedThen sent P) A) → (r ≡ true → In P R) → In (AnsweredThen r sent P) (AnswerThen A R)
answer_in false sent P A R acked refused [] p = absurd p
answer_in true sent P A R acked refused [] p = absurd p
answer_in false sent P A R acked refused (item.Heard false ∷ u) p = acked refl u p
answer_in true sent P A R acked refused (item.Heard false ∷ u) p = absurd p
answer_in false sent P A R acked refused (item.Heard true ∷ u) p = absurd p
answer_in true sent P A R acked refused (item.Heard true ∷ u) p = refused refl u p
answer_in false sent P A R acked refused (item.Sent s ∷ u) p = absurd p
answer_in true sent P A R acked refused (item.Sent s ∷ u) p = absurd p
answer_in false sent P A R acked refused (item.Again ∷ u) p = absurd p
answer_in true sent P A R acked refused (item.Again ∷ u) p = absurd p
answer_in false sent P A R acked refused (item.Stop ∷ u) p = absurd p
answer_in true sent P A R acked refused (item.Stop ∷ u) p = absurd p
answer_in false sent P A R acked refused (item.Claim ∷ u) p = absurd p
answer_in true sent P A R acked refused (item.Claim ∷ u) p = absurd p

heard_more : (n : ℕ) (P Q : Language) → In P Q → In (HeardThen n P) (HeardThen n Q)
heard_more zero P Q h u p = h u p
heard_more (suc n) P Q h [] p = absurd p
heard_more (suc n) P Q h (item.Heard b ∷ u) p = heard_more n P Q h u p
heard_more (suc n) P Q h (item.Sent b ∷ u) p = absurd p
heard_more (suc n) P Q h (item.Again ∷ u) p = absurd p
heard_more (suc n) P Q h (item.Stop ∷ u) p = absurd p
heard_more (suc n) P Q h (item.Claim ∷ u) p = absurd p

byte_more : (b : Bit) (P Q : Language) → In P Q → In (ByteThen b P) (ByteThen b Q)
byte_more b P Q h = heard_more 8 (SentThen (b ∷ []) P) (SentThen (b ∷ []) Q) (sent_more (b ∷ []) P Q h)

bytes_more : (n : ℕ) (P Q : Language) → In P Q → In (BytesThen n P) (BytesThen n Q)
bytes_more zero P Q h u p = h u p
bytes_more (suc n) P Q h u p = byte_more Zero (BytesThen n P) (BytesThen n Q) (bytes_more n P Q h) u p

at_least : (m n : ℕ) → nat_le m n ≡ true → m ≤ n
at_least m n e = leb-true m n e

read_bytes : (range : Count) (sent : Sent) (P T : Language) → has_count range sent ≡ true → In P T → In (AckedThen sent P) (ReadThen range T)
read_bytes range (Write to) P T e h u p = cc
read_bytes range (Register b) P T e h u p = cc
read_bytes range (Data b) P T e h u p = cc
read_bytes range (Read from None) P T e h u p = cc
read_bytes range (Read from (Some count)) P T e h u p =
    let fits = both (nat_le (least_of range) count) (nat_le count (greatest_of range)) e in
    let low : least_of range ≤ count = at_least _ _ fits.0 in
    let high : count ≤ greatest_of range = at_least _ _ fits.1 in
    let some : 0 < least_of range = range.positive in
    (count - 1, (omega arith, omega arith), bytes_more (count - 1) (ByteThen One P) (ByteThen One T) (byte_more One P T h) u p)

-- ---- what one node sends

write_in : (address : Address) (sent : Sent) (r : Bool) (P A R : Language) → writes address sent ≡ true → (r ≡ false → In P A) → (r ≡ true → In P R) →
    In (SentThen (sent_bits sent) (AnsweredThen r sent P)) (SentThen (write_header address) (AnswerThen A R))
write_in address (Write to) r P A R e acked refused =
    address_like address to (Zero ∷ []) (AnsweredThen r (Write to) P) (AnswerThen A R) e (answer_in r (Write to) P A R acked refused)
write_in address (Register b) r P A R e acked refused = cc
write_in address (Data b) r P A R e acked refused = cc
write_in address (Read from count) r P A R e acked refused = cc

read_in : (address : Address) (sent : Sent) (r : Bool) (P A R : Language) → reads address sent ≡ true → (r ≡ false → In (AckedThen sent P) A) → (r ≡ true → In P R) →
    In (SentThen (sent_bits sent) (AnsweredThen r sent P)) (SentThen (read_header address) (AnswerThen A R))
read_in address (Read from count) r P A R e acked refused =
    address_like address from (One ∷ []) (AnsweredThen r (Read from count) P) (AnswerThen A R) e (answer_in r (Read from count) P A R acked refused)
read_in address (Register b) r P A R e acked refused = cc
read_in address (Data b) r P A R e acked refused = cc
read_in address (Write to) r P A R e acked refused = cc

byte_in : (bits : Pattern) (sent : Sent) (r : Bool) (P A R : Language) → sends bits sent ≡ true → (r ≡ false → In P A) → (r ≡ true → In P R) →
    In (LedBy sent (SentThen (sent_bits sent) (AnsweredThen r sent P))) (SentThen (pattern_bits bits) (AnswerThen A R))
byte_in bits (Register b) r P A R e acked refused =
    pattern_like bits b (AnsweredThen r (Register b) P) (AnswerThen A R) e (answer_in r (Register b) P A R acked refused)
byte_in bits (Data b) r P A R e acked refused =
    pattern_like bits b (AnsweredThen r (Data b) P) (AnswerThen A R) e (answer_in r (Data b) P A R acked refused)
byte_in bits (Write to) r P A R e acked refused = cc
byte_in bits (Read from count) r P A R e acked refused = cc

-- ---- nodes

is_header : Sent → Bool
is_header (Write to) = true
is_header (Read from count) = true
is_header _ = false

again_in : (sent : Sent) (P Q : Language) → is_header sent ≡ true → In P Q → In (LedBy sent P) (AgainThen Q)
unfolding is_header
again_in (Write to) P Q e h [] p = absurd p
again_in (Write to) P Q e h (item.Again ∷ u) p = h u p
again_in (Write to) P Q e h (_ ∷ u) p = absurd p
again_in (Read from count) P Q e h [] p = absurd p
again_in (Read from count) P Q e h (item.Again ∷ u) p = h u p
again_in (Read from count) P Q e h (_ ∷ u) p = absurd p
again_in (Register b) P Q e h u p = cc
again_in (Data b) P Q e h u p = cc

writes_header : (address : Address) (sent : Sent) → writes address sent ≡ true → is_header sent ≡ true
unfolding is_header
writes_header address (Write to) e = refl
writes_header address (Read from count) e = cc
writes_header address (Register b) e = cc
writes_header address (Data b) e = cc

reads_header : (address : Address) (sent : Sent) → reads address sent ≡ true → is_header sent ≡ true
unfolding is_header
reads_header address (Write to) e = cc
reads_header address (Read from count) e = refl
reads_header address (Register b) e = cc
reads_header address (Data b) e = cc

takes_header : (t : FrameTree) (step : Step) (steps : List Step) → frame_takes t (step ∷ steps) ≡ true → is_header step.sent ≡ true
takes_header (write address acked refused) step steps e = writes_header address step.sent (both _ _ e).0
takes_header (read address count after refused) step steps e = reads_header address step.sent (both _ _ e).0

where_true : (r x y : Bool) → (if r then x else y) ≡ true → r ≡ true → x ≡ true
where_true true x y e is = e
where_true false x y e is = cc

where_false : (r x y : Bool) → (if r then x else y) ≡ true → r ≡ false → y ≡ true
where_false false x y e is = e
where_false true x y e is = cc

mutual
  pub frame_in : (t : FrameTree) (path : List Step) → frame_takes t path ≡ true → In (PathText path) (FrameText t)
  frame_in (write address acked refused) [] e = cc
  frame_in (read address count after refused) [] e = cc
  frame_in (write address acked refused) (step ∷ steps) e =
      let w = both _ _ e in
      write_in address step.sent step.refused (StepsText steps) (PayloadText acked) (TailText refused) w.0
      (λ r. payload_in acked steps (where_false _ _ _ w.1 r))
      (λ r. tail_in refused steps (where_true _ _ _ w.1 r))
  frame_in (read address count after refused) (step ∷ steps) e =
      let w = both _ _ e in
      read_in address step.sent step.refused (StepsText steps) (ReadThen count (TailText after)) (TailText refused) w.0
      (λ r. let c = both _ _ (where_false _ _ _ w.1 r) in read_bytes count step.sent (StepsText steps) (TailText after) c.0 (tail_in after steps c.1))
      (λ r. tail_in refused steps (where_true _ _ _ w.1 r))

  payload_in : (t : PayloadTree) (path : List Step) → payload_takes t path ≡ true → In (StepsText path) (PayloadText t)
  payload_in (byte bits acked refused) [] e = cc
  payload_in (byte bits acked refused) (step ∷ steps) e =
      let w = both _ _ e in
      byte_in bits step.sent step.refused (StepsText steps) (PayloadText acked) (TailText refused) w.0
      (λ r. payload_in acked steps (where_false _ _ _ w.1 r))
      (λ r. tail_in refused steps (where_true _ _ _ w.1 r))
  payload_in (last tail) path e = tail_in tail path e

  tail_in : (t : TailTree) (path : List Step) → tail_takes t path ≡ true → In (StepsText path) (TailText t)
  tail_in stop [] e = λ u p. p
  tail_in stop (step ∷ steps) e = cc
  tail_in (again frame) [] e = nothing_taken frame e
  tail_in (again frame) (step ∷ steps) e =
      again_in step.sent (StepThen step (StepsText steps)) (FrameText frame) (takes_header frame step steps e) (frame_in frame (step ∷ steps) e)

  nothing_taken : (t : FrameTree) → frame_takes t [] ≡ true → In (StepsText []) (TailText (again t))
  nothing_taken (write address acked refused) e = cc
  nothing_taken (read address count after refused) e = cc

-- who sends a message that takes the path leaves the marks of each of its texts
pub takes_all : (t : FrameTree) (path : List Step) → frame_takes t path ≡ true → (marks : List Mark) → HasMarks path marks → MayLeave (message t) marks
takes_all t path e marks (u, p, l) = (u, frame_in t path e u p, l)

-- a participant whose sender leaves them explains them
pub by_participant : (plan : Contents) (path : List Step) (p : ℕ) (s : Sender) → sender_at plan p ≡ Some s → ((marks : List Mark) → HasMarks path marks → MayLeave s marks) → HasPath plan path
by_participant plan path p s e f = (p, λ marks h. subst (λ (o : Option Sender). SomebodyMayLeave o marks) (sym e) (f marks h))
