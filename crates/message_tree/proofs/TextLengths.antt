-- How long texts are, for each part that a text is made of, and then for trees. A repeated START, a STOP and a claim count
-- `a` slots each: with 1 this is the length of a text, with 0 it is the number of its bits.
use Rattle.std.proofs.Common.{◌≡◌, ℕ, zero, suc, ◌+◌, ◌-◌, ◌*◌, ◌≤◌, max, true, false, List, [], ◌∷◌, ◌++◌, length, refl, subst, arith, length-append, inl, inr, add_assoc}
use Rattle.std.proofs.lemmas.Bool.{cases_lt}
use Rattle.message_tree.specs.declared.bits.Bit.{Bit}
use Rattle.message_tree.specs.declared.bits.Bit.TheVariants.{Zero, One}
use Rattle.message_tree.specs.declared.bits.Address.{Address}
use Rattle.message_tree.specs.declared.bits.Pattern.{Pattern}
use Rattle.message_tree.specs.declared.counts.Count.{Count}
use Rattle.message_tree.specs.declared.items.Item.{Item}
use Rattle.message_tree.specs.declared.items.Item.TheVariants.{Sent, Heard, Again, Stop, Claim}
use Rattle.message_tree.specs.Patterns.{pattern_bits, address_bits}
use Rattle.message_tree.specs.Counts.{greatest_of}
use Rattle.message_tree.specs.Trees.{FrameTree, write, read, PayloadTree, byte, last, TailTree, stop, again}
use Rattle.message_tree.specs.Texts.{Language, SentThen, HeardThen, AnswerThen, AgainThen, Only, ByteThen, BytesThen, ReadThen, write_header, read_header, FrameText, PayloadText, TailText, InterruptText}
use Rattle.message_tree.specs.Sizes.{IsMost, IsLongest, bits_in, frame_slots, payload_slots, tail_slots, frame_bytes, payload_bytes, tail_bytes}
use Rattle.message_tree.proofs.TextLaws.{allowed}

abbrev size : ℕ → List Item → ℕ
size a [] = 0
size a (Sent b ∷ u) = size a u + 1
size a (Heard b ∷ u) = size a u + 1
size a (_ ∷ u) = size a u + a

abbrev Longest : ℕ → Language → ℕ → Type 0
Longest a P n = IsMost (size a) P n

-- some text is n slots long, and none is longer
abbrev Reaches : ℕ → Language → ℕ → Type 0
Reaches a P n = (u : List Item) × P u × (size a u ≡ n)

abbrev Bounded : ℕ → Language → ℕ → Type 0
Bounded a P n = (u : List Item) → P u → size a u ≤ n

-- ---- bits that are sent

reaches_sent : (a : ℕ) → (bs : List Bit) (P : Language) (n : ℕ) → Reaches a P n → Reaches a (SentThen bs P) (n + length bs)
reaches_sent a [] P n h = (h.0, h.1, omega (arith, h.2))
reaches_sent a (b ∷ bs) P n h =
    let s = allowed b in
    let r = reaches_sent a bs P n h in
    (Sent s.0 ∷ r.0, (s.1, r.1), omega (arith, r.2))

bounded_sent : (a : ℕ) → (bs : List Bit) (P : Language) (n : ℕ) → Bounded a P n → Bounded a (SentThen bs P) (n + length bs)
bounded_sent a [] P n e u h = omega (arith, e u h)
bounded_sent a (b ∷ bs) P n e [] h = absurd h
bounded_sent a (b ∷ bs) P n e (Sent s ∷ u) h = omega (arith, bounded_sent a bs P n e u h.1)
bounded_sent a (b ∷ bs) P n e (_ ∷ u) h = absurd h

longest_sent : (a : ℕ) → (bs : List Bit) (P : Language) (n k : ℕ) → length bs ≡ k → Longest a P n → Longest a (SentThen bs P) (n + k)
longest_sent a bs P n k l h =
    let r = reaches_sent a bs P n h.reached in
    record {
      reached = (r.0, r.1, omega (arith, r.2));
      bound = λ u t. omega (arith, bounded_sent a bs P n h.bound u t);
    }

-- ---- bits that are heard

reaches_heard : (a : ℕ) → (k : ℕ) (P : Language) (n : ℕ) → Reaches a P n → Reaches a (HeardThen k P) (n + k)
reaches_heard a zero P n h = (h.0, h.1, omega (arith, h.2))
reaches_heard a (suc k) P n h =
    let r = reaches_heard a k P n h in
    (Heard true ∷ r.0, r.1, omega (arith, r.2))

bounded_heard : (a : ℕ) → (k : ℕ) (P : Language) (n : ℕ) → Bounded a P n → Bounded a (HeardThen k P) (n + k)
bounded_heard a zero P n e u h = omega (arith, e u h)
bounded_heard a (suc k) P n e [] h = absurd h
bounded_heard a (suc k) P n e (Heard s ∷ u) h = omega (arith, bounded_heard a k P n e u h)
bounded_heard a (suc k) P n e (_ ∷ u) h = absurd h

-- ---- an answer

bounded_answer : (a : ℕ) → (P Q : Language) (m n : ℕ) → Bounded a P m → Bounded a Q n → Bounded a (AnswerThen P Q) (max m n + 1)
bounded_answer a P Q m n e f [] h = absurd h
bounded_answer a P Q m n e f (Heard false ∷ u) h = omega (arith, e u h)
bounded_answer a P Q m n e f (Heard true ∷ u) h = omega (arith, f u h)
bounded_answer a P Q m n e f (_ ∷ u) h = absurd h

reaches_answer : (a : ℕ) → (P Q : Language) (m n : ℕ) → Reaches a P m → Reaches a Q n → Reaches a (AnswerThen P Q) (max m n + 1)
reaches_answer a P Q m n e f =
    elim (cases_lt n m) [
      | inl h ↦ (Heard false ∷ e.0, e.1, omega (arith, e.2, h))
      | inr h ↦ (Heard true ∷ f.0, f.1, omega (arith, f.2, h))
    ]

longest_answer : (a : ℕ) → (P Q : Language) (m n : ℕ) → Longest a P m → Longest a Q n → Longest a (AnswerThen P Q) (max m n + 1)
longest_answer a P Q m n e f =
    record {
      reached = reaches_answer a P Q m n e.reached f.reached;
      bound = bounded_answer a P Q m n e.bound f.bound;
    }

-- ---- bytes that are read

reaches_byte : (a : ℕ) → (k : Bit) (P : Language) (n : ℕ) → Reaches a P n → Reaches a (ByteThen k P) (n + 1 + 8)
reaches_byte a k P n h = reaches_heard a 8 (SentThen (k ∷ []) P) (n + 1) (reaches_sent a (k ∷ []) P n h)

bounded_byte : (a : ℕ) → (k : Bit) (P : Language) (n : ℕ) → Bounded a P n → Bounded a (ByteThen k P) (n + 1 + 8)
bounded_byte a k P n h = bounded_heard a 8 (SentThen (k ∷ []) P) (n + 1) (bounded_sent a (k ∷ []) P n h)

reaches_bytes : (a : ℕ) → (k : ℕ) (P : Language) (n : ℕ) → Reaches a P n → Reaches a (BytesThen k P) (n + 9 * k)
reaches_bytes a zero P n h = (h.0, h.1, omega (arith, h.2))
reaches_bytes a (suc k) P n h =
    let r = reaches_byte a Zero (BytesThen k P) (n + 9 * k) (reaches_bytes a k P n h) in
    (r.0, r.1, omega (arith, r.2))

bounded_bytes : (a : ℕ) → (k : ℕ) (P : Language) (n : ℕ) → Bounded a P n → Bounded a (BytesThen k P) (n + 9 * k)
bounded_bytes a zero P n h u t = omega (arith, h u t)
bounded_bytes a (suc k) P n h u t =
    omega (arith, bounded_byte a Zero (BytesThen k P) (n + 9 * k) (bounded_bytes a k P n h) u t)

longest_read : (a : ℕ) → (count : Count) (P : Language) (n : ℕ) → Longest a P n → Longest a (ReadThen count P) (n + 9 * greatest_of count)
longest_read a count P n h =
    let more = count.greatest - 1 in
    let r = reaches_bytes a more (ByteThen One P) (n + 1 + 8) (reaches_byte a One P n h.reached) in
    record {
      reached = (r.0, (more, (omega arith, omega arith), r.1), omega (arith, r.2));
      bound = λ u t. omega (arith, t.1.1, bounded_bytes a t.0 (ByteThen One P) (n + 1 + 8) (bounded_byte a One P n h.bound) u t.2);
    }

-- ---- a repeated START, and an end

bounded_again : (a : ℕ) → (P : Language) (n : ℕ) → Bounded a P n → Bounded a (AgainThen P) (n + a)
bounded_again a P n e [] h = absurd h
bounded_again a P n e (Again ∷ u) h = omega (arith, e u h)
bounded_again a P n e (_ ∷ u) h = absurd h

longest_again : (a : ℕ) → (P : Language) (n : ℕ) → Longest a P n → Longest a (AgainThen P) (n + a)
longest_again a P n h =
    record {
      reached = (Again ∷ h.reached.0, h.reached.1, omega (arith, h.reached.2));
      bound = bounded_again a P n h.bound;
    }

longest_only : (a : ℕ) (x : Item) → size a (x ∷ []) ≡ a → Longest a (Only x) a
longest_only a x e = record { reached = (x ∷ [], refl, e); bound = λ u h. rw h (omega (arith, e)) }

-- ---- trees

-- the longest text's slots
abbrev mutual
  frame_size : ℕ → FrameTree → ℕ
  frame_size a (write address acked refused) = max (payload_size a acked) (tail_size a refused) + 9
  frame_size a (read address count after refused) = max (tail_size a after + 9 * greatest_of count) (tail_size a refused) + 9

  payload_size : ℕ → PayloadTree → ℕ
  payload_size a (byte bits acked refused) = max (payload_size a acked) (tail_size a refused) + 9
  payload_size a (last tail) = tail_size a tail

  tail_size : ℕ → TailTree → ℕ
  tail_size a stop = a
  tail_size a (again frame) = frame_size a frame + a

length_with_one : (bs : List Bit) → length (bs ++ One ∷ []) ≡ length bs + 1
length_with_one bs = simp length-append

length_of_write : (b : Address) → length (write_header b) ≡ 8
unfolding address_bits
length_of_write b = refl

length_of_read : (b : Address) → length (read_header b) ≡ 8
unfolding address_bits
length_of_read b = refl

length_of_pattern : (p : Pattern) → length (pattern_bits p) ≡ 8
unfolding pattern_bits
length_of_pattern p = refl

-- a header or a byte, and the answer to it
longest_answered : (a : ℕ) (bs : List Bit) → length bs ≡ 8 → (P Q : Language) (m n : ℕ) → Longest a P m → Longest a Q n → Longest a (SentThen bs (AnswerThen P Q)) (max m n + 9)
longest_answered a bs l P Q m n e f =
    subst (Longest a (SentThen bs (AnswerThen P Q))) (add_assoc (max m n) 1 8) (longest_sent a bs (AnswerThen P Q) (max m n + 1) 8 l (longest_answer a P Q m n e f))

mutual
  most_frame : (a : ℕ) (f : FrameTree) → Longest a (FrameText f) (frame_size a f)
  most_frame a (write address acked refused) =
      longest_answered a (write_header address) (length_of_write address) (PayloadText acked) (TailText refused) (payload_size a acked) (tail_size a refused) (most_payload a acked) (most_tail a refused)
  most_frame a (read address count after refused) =
      longest_answered a (read_header address) (length_of_read address) (ReadThen count (TailText after)) (TailText refused) (tail_size a after + 9 * greatest_of count) (tail_size a refused) (longest_read a count (TailText after) (tail_size a after) (most_tail a after)) (most_tail a refused)

  most_payload : (a : ℕ) (p : PayloadTree) → Longest a (PayloadText p) (payload_size a p)
  most_payload a (byte bits acked refused) =
      longest_answered a (pattern_bits bits) (length_of_pattern bits) (PayloadText acked) (TailText refused) (payload_size a acked) (tail_size a refused) (most_payload a acked) (most_tail a refused)
  most_payload a (last tail) = most_tail a tail

  most_tail : (a : ℕ) (t : TailTree) → Longest a (TailText t) (tail_size a t)
  most_tail a stop = longest_only a Stop (omega arith)
  most_tail a (again frame) = longest_again a (FrameText frame) (frame_size a frame) (most_frame a frame)

-- ---- with 1 for an end, the length

is_length : (u : List Item) → size 1 u ≡ length u
is_length [] = refl
is_length (Sent b ∷ u) = omega (arith, is_length u)
is_length (Heard b ∷ u) = omega (arith, is_length u)
is_length (_ ∷ u) = omega (arith, is_length u)

in_length : (P : Language) (m n : ℕ) → m ≡ n → Longest 1 P m → IsLongest P n
in_length P m n e h =
    record {
      reached = (h.reached.0, h.reached.1, omega (arith, h.reached.2, is_length h.reached.0));
      bound = λ u t. omega (arith, h.bound u t, is_length u);
    }

mutual
  frame_slots_are : (f : FrameTree) → frame_size 1 f ≡ frame_slots f
  frame_slots_are (write address acked refused) = omega (arith, payload_slots_are acked, tail_slots_are refused)
  frame_slots_are (read address count after refused) = omega (arith, tail_slots_are after, tail_slots_are refused)

  payload_slots_are : (p : PayloadTree) → payload_size 1 p ≡ payload_slots p
  payload_slots_are (byte bits acked refused) = omega (arith, payload_slots_are acked, tail_slots_are refused)
  payload_slots_are (last tail) = tail_slots_are tail

  tail_slots_are : (t : TailTree) → tail_size 1 t ≡ tail_slots t
  tail_slots_are stop = refl
  tail_slots_are (again frame) = omega (arith, frame_slots_are frame)

pub longest_frame : (f : FrameTree) → IsLongest (FrameText f) (frame_slots f)
longest_frame f = in_length (FrameText f) (frame_size 1 f) (frame_slots f) (frame_slots_are f) (most_frame 1 f)

pub longest_interrupt : (address : List Bit) → IsLongest (InterruptText address) (length address + 2)
longest_interrupt address =
    in_length (InterruptText address) (1 + (length address + 1)) (length address + 2) (omega arith) (longest_sent 1 (address ++ One ∷ []) (Only Claim) 1 (length address + 1) (length_with_one address) (longest_only 1 Claim (omega arith)))

-- ---- with 0 for an end, the bits

is_bits : (u : List Item) → size 0 u ≡ bits_in u
is_bits [] = refl
is_bits (Sent b ∷ u) = omega (arith, is_bits u)
is_bits (Heard b ∷ u) = omega (arith, is_bits u)
is_bits (_ ∷ u) = omega (arith, is_bits u)

mutual
  frame_bytes_are : (f : FrameTree) → frame_size 0 f ≡ 9 * frame_bytes f
  frame_bytes_are (write address acked refused) = omega (arith, payload_bytes_are acked, tail_bytes_are refused)
  frame_bytes_are (read address count after refused) = omega (arith, tail_bytes_are after, tail_bytes_are refused)

  payload_bytes_are : (p : PayloadTree) → payload_size 0 p ≡ 9 * payload_bytes p
  payload_bytes_are (byte bits acked refused) = omega (arith, payload_bytes_are acked, tail_bytes_are refused)
  payload_bytes_are (last tail) = tail_bytes_are tail

  tail_bytes_are : (t : TailTree) → tail_size 0 t ≡ 9 * tail_bytes t
  tail_bytes_are stop = refl
  tail_bytes_are (again frame) = omega (arith, frame_bytes_are frame)

pub most_bits_frame : (f : FrameTree) → IsMost bits_in (FrameText f) (9 * frame_bytes f)
most_bits_frame f =
    let h = most_frame 0 f in
    record {
      reached = (h.reached.0, h.reached.1, omega (arith, h.reached.2, is_bits h.reached.0, frame_bytes_are f));
      bound = λ u t. omega (arith, h.bound u t, is_bits u, frame_bytes_are f);
    }

-- ---- ten slots a byte are enough

mutual
  pub frame_slots_le : (f : FrameTree) → frame_slots f ≤ 10 * frame_bytes f
  frame_slots_le (write address acked refused) = omega (arith, payload_slots_le acked, tail_slots_le refused)
  frame_slots_le (read address count after refused) = omega (arith, tail_slots_le after, tail_slots_le refused)

  payload_slots_le : (p : PayloadTree) → payload_slots p ≤ 10 * payload_bytes p + 1
  payload_slots_le (byte bits acked refused) = omega (arith, payload_slots_le acked, tail_slots_le refused)
  payload_slots_le (last tail) = tail_slots_le tail

  tail_slots_le : (t : TailTree) → tail_slots t ≤ 10 * tail_bytes t + 1
  tail_slots_le stop = omega arith
  tail_slots_le (again frame) = omega (arith, frame_slots_le frame)
