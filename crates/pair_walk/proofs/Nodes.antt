-- The first clash of two trees, node by node.
use Rattle.std.proofs.Common.{◌≡◌, ℕ, ◌+◌, min, Bool, true, false, Option, Some, None, MatchOption, unwrap_or, List, [], ◌∷◌, ◌++◌, length, reverse, refl, ap, sym, ◌∙◌, subst, inl, inr}
use Rattle.message_tree.specs.declared.bits.Bit.{Bit}
use Rattle.message_tree.specs.declared.bits.Bit.TheVariants.{Zero, One}
use Rattle.message_tree.specs.declared.bits.Address.{Address}
use Rattle.message_tree.specs.declared.bits.Pattern.{Pattern}
use Rattle.message_tree.specs.declared.counts.Count.{Count}
use Rattle.message_tree.specs.declared.items.Item.{Item}
use Rattle.message_tree.specs.declared.items.Item.TheVariants.{Sent, Heard, Again, Stop}
use Rattle.message_tree.specs.declared.items.Kind.{Kind}
use Rattle.message_tree.specs.declared.items.Kind.TheVariants as kind
use Rattle.std.specs.Int.{bit_at}
use Rattle.message_tree.proofs.TextLaws.{lawful_frame, lawful_payload}
use Rattle.message_tree.specs.Bits.{bit_from, bits_below, SplitAt, IsFirstSplit, NeverSplit}
use Rattle.message_tree.specs.Counts.{Meet, greatest_of}
use Rattle.message_tree.specs.Items.{KindsClash}
use Rattle.message_tree.specs.Patterns.{pattern_bits, address_bits}
use Rattle.message_tree.specs.Trees as tree
use Rattle.message_tree.specs.Trees.{FrameTree, PayloadTree, TailTree}
use Rattle.message_tree.specs.Texts.{Language, SentThen, AnswerThen, ReadThen, write_header, read_header, FrameText, PayloadText, TailText}
use Rattle.certificate.specs.Proofs.{ProofTree, part, byte, read, again, alike}
use Rattle.certificate.specs.Laws.{NeverClash}
use Rattle.certificate.specs.Proves.{ProvesFrames, ProvesPayloads, ProvesTails}
use Rattle.certificate.proofs.Soundness.{never_read, sound_payloads, sound_tails}
use Rattle.pair_walk.specs.declared.halts.Halt.{Halt}
use Rattle.pair_walk.specs.declared.halts.Halt.TheVariants.{NoMemory}
use Rattle.pair_walk.specs.declared.halts.Halt.TheVariants as halt
use Rattle.pair_walk.specs.Canonical.{CanonicalFrames, CanonicalReads, CanonicalPayloads, CanonicalTails}
use Rattle.pair_walk.specs.Compare.{Halts, HaltsBehind, ClashesAtOnce, kind_of_tail}
use Rattle.pair_walk.specs.FirstClash.{GoesOnWith, IsFirstClash}
use Rattle.pair_walk.specs.Wires.{agreed, read_wire}
use Rattle.pair_walk.proofs.First.{first_sent, first_acked, first_refused, first_again, first_here, first_read}
use Rattle.pair_walk.proofs.HeaderLemmas.{never_in_header, first_in_header, first_is_direction}

-- ---- what a comparison answers

-- a first clash of the parts is, after these items, one of the whole
pub halts_behind : (P Q R S : Language) (items : List Item) (h r : Halt) → ((u : List Item) (j k : Kind) → IsFirstClash P Q u j k → IsFirstClash R S (items ++ u) j k) → Halts P Q h → HaltsBehind items h r → Halts R S r
halts_behind P Q R S items (halt.Clash c) (halt.Clash d) f p b =
    let whole = f (reverse c.back.items) c.first c.second p in
    subst (λ (u : List Item). IsFirstClash R S u d.first d.second) (sym b.0) (subst (λ (j : Kind). IsFirstClash R S (items ++ reverse c.back.items) j d.second) (sym b.1) (subst (λ (k : Kind). IsFirstClash R S (items ++ reverse c.back.items) c.first k) (sym b.2) whole))
halts_behind P Q R S items halt.NoMemory (halt.Clash d) f p b = absurd b
halts_behind P Q R S items h halt.NoMemory f p b = tt

-- a clash at once
pub halts_at_once : (P Q : Language) (j k : Kind) (h : Halt) → GoesOnWith P [] j → GoesOnWith Q [] k → KindsClash j k → ClashesAtOnce j k h → Halts P Q h
halts_at_once P Q j k (halt.Clash c) f g n e =
    let here = first_here P Q j k f g n in
    let none : reverse c.back.items ≡ [] = ap reverse e.0 in
    subst (λ (u : List Item). IsFirstClash P Q u c.first c.second) (sym none) (subst (λ (a : Kind). IsFirstClash P Q [] a c.second) (sym e.1) (subst (λ (b : Kind). IsFirstClash P Q [] j b) (sym e.2) here))
halts_at_once P Q j k halt.NoMemory f g n e = absurd e

-- ---- a proof of a verdict proves

mutual
  pub frames_proved : (p : ProofTree) (f g : FrameTree) → CanonicalFrames p f g → ProvesFrames p f g
  frames_proved (part k) f g h = h.splits
  frames_proved (byte p q) (tree.write a x r) (tree.write b y s) h = (payloads_proved p x y h.1, tails_proved q r s h.2)
  frames_proved (read p q) (tree.read a c x r) (tree.read b d y s) h =
      (elim h.1 [ inl e ↦ inl e | inr m ↦ inr (m.0, tails_proved p x y m.1) ], tails_proved q r s h.2)
  frames_proved _ f g h = absurd h

  pub payloads_proved : (p : ProofTree) (x y : PayloadTree) → CanonicalPayloads p x y → ProvesPayloads p x y
  payloads_proved (part k) (tree.byte a x r) (tree.byte b y s) h = h.splits
  payloads_proved (byte p q) (tree.byte a x r) (tree.byte b y s) h = (payloads_proved p x y h.1, tails_proved q r s h.2)
  payloads_proved p (tree.last r) (tree.last s) h = tails_proved p r s h
  payloads_proved _ x y h = absurd h

  pub tails_proved : (p : ProofTree) (r s : TailTree) → CanonicalTails p r s → ProvesTails p r s
  tails_proved alike tree.stop tree.stop h = tt
  tails_proved (again p) (tree.again f) (tree.again g) h = frames_proved p f g h
  tails_proved _ r s h = absurd h

reads_never_clash : (p : ProofTree) (c d : Count) (x y : TailTree) → CanonicalReads p c d x y → NeverClash (ReadThen c (TailText x)) (ReadThen d (TailText y))
reads_never_clash p c d x y h =
    never_read c d (TailText x) (TailText y) (λ m. elim h [ inl e ↦ absurd (e.1 m) | inr k ↦ sound_tails p x y (tails_proved p x y k.1) ])

-- ---- headers and bytes

length_of_addresses : (a b : Address) → length (address_bits a) ≡ length (address_bits b)
unfolding address_bits
length_of_addresses a b = refl

length_of_write : (a b : Address) → length (write_header a) ≡ length (write_header b)
unfolding address_bits
length_of_write a b = refl

length_of_read : (a b : Address) → length (read_header a) ≡ length (read_header b)
unfolding address_bits
length_of_read a b = refl

length_of_patterns : (p q : Pattern) → length (pattern_bits p) ≡ length (pattern_bits q)
unfolding pattern_bits
length_of_patterns p q = refl

write_wire : (a b : Address) (answer : Bool) (u : List Item) → agreed (write_header a) (write_header b) ++ Heard answer ∷ u ≡ (agreed (address_bits a) (address_bits b) ++ (Sent false ∷ Heard answer ∷ [])) ++ u
unfolding address_bits
write_wire a b answer u = refl

read_header_wire : (a b : Address) (answer : Bool) (u : List Item) → agreed (read_header a) (read_header b) ++ Heard answer ∷ u ≡ (agreed (address_bits a) (address_bits b) ++ (Sent true ∷ Heard answer ∷ [])) ++ u
unfolding address_bits
read_header_wire a b answer u = refl

byte_wire : (p q : Pattern) (answer : Bool) (u : List Item) → agreed (pattern_bits p) (pattern_bits q) ++ Heard answer ∷ u ≡ (agreed (pattern_bits p) (pattern_bits q) ++ Heard answer ∷ []) ++ u
unfolding pattern_bits
byte_wire p q answer u = refl

-- ---- a clash after two headers or two bytes

module _ (a b : Address) (x : PayloadTree) (r : TailTree) (y : PayloadTree) (s : TailTree) (n : NeverSplit (address_bits a) (address_bits b)) where
  write_headers : NeverSplit (write_header a) (write_header b)
  write_headers = never_in_header (address_bits a) (address_bits b) Zero (length_of_addresses a b) n

  write_acked : (u : List Item) (j k : Kind) → IsFirstClash (PayloadText x) (PayloadText y) u j k → IsFirstClash (FrameText (tree.write a x r)) (FrameText (tree.write b y s)) ((agreed (address_bits a) (address_bits b) ++ (Sent false ∷ Heard false ∷ [])) ++ u) j k
  write_acked u j k f =
      let P = AnswerThen (PayloadText x) (TailText r) in
      let Q = AnswerThen (PayloadText y) (TailText s) in
      subst (λ (w : List Item). IsFirstClash (SentThen (write_header a) P) (SentThen (write_header b) Q) w j k) (write_wire a b false u) (first_sent (write_header a) (write_header b) P Q (Heard false ∷ u) j k (length_of_write a b) write_headers (first_acked (PayloadText x) (TailText r) (PayloadText y) (TailText s) u j k f))

  write_refused : (p : ProofTree) → CanonicalPayloads p x y → (u : List Item) (j k : Kind) → IsFirstClash (TailText r) (TailText s) u j k → IsFirstClash (FrameText (tree.write a x r)) (FrameText (tree.write b y s)) ((agreed (address_bits a) (address_bits b) ++ (Sent false ∷ Heard true ∷ [])) ++ u) j k
  write_refused p c u j k f =
      let P = AnswerThen (PayloadText x) (TailText r) in
      let Q = AnswerThen (PayloadText y) (TailText s) in
      subst (λ (w : List Item). IsFirstClash (SentThen (write_header a) P) (SentThen (write_header b) Q) w j k) (write_wire a b true u) (first_sent (write_header a) (write_header b) P Q (Heard true ∷ u) j k (length_of_write a b) write_headers (first_refused (PayloadText x) (TailText r) (PayloadText y) (TailText s) u j k (sound_payloads p x y (payloads_proved p x y c)) f))

  pub writes_acked : (items : List Item) → items ≡ agreed (address_bits a) (address_bits b) ++ (Sent false ∷ Heard false ∷ []) → (h m : Halt) → Halts (PayloadText x) (PayloadText y) h → HaltsBehind items h m → Halts (FrameText (tree.write a x r)) (FrameText (tree.write b y s)) m
  writes_acked items i h m p q =
      halts_behind (PayloadText x) (PayloadText y) (FrameText (tree.write a x r)) (FrameText (tree.write b y s)) items h m (λ u j k c. rw i (write_acked u j k c)) p q

  pub writes_refused : (items : List Item) → items ≡ agreed (address_bits a) (address_bits b) ++ (Sent false ∷ Heard true ∷ []) → (acked : ProofTree) → CanonicalPayloads acked x y → (h m : Halt) → Halts (TailText r) (TailText s) h → HaltsBehind items h m → Halts (FrameText (tree.write a x r)) (FrameText (tree.write b y s)) m
  writes_refused items i acked e h m p q =
      halts_behind (TailText r) (TailText s) (FrameText (tree.write a x r)) (FrameText (tree.write b y s)) items h m (λ u j k c. rw i (write_refused acked e u j k c)) p q

  pub writes_proved : (acked refused : ProofTree) → CanonicalPayloads acked x y → CanonicalTails refused r s → CanonicalFrames (byte acked refused) (tree.write a x r) (tree.write b y s)
  writes_proved acked refused e t = (write_headers, e, t)

module _ (a b : Address) (c d : Count) (x r y s : TailTree) (n : NeverSplit (address_bits a) (address_bits b)) where
  read_headers : NeverSplit (read_header a) (read_header b)
  read_headers = never_in_header (address_bits a) (address_bits b) One (length_of_addresses a b) n

  read_acked : (u : List Item) (j k : Kind) → IsFirstClash (ReadThen c (TailText x)) (ReadThen d (TailText y)) u j k → IsFirstClash (FrameText (tree.read a c x r)) (FrameText (tree.read b d y s)) ((agreed (address_bits a) (address_bits b) ++ (Sent true ∷ Heard false ∷ [])) ++ u) j k
  read_acked u j k f =
      let P = AnswerThen (ReadThen c (TailText x)) (TailText r) in
      let Q = AnswerThen (ReadThen d (TailText y)) (TailText s) in
      subst (λ (w : List Item). IsFirstClash (SentThen (read_header a) P) (SentThen (read_header b) Q) w j k) (read_header_wire a b false u) (first_sent (read_header a) (read_header b) P Q (Heard false ∷ u) j k (length_of_read a b) read_headers (first_acked (ReadThen c (TailText x)) (TailText r) (ReadThen d (TailText y)) (TailText s) u j k f))

  read_refused : (p : ProofTree) → CanonicalReads p c d x y → (u : List Item) (j k : Kind) → IsFirstClash (TailText r) (TailText s) u j k → IsFirstClash (FrameText (tree.read a c x r)) (FrameText (tree.read b d y s)) ((agreed (address_bits a) (address_bits b) ++ (Sent true ∷ Heard true ∷ [])) ++ u) j k
  read_refused p h u j k f =
      let P = AnswerThen (ReadThen c (TailText x)) (TailText r) in
      let Q = AnswerThen (ReadThen d (TailText y)) (TailText s) in
      subst (λ (w : List Item). IsFirstClash (SentThen (read_header a) P) (SentThen (read_header b) Q) w j k) (read_header_wire a b true u) (first_sent (read_header a) (read_header b) P Q (Heard true ∷ u) j k (length_of_read a b) read_headers (first_refused (ReadThen c (TailText x)) (TailText r) (ReadThen d (TailText y)) (TailText s) u j k (reads_never_clash p c d x y h) f))

  pub reads_acked : (items : List Item) → items ≡ agreed (address_bits a) (address_bits b) ++ (Sent true ∷ Heard false ∷ []) → (h m : Halt) → Halts (ReadThen c (TailText x)) (ReadThen d (TailText y)) h → HaltsBehind items h m → Halts (FrameText (tree.read a c x r)) (FrameText (tree.read b d y s)) m
  reads_acked items i h m p q =
      halts_behind (ReadThen c (TailText x)) (ReadThen d (TailText y)) (FrameText (tree.read a c x r)) (FrameText (tree.read b d y s)) items h m (λ u j k e. rw i (read_acked u j k e)) p q

  pub reads_refused : (items : List Item) → items ≡ agreed (address_bits a) (address_bits b) ++ (Sent true ∷ Heard true ∷ []) → (after : ProofTree) → CanonicalReads after c d x y → (h m : Halt) → Halts (TailText r) (TailText s) h → HaltsBehind items h m → Halts (FrameText (tree.read a c x r)) (FrameText (tree.read b d y s)) m
  reads_refused items i after e h m p q =
      halts_behind (TailText r) (TailText s) (FrameText (tree.read a c x r)) (FrameText (tree.read b d y s)) items h m (λ u j k t. rw i (read_refused after e u j k t)) p q

  pub reads_proved : (after refused : ProofTree) → CanonicalReads after c d x y → CanonicalTails refused r s → CanonicalFrames (read after refused) (tree.read a c x r) (tree.read b d y s)
  reads_proved after refused e t = (read_headers, e, t)

module _ (a b : Pattern) (x : PayloadTree) (r : TailTree) (y : PayloadTree) (s : TailTree) (n : NeverSplit (pattern_bits a) (pattern_bits b)) where
  byte_acked : (u : List Item) (j k : Kind) → IsFirstClash (PayloadText x) (PayloadText y) u j k → IsFirstClash (PayloadText (tree.byte a x r)) (PayloadText (tree.byte b y s)) ((agreed (pattern_bits a) (pattern_bits b) ++ Heard false ∷ []) ++ u) j k
  byte_acked u j k f =
      let P = AnswerThen (PayloadText x) (TailText r) in
      let Q = AnswerThen (PayloadText y) (TailText s) in
      subst (λ (w : List Item). IsFirstClash (SentThen (pattern_bits a) P) (SentThen (pattern_bits b) Q) w j k) (byte_wire a b false u) (first_sent (pattern_bits a) (pattern_bits b) P Q (Heard false ∷ u) j k (length_of_patterns a b) n (first_acked (PayloadText x) (TailText r) (PayloadText y) (TailText s) u j k f))

  byte_refused : (p : ProofTree) → CanonicalPayloads p x y → (u : List Item) (j k : Kind) → IsFirstClash (TailText r) (TailText s) u j k → IsFirstClash (PayloadText (tree.byte a x r)) (PayloadText (tree.byte b y s)) ((agreed (pattern_bits a) (pattern_bits b) ++ Heard true ∷ []) ++ u) j k
  byte_refused p c u j k f =
      let P = AnswerThen (PayloadText x) (TailText r) in
      let Q = AnswerThen (PayloadText y) (TailText s) in
      subst (λ (w : List Item). IsFirstClash (SentThen (pattern_bits a) P) (SentThen (pattern_bits b) Q) w j k) (byte_wire a b true u) (first_sent (pattern_bits a) (pattern_bits b) P Q (Heard true ∷ u) j k (length_of_patterns a b) n (first_refused (PayloadText x) (TailText r) (PayloadText y) (TailText s) u j k (sound_payloads p x y (payloads_proved p x y c)) f))

  pub bytes_acked : (items : List Item) → items ≡ agreed (pattern_bits a) (pattern_bits b) ++ Heard false ∷ [] → (h m : Halt) → Halts (PayloadText x) (PayloadText y) h → HaltsBehind items h m → Halts (PayloadText (tree.byte a x r)) (PayloadText (tree.byte b y s)) m
  bytes_acked items i h m p q =
      halts_behind (PayloadText x) (PayloadText y) (PayloadText (tree.byte a x r)) (PayloadText (tree.byte b y s)) items h m (λ u j k c. rw i (byte_acked u j k c)) p q

  pub bytes_refused : (items : List Item) → items ≡ agreed (pattern_bits a) (pattern_bits b) ++ Heard true ∷ [] → (acked : ProofTree) → CanonicalPayloads acked x y → (h m : Halt) → Halts (TailText r) (TailText s) h → HaltsBehind items h m → Halts (PayloadText (tree.byte a x r)) (PayloadText (tree.byte b y s)) m
  bytes_refused items i acked e h m p q =
      halts_behind (TailText r) (TailText s) (PayloadText (tree.byte a x r)) (PayloadText (tree.byte b y s)) items h m (λ u j k c. rw i (byte_refused acked e u j k c)) p q

-- ---- clashes at once

begins_sent : (b : Bit) (bs : List Bit) (P : Language) (u : List Item) → SentThen (b ∷ bs) P u → GoesOnWith (SentThen (b ∷ bs) P) [] kind.Sent
begins_sent b bs P [] h = absurd h
begins_sent b bs P (Sent s ∷ u) h = (Sent s, u, h, refl)
begins_sent b bs P (_ ∷ u) h = absurd h

byte_begins : (a : Pattern) (x : PayloadTree) (r : TailTree) → GoesOnWith (PayloadText (tree.byte a x r)) [] kind.Sent
unfolding pattern_bits
byte_begins a x r =
    let t = (lawful_payload (tree.byte a x r)).some in
    begins_sent (bit_from (bit_at a.known 7) (bit_at a.value 7)) (bits_below 7 a.known a.value) (AnswerThen (PayloadText x) (TailText r)) t.0 t.1

tail_begins : (t : TailTree) → GoesOnWith (TailText t) [] (kind_of_tail t)
tail_begins tree.stop = (Stop, [], refl, refl)
tail_begins (tree.again f) = let u = (lawful_frame f).some in (Again, u.0, u.1, refl)

sent_is_no_end : (t : TailTree) → kind.Sent ≡ kind_of_tail t → ⊥
sent_is_no_end tree.stop e = cc
sent_is_no_end (tree.again f) e = cc

pub byte_meets_tail : (v w : PayloadTree) (a : Pattern) (x : PayloadTree) (r t : TailTree) → v ≡ tree.byte a x r → w ≡ tree.last t → (k : Kind) → k ≡ kind_of_tail t → (h : Halt) → ClashesAtOnce kind.Sent k h → Halts (PayloadText v) (PayloadText w) h
byte_meets_tail v w a x r t e f k i h c =
    rw (e, f) (halts_at_once (PayloadText (tree.byte a x r)) (TailText t) kind.Sent (kind_of_tail t) h (byte_begins a x r) (tail_begins t) (inl (sent_is_no_end t)) (rw i at c))

pub tail_meets_byte : (v w : PayloadTree) (a : Pattern) (x : PayloadTree) (r t : TailTree) → w ≡ tree.byte a x r → v ≡ tree.last t → (k : Kind) → k ≡ kind_of_tail t → (h : Halt) → ClashesAtOnce k kind.Sent h → Halts (PayloadText v) (PayloadText w) h
tail_meets_byte v w a x r t e f k i h c =
    rw (e, f) (halts_at_once (TailText t) (PayloadText (tree.byte a x r)) (kind_of_tail t) kind.Sent h (tail_begins t) (byte_begins a x r) (inl (λ d. sent_is_no_end t (sym d))) (rw i at c))

pub stop_meets_again : (v w : TailTree) (f : FrameTree) → v ≡ tree.stop → w ≡ tree.again f → (h : Halt) → ClashesAtOnce kind.Stop kind.Again h → Halts (TailText v) (TailText w) h
stop_meets_again v w f e g h c =
    rw (e, g) (halts_at_once (TailText tree.stop) (TailText (tree.again f)) kind.Stop kind.Again h (tail_begins tree.stop) (tail_begins (tree.again f)) (inl (λ d. cc)) c)

pub again_meets_stop : (v w : TailTree) (f : FrameTree) → v ≡ tree.again f → w ≡ tree.stop → (h : Halt) → ClashesAtOnce kind.Again kind.Stop h → Halts (TailText v) (TailText w) h
again_meets_stop v w f e g h c =
    rw (e, g) (halts_at_once (TailText (tree.again f)) (TailText tree.stop) kind.Again kind.Stop h (tail_begins (tree.again f)) (tail_begins tree.stop) (inl (λ d. cc)) c)

-- ---- repeated STARTs, and reads

pub tails_again : (v w : TailTree) (f g : FrameTree) → v ≡ tree.again f → w ≡ tree.again g → (h m : Halt) → Halts (FrameText f) (FrameText g) h → HaltsBehind (Again ∷ []) h m → Halts (TailText v) (TailText w) m
tails_again v w f g e i h m p q =
    rw (e, i) (halts_behind (FrameText f) (FrameText g) (TailText (tree.again f)) (TailText (tree.again g)) (Again ∷ []) h m (λ u j k c. first_again (FrameText f) (FrameText g) u j k c) p q)

pub reads_halt : (c d : Count) (x y : TailTree) (more : ℕ) → Meet c d → more + 1 ≡ min (greatest_of c) (greatest_of d) → (h m : Halt) → Halts (TailText x) (TailText y) h → HaltsBehind (read_wire more) h m → Halts (ReadThen c (TailText x)) (ReadThen d (TailText y)) m
reads_halt c d x y more meet e h m p q =
    halts_behind (TailText x) (TailText y) (ReadThen c (TailText x)) (ReadThen d (TailText y)) (read_wire more) h m (λ u j k f. first_read c d more (TailText x) (TailText y) u j k meet e f) p q

-- ---- headers of two directions

pub directions_split : (xs ys hs is : List Bit) (y z : Bit) (found : Option ℕ) (k : ℕ) → hs ≡ xs ++ y ∷ [] → is ≡ ys ++ z ∷ [] → length xs ≡ 7 → length ys ≡ 7 → SplitAt (y ∷ []) (z ∷ []) 0 → MatchOption found (NeverSplit xs ys) (λ place. IsFirstSplit xs ys place) → k ≡ unwrap_or found 7 → IsFirstSplit hs is k
directions_split xs ys hs is y z None k e f l m s h u =
    rw (e, f, u, ← l) (first_is_direction xs ys y z (l ∙ sym m) s h)
directions_split xs ys hs is y z (Some place) k e f l m s h u =
    rw (e, f, u) (first_in_header xs ys (y ∷ []) (z ∷ []) place h)

pub length_of_address : (a : Address) → length (address_bits a) ≡ 7
unfolding address_bits
length_of_address a = refl
