-- What comes next in a part of what a participant sends, and what is left after it.
use Rattle.std.proofs.Common.{◌≡◌, ℕ, zero, suc, ◌+◌, ◌-◌, ◌<◌, ◌≤◌, true, false, Some, List, [], ◌∷◌, length, drop, slice_get, refl, ap, sym, ◌∙◌, subst, arith, inl, inr, ◌↔◌}
use Rattle.std.proofs.lemmas.Bool.{cases_lt}
use Rattle.std.proofs.lemmas.List.{drop_more, drop_all}
use Rattle.std.proofs.lemmas.Option.{slice_get_within, get_or_from_slice_get}
use Rattle.message_tree.specs.declared.bits.Bit.{Bit}
use Rattle.message_tree.specs.declared.bits.Bit.TheVariants.{Zero, One}
use Rattle.message_tree.specs.declared.counts.Count.{Count}
use Rattle.message_tree.specs.declared.items.Item.{Item}
use Rattle.message_tree.specs.declared.items.Item.TheVariants.{Sent, Heard, Again, Claim}
use Rattle.message_tree.specs.Counts.{InRange, least_of, greatest_of}
use Rattle.message_tree.specs.Laws.{HasText}
use Rattle.message_tree.specs.Patterns.{pattern_bits, address_bits}
use Rattle.message_tree.specs.Texts.{Language, Allows, SentThen, HeardThen, AnswerThen, AgainThen, ByteThen, BytesThen, ReadThen, FrameText, TailText}
use Rattle.message_tree.specs.Trees.{FrameTree, payload_tree, TailTree, tail_tree}
use Rattle.message_tree.proofs.TextLaws.{allowed, lawful_frame, lawful_payload, lawful_tail}
use Rattle.places.specs.declared.bytes.Byte.{Byte}
use Rattle.places.specs.declared.bytes.Byte.TheVariants as byte
use Rattle.places.specs.declared.offers.Offered.TheVariants as offer
use Rattle.places.specs.declared.parts.Acked.{Acked}
use Rattle.places.specs.declared.parts.Acked.TheVariants as acked
use Rattle.places.specs.declared.parts.Then.{Then}
use Rattle.places.specs.declared.parts.Then.TheVariants as then
use Rattle.places.specs.declared.parts.Incoming.{Incoming}
use Rattle.places.specs.declared.parts.Outgoing.{Outgoing}
use Rattle.places.specs.Offers.{Begins, MayPut}
use Rattle.places.specs.Parts.{bits_of, AckedText, ThenText, OutgoingText, ReadOn, AcknowledgeThen, IncomingText}

-- ---- each part has a text

some_sent : (bs : List Bit) (P : Language) → HasText P → HasText (SentThen bs P)
some_sent [] P p = p
some_sent (b ∷ bs) P p =
    let s = allowed b in
    let rest = some_sent bs P p in
    (Sent s.0 ∷ rest.0, (s.1, rest.1))

some_heard : (n : ℕ) (P : Language) → HasText P → HasText (HeardThen n P)
some_heard zero P p = p
some_heard (suc n) P p = let rest = some_heard n P p in (Heard false ∷ rest.0, rest.1)

some_byte : (b : Bit) (P : Language) → HasText P → HasText (ByteThen b P)
some_byte b P p = some_heard 8 (SentThen (b ∷ []) P) (some_sent (b ∷ []) P p)

some_bytes : (n : ℕ) (P : Language) → HasText P → HasText (BytesThen n P)
some_bytes zero P p = p
some_bytes (suc n) P p = some_byte Zero (BytesThen n P) (some_bytes n P p)

-- as many bytes as may be
some_read : (count : Count) (done : ℕ) (P : Language) → done < greatest_of count → HasText P → HasText (ReadOn count done P)
some_read count done P lt p =
    let more = greatest_of count - (done + 1) in
    let all : done + (more + 1) ≡ greatest_of count = omega arith in
    let rest = some_bytes more (ByteThen One P) (some_byte One P p) in
    (rest.0, (more, (omega (arith, count.ordered), omega arith), rest.1))

some_acknowledge : (count : Count) (done : ℕ) (P : Language) → done < greatest_of count → HasText P → HasText (AcknowledgeThen count done P)
some_acknowledge count done P lt p =
    elim (cases_lt (done + 1) (greatest_of count)) [
      | inl below ↦ (let rest = some_read count (done + 1) P below p in (Sent false ∷ rest.0, rest.1))
      | inr above ↦ (Sent true ∷ p.0, ((omega (arith, count.ordered), omega arith), p.1))
    ]

some_acked : (a : Acked) → HasText (AckedText a)
some_acked (acked.Payload p) = (lawful_payload (payload_tree p.now)).some
some_acked (acked.Read count after) =
    let more = least_of count - 1 in
    let P = TailText (tail_tree after.now) in
    let rest = some_bytes more (ByteThen One P) (some_byte One P (lawful_tail (tail_tree after.now)).some) in
    (rest.0, (more, (omega (arith, count.positive), omega (arith, count.positive, count.ordered)), rest.1))

some_then : (t : Then) → HasText (ThenText t)
some_then (then.Answer a refused) = let rest = some_acked a in (Heard false ∷ rest.0, rest.1)
some_then then.Claim = (Claim ∷ [], refl)

-- ---- bits that are sent

pub bit_count : (b : Byte) → length (bits_of b) ≡ 8
unfolding pattern_bits address_bits
bit_count (byte.WriteHeader a) = refl
bit_count (byte.ReadHeader a) = refl
bit_count (byte.Data p) = refl

begins_sent : (b : Bit) (bs : List Bit) (P : Language) (x : Item) → HasText (SentThen bs P) → Begins (SentThen (b ∷ bs) P) x ↔ MayPut (offer.Bit b) x
begins_sent b bs P (Sent s) t = (λ h. h.1.0, λ a. (t.0, (a, t.1)))
begins_sent b bs P _ t = (λ h. h.1, λ a. absurd a)

sent_after : (b : Bit) (bs : List Bit) (P : Language) (x : Item) (u : List Item) → Begins (SentThen (b ∷ bs) P) x → SentThen bs P u ↔ SentThen (b ∷ bs) P (x ∷ u)
sent_after b bs P (Sent s) u h = (λ t. (h.1.0, t), λ t. t.1)
sent_after b bs P _ u h = absurd h.1

-- the bits that are left, where this one comes next
bits_left : (bs : List Bit) (k : ℕ) (b : Bit) → slice_get bs k ≡ Some b → drop k bs ≡ b ∷ drop (k + 1) bs
bits_left bs k b e =
    drop_more bs k b (slice_get_within bs k b e) ∙ ap (λ (c : Bit). c ∷ drop (k + 1) bs) (get_or_from_slice_get bs k b b e)

pub outgoing_begins : (s : Outgoing) (b : Bit) (x : Item) → slice_get (bits_of s.byte) s.sent ≡ Some b → Begins (OutgoingText s) x ↔ MayPut (offer.Bit b) x
outgoing_begins s b x e =
    subst (λ (bs : List Bit). Begins (SentThen bs (ThenText s.then)) x ↔ MayPut (offer.Bit b) x) (sym (bits_left (bits_of s.byte) s.sent b e))
    (begins_sent b (drop (s.sent + 1) (bits_of s.byte)) (ThenText s.then) x (some_sent (drop (s.sent + 1) (bits_of s.byte)) (ThenText s.then) (some_then s.then)))

pub outgoing_goes_on : (s : Outgoing) (b : Bit) → slice_get (bits_of s.byte) s.sent ≡ Some b → OutgoingText s [] → ⊥
outgoing_goes_on s b e h =
    subst (λ (bs : List Bit). SentThen bs (ThenText s.then) []) (bits_left (bits_of s.byte) s.sent b e) h

pub outgoing_after : (s : Outgoing) (x : Item) (u : List Item) → Begins (OutgoingText s) x → SentThen (drop (s.sent + 1) (bits_of s.byte)) (ThenText s.then) u ↔ OutgoingText s (x ∷ u)
outgoing_after s x u h =
    let bs = bits_of s.byte in
    let within : s.sent < length bs = omega (arith, bit_count s.byte, s.unfinished) in
    let e = drop_more bs s.sent Zero within in
    subst (λ (cs : List Bit). SentThen (drop (s.sent + 1) bs) (ThenText s.then) u ↔ SentThen cs (ThenText s.then) (x ∷ u)) (sym e)
    (sent_after _ (drop (s.sent + 1) bs) (ThenText s.then) x u (subst (λ (cs : List Bit). Begins (SentThen cs (ThenText s.then)) x) e h))

-- after the last bit
pub no_bit_left : (b : Byte) (k : ℕ) → 8 ≤ k → drop k (bits_of b) ≡ []
no_bit_left b k h = drop_all k (bits_of b) (omega (arith, bit_count b))

-- ---- answers of targets, and a repeated START

pub begins_answer : (a : Acked) (t : TailTree) (x : Item) → Begins (AnswerThen (AckedText a) (TailText t)) x ↔ MayPut offer.Listen x
begins_answer a t (Heard false) = (λ h. tt, λ _. some_acked a)
begins_answer a t (Heard true) = (λ h. tt, λ _. (lawful_tail t).some)
begins_answer a t _ = (λ h. h.1, λ m. absurd m)

pub begins_again : (f : FrameTree) (x : Item) → Begins (AgainThen (FrameText f)) x ↔ MayPut offer.Again x
begins_again f Again = (λ h. tt, λ _. (lawful_frame f).some)
begins_again f _ = (λ h. h.1, λ m. absurd m)

-- ---- bytes that are read

begins_heard : (n : ℕ) (P : Language) (x : Item) → 0 < n → HasText P → Begins (HeardThen n P) x ↔ MayPut offer.Listen x
begins_heard zero P x lt t = absurd (omega arith)
begins_heard (suc n) P (Heard s) lt t = (λ h. tt, λ m. some_heard n P t)
begins_heard (suc n) P _ lt t = (λ h. h.1, λ m. absurd m)

-- what is left of a read after the bits of a byte, where so many bytes come after this one
AckText : ℕ → Language → Language
AckText zero P = SentThen (One ∷ []) P
AckText (suc more) P = SentThen (Zero ∷ []) (BytesThen more (ByteThen One P))

module _ (count : Count) (done : ℕ) (P : Language) where
  then_read : (n : ℕ) (u : List Item) → HeardThen n (AcknowledgeThen count done P) u → (more : ℕ) × InRange count (done + (more + 1)) × HeardThen n (AckText more P) u
  unfolding AckText
  then_read zero [] h = absurd h
  then_read zero (Sent false ∷ u) (more, i, t) = (suc more, (omega (arith, i.0), omega (arith, i.1)), (refl, t))
  then_read zero (Sent true ∷ u) (i, t) = (0, (omega (arith, i.0), omega (arith, i.1)), (refl, t))
  then_read zero (_ ∷ u) h = absurd h
  then_read (suc n) [] h = absurd h
  then_read (suc n) (Heard b ∷ u) h = then_read n u h
  then_read (suc n) (_ ∷ u) h = absurd h

  read_then : (n : ℕ) (u : List Item) (more : ℕ) → InRange count (done + (more + 1)) → HeardThen n (AckText more P) u → HeardThen n (AcknowledgeThen count done P) u
  unfolding AckText
  read_then zero [] zero i h = absurd h
  read_then zero [] (suc more) i h = absurd h
  read_then zero (Sent false ∷ u) zero i h = cc (h.0)
  read_then zero (Sent false ∷ u) (suc more) i h = (more, (omega (arith, i.0), omega (arith, i.1)), h.1)
  read_then zero (Sent true ∷ u) zero i h = ((omega (arith, i.0), omega (arith, i.1)), h.1)
  read_then zero (Sent true ∷ u) (suc more) i h = cc (h.0)
  read_then zero (_ ∷ u) zero i h = absurd h
  read_then zero (_ ∷ u) (suc more) i h = absurd h
  read_then (suc n) [] more i h = absurd h
  read_then (suc n) (Heard b ∷ u) more i h = read_then n u more i h
  read_then (suc n) (_ ∷ u) more i h = absurd h

  byte_first : (more : ℕ) (u : List Item) → HeardThen 8 (AckText more P) u ↔ BytesThen more (ByteThen One P) u
  unfolding AckText
  byte_first zero u = (λ h. h, λ h. h)
  byte_first (suc more) u = (λ h. h, λ h. h)

  -- a read goes on by eight bits and an acknowledge
  pub next_byte : (u : List Item) → HeardThen 8 (AcknowledgeThen count done P) u ↔ ReadOn count done P u
  next_byte u = (
    λ h. let r = then_read 8 u h in (r.0, r.1, (byte_first r.0 u).0 r.2),
    λ r. read_then 8 u r.0 r.1 ((byte_first r.0 u).1 r.2),
  )

-- a read from its first byte on
pub first_byte : (count : Count) (P : Language) (u : List Item) → HeardThen 8 (AcknowledgeThen count 0 P) u ↔ ReadThen count P u
first_byte count P u = (
  λ h. let r = (next_byte count 0 P u).0 h in let i = r.1 in (r.0, (omega arith, omega arith), r.2),
  λ r. let i = r.1 in (next_byte count 0 P u).1 (r.0, (omega arith, omega arith), r.2),
)

begins_acknowledge : (count : Count) (done : ℕ) (P : Language) (b : Bit) (x : Item) → done < greatest_of count → HasText P →
    Allows b false ↔ (done + 1 < greatest_of count) → Allows b true ↔ (least_of count ≤ done + 1) →
    Begins (AcknowledgeThen count done P) x ↔ MayPut (offer.Bit b) x
begins_acknowledge count done P b (Sent false) lt t more end = (
  λ h. let within = h.1.1.1 in more.1 (omega arith),
  λ a. some_read count (done + 1) P (more.0 a) t,
)
begins_acknowledge count done P b (Sent true) lt t more end = (
  λ h. end.1 h.1.0.0,
  λ a. (t.0, ((end.0 a, omega arith), t.1)),
)
begins_acknowledge count done P b _ lt t more end = (λ h. h.1, λ m. absurd m)

some_incoming : (r : Incoming) → HasText (TailText (tail_tree r.after.now))
some_incoming r = (lawful_tail (tail_tree r.after.now)).some

-- while bits are left to be heard
pub incoming_hears : (r : Incoming) (x : Item) → 0 < r.left → Begins (IncomingText r) x ↔ MayPut offer.Listen x
incoming_hears r x lt =
    begins_heard r.left (AcknowledgeThen r.count r.done (TailText (tail_tree r.after.now))) x lt
    (some_acknowledge r.count r.done (TailText (tail_tree r.after.now)) r.wanted (some_incoming r))

pub incoming_acknowledges : (r : Incoming) (b : Bit) (x : Item) → r.left ≡ 0 →
    Allows b false ↔ (r.done + 1 < greatest_of r.count) → Allows b true ↔ (least_of r.count ≤ r.done + 1) →
    Begins (IncomingText r) x ↔ MayPut (offer.Bit b) x
incoming_acknowledges r b x e more end =
    let P = TailText (tail_tree r.after.now) in
    subst (λ (n : ℕ). Begins (HeardThen n (AcknowledgeThen r.count r.done P)) x ↔ MayPut (offer.Bit b) x) (sym e)
    (begins_acknowledge r.count r.done P b x r.wanted (some_incoming r) more end)

-- after an acknowledge that asks for a further byte
pub incoming_after_zero : (r : Incoming) (u : List Item) → r.left ≡ 0 →
    HeardThen 8 (AcknowledgeThen r.count (r.done + 1) (TailText (tail_tree r.after.now))) u ↔ IncomingText r (Sent false ∷ u)
incoming_after_zero r u e =
    let P = TailText (tail_tree r.after.now) in
    subst (λ (n : ℕ). HeardThen 8 (AcknowledgeThen r.count (r.done + 1) P) u ↔ HeardThen n (AcknowledgeThen r.count r.done P) (Sent false ∷ u)) (sym e)
    (next_byte r.count (r.done + 1) P u)

-- one equivalence after another
pub along : {A B C : Type 0} → A ↔ B → B ↔ C → A ↔ C
along f g = (λ a. g.0 (f.0 a), λ c. f.1 (g.1 c))
