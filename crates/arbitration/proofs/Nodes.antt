-- The outcomes of two trees, node by node.
use Rattle.std.proofs.Common.{◌≡◌, ℕ, ◌+◌, ◌-◌, ◌*◌, ◌≤◌, ◌^◌, max, min, Bool, true, false, Some, None, List, [], ◌∷◌, ◌++◌, length, length-append, refl, ap, sym, ◌∙◌, subst, arith, lit<, inl, inr, ◌⊎◌}
use Rattle.message_tree.specs.declared.bits.Bit.{Bit}
use Rattle.message_tree.specs.declared.bits.Bit.TheVariants.{Zero, One}
use Rattle.message_tree.specs.declared.bits.Address.{Address}
use Rattle.message_tree.specs.declared.bits.Pattern.{Pattern}
use Rattle.message_tree.specs.declared.counts.Count.{Count}
use Rattle.message_tree.specs.declared.items.Item.{Item}
use Rattle.message_tree.specs.declared.items.Item.TheVariants.{Sent, Heard, Stop, Claim}
use Rattle.std.specs.Int.{bit_at}
use Rattle.message_tree.specs.Bits.{bit_from, bits_below, SplitAt, NeverSplit}
use Rattle.message_tree.specs.Counts.{least_of, greatest_of, Meet}
use Rattle.message_tree.specs.Drops.{refused_of}
use Rattle.message_tree.specs.Laws.{HasText}
use Rattle.message_tree.specs.Patterns.{pattern_bits, address_bits}
use Rattle.message_tree.specs.Sizes.{frame_slots, payload_slots, tail_slots}
use Rattle.message_tree.specs.Texts.{Language, Sender, message, interrupt, SentThen, AnswerThen, AgainThen, Only, ReadThen, write_header, read_header, SenderText, FrameText, PayloadText, TailText}
use Rattle.message_tree.specs.Trees.{FrameTree, write, read, PayloadTree, byte, last, TailTree, stop, again}
use Rattle.message_tree.proofs.TextLaws.{lawful_payload, lawful_tail}
use Rattle.message_tree.proofs.TextLengths.{longest_frame}
use Rattle.arbitration.specs.declared.spans.Outcomes.{Outcomes}
use Rattle.arbitration.specs.Spans.{IsSpan, union_of, after_of, After}
use Rattle.arbitration.specs.Ways.{Way, both_end, first_wins, second_wins, put_first, put_second, Goes, span_of, AreOutcomes, AllHaveRoom, PartsAt, ArePartings, ReadsApart, AreReadsApart, Answered, AckedText, header_of}
use Rattle.arbitration.proofs.SpanLemmas.{span_union, span_after, span_same, span_between, room}
use Rattle.arbitration.proofs.Meetings.{other, turned, sent_prefix, goes_sent, parts_here, goes_after_sent, goes_answer, goes_after_acked, goes_after_refused, goes_again, goes_after_again}
use Rattle.arbitration.proofs.ReadMeetings.{some_bytes, Common, goes_read, reads_apart, goes_after_read}

-- ---- bits, and the answer to them

-- two who part, or come to nothing further
pub only_part : (bs cs : List Bit) (P Q : Language) (o : Outcomes) → length bs ≡ length cs → (NeverSplit bs cs → (way : Way) (k : ℕ) → Goes way P Q k → ⊥) → HasText P → HasText Q → ArePartings bs cs o → AreOutcomes (SentThen bs P) (SentThen cs Q) o
only_part bs cs P Q o l n p q h way =
    span_same (PartsAt way bs cs) (Goes way (SentThen bs P) (SentThen cs Q)) (span_of way o) (λ k w. parts_here way bs cs P Q k w p q) (λ k g. elim (goes_sent way bs cs P Q k l g) [ inl w ↦ w | inr r ↦ absurd (n r.0 way r.1.0 r.1.2) ]) (h way)

-- two who always part
pub parted : (bs cs : List Bit) (P Q : Language) (o : Outcomes) → length bs ≡ length cs → ((k : ℕ) × SplitAt bs cs k) → HasText P → HasText Q → ArePartings bs cs o → AreOutcomes (SentThen bs P) (SentThen cs Q) o
parted bs cs P Q o l s p q h = only_part bs cs P Q o l (λ n way k g. n s.0 s.1) p q h

module _ (bs cs : List Bit) (P Q R S : Language) (l : length bs ≡ 8) (m : length cs ≡ 8) where
  abbrev pub First : Language
  First = SentThen bs (AnswerThen P R)

  abbrev pub Second : Language
  Second = SentThen cs (AnswerThen Q S)

  -- the bits part them, or an answer comes
  abbrev pub NodeGoes : Way → ℕ → Type 0
  NodeGoes way k = (PartsAt way bs cs k ⊎ After 9 (Goes way P Q) k) ⊎ After 9 (Goes way R S) k

  pub node_out : (way : Way) (k : ℕ) → Goes way First Second k → NodeGoes way k
  node_out way k g =
      elim (goes_sent way bs cs (AnswerThen P R) (AnswerThen Q S) k (l ∙ sym m) g) [
        | inl w ↦ inl (inl w)
        | inr r ↦ elim (goes_answer way P Q R S r.1.0 r.1.2) [
          | inl a ↦ inl (inr (a.0, omega (arith, r.1.1, a.1, l), a.2))
          | inr a ↦ inr (a.0, omega (arith, r.1.1, a.1, l), a.2)
        ]
      ]

  after_bits : (way : Way) (j k : ℕ) → NeverSplit bs cs → k ≡ j + 9 → Goes way (AnswerThen P R) (AnswerThen Q S) (j + 1) → Goes way First Second k
  after_bits way j k n e g =
      let f : (j + 1) + length bs ≡ k = omega (arith, l, e) in
      subst (Goes way First Second) f (goes_after_sent way bs cs (AnswerThen P R) (AnswerThen Q S) (j + 1) (l ∙ sym m) n g)

  pub node_in : (way : Way) (k : ℕ) → NeverSplit bs cs → HasText P → HasText Q → NodeGoes way k → Goes way First Second k
  node_in way k n p q (inl (inl w)) =
      parts_here way bs cs (AnswerThen P R) (AnswerThen Q S) k w (Heard false ∷ p.0, p.1) (Heard false ∷ q.0, q.1)
  node_in way k n p q (inl (inr (j, e, g))) = after_bits way j k n e (goes_after_acked way P Q R S j g)
  node_in way k n p q (inr (j, e, g)) = after_bits way j k n e (goes_after_refused way P Q R S j g)

  pub answered : (h o x y : Outcomes) → NeverSplit bs cs → HasText P → HasText Q → ArePartings bs cs h → AreOutcomes P Q x → AreOutcomes R S y → ((way : Way) → Answered (span_of way h) (span_of way x) (span_of way y) (span_of way o)) → AreOutcomes First Second o
  answered h o x y n p q a b c e way =
      subst (IsSpan (Goes way First Second)) (sym (e way)) (span_same (NodeGoes way) (Goes way First Second) (union_of (union_of (span_of way h) (after_of 9 (span_of way x))) (after_of 9 (span_of way y))) (λ k g. node_in way k n p q g) (node_out way) (span_union (λ k. PartsAt way bs cs k ⊎ After 9 (Goes way P Q) k) (After 9 (Goes way R S)) (union_of (span_of way h) (after_of 9 (span_of way x))) (after_of 9 (span_of way y)) (span_union (PartsAt way bs cs) (After 9 (Goes way P Q)) (span_of way h) (after_of 9 (span_of way x)) (a way) (span_after (Goes way P Q) 9 (span_of way x) (b way))) (span_after (Goes way R S) 9 (span_of way y) (c way))))

-- ---- reads

module _ (c d : Count) (P Q : Language) where
  -- two reads that never end together
  pub reads_part : (o : Outcomes) → (Meet c d → ⊥) → HasText P → HasText Q → AreReadsApart c d o → AreOutcomes (ReadThen c P) (ReadThen d Q) o
  reads_part o n p q h way =
      span_same (ReadsApart way c d) (Goes way (ReadThen c P) (ReadThen d Q)) (span_of way o) (λ k r. reads_apart way c d P Q k r p q) (λ k g. elim (goes_read way c d P Q k g) [
        | inl r ↦ r
        | inr r ↦ absurd (n (r.0, (omega (arith, r.1), omega (arith, r.2)), (omega (arith, r.1), omega (arith, r.2))))
      ]) (h way)

  pub reads_end : (h o x : Outcomes) (lo hi : ℕ) → Meet c d → lo ≡ max (least_of c) (least_of d) → hi ≡ min (greatest_of c) (greatest_of d) → HasText P → HasText Q → AreReadsApart c d h → AreOutcomes P Q x → ((way : Way) → span_of way o ≡ union_of (span_of way h) (union_of (after_of (9 * lo) (span_of way x)) (after_of (9 * hi) (span_of way x)))) → AreOutcomes (ReadThen c P) (ReadThen d Q) o
  reads_end h o x lo hi m e f p q a b u way =
      let s = span_of way x in
      let le : max (least_of c) (least_of d) ≤ min (greatest_of c) (greatest_of d) = omega (arith, m.1.0, m.1.1, m.2.0, m.2.1) in
      let ends = span_between (Goes way P Q) (max (least_of c) (least_of d)) (min (greatest_of c) (greatest_of d)) s le (b way) in
      rw (u way, e, f) (span_same (λ k. ReadsApart way c d k ⊎ Common c d (Goes way P Q) k) (Goes way (ReadThen c P) (ReadThen d Q)) (union_of (span_of way h) (union_of (after_of (9 * max (least_of c) (least_of d)) s) (after_of (9 * min (greatest_of c) (greatest_of d)) s))) (λ k g. elim g [ inl r ↦ reads_apart way c d P Q k r p q | inr r ↦ goes_after_read way c d P Q k r ]) (goes_read way c d P Q) (span_union (ReadsApart way c d) (Common c d (Goes way P Q)) (span_of way h) (union_of (after_of (9 * max (least_of c) (least_of d)) s) (after_of (9 * min (greatest_of c) (greatest_of d)) s)) (a way) ends))

-- ---- repeated STARTs, STOPs, and what clashes

pub starts_again : (P Q : Language) (o x : Outcomes) → AreOutcomes P Q x → ((way : Way) → span_of way o ≡ after_of 1 (span_of way x)) → AreOutcomes (AgainThen P) (AgainThen Q) o
starts_again P Q o x h e way =
    subst (IsSpan (Goes way (AgainThen P) (AgainThen Q))) (sym (e way)) (span_same (After 1 (Goes way P Q)) (Goes way (AgainThen P) (AgainThen Q)) (after_of 1 (span_of way x)) (λ k r. subst (Goes way (AgainThen P) (AgainThen Q)) (sym r.1) (goes_after_again way P Q r.0 r.2)) (goes_again way P Q) (span_after (Goes way P Q) 1 (span_of way x) (h way)))

pub come_to_nothing : (P Q : Language) (o : Outcomes) → ((way : Way) (k : ℕ) → Goes way P Q k → ⊥) → ((way : Way) → span_of way o ≡ None) → AreOutcomes P Q o
come_to_nothing P Q o n e way = subst (IsSpan (Goes way P Q)) (sym (e way)) (n way)

-- one item that is alone
only_first : (x y : Item) (u v : List Item) → u ++ x ∷ v ≡ y ∷ [] → (u ≡ []) × (x ≡ y)
only_first x y [] v e = (refl, cc)
only_first x y (z ∷ []) v e = cc
only_first x y (z ∷ w ∷ u) v e = cc

pub stops_only : (way : Way) (k : ℕ) → Goes way (TailText stop) (TailText stop) k → (way ≡ both_end) × (k ≡ 0)
stops_only both_end k g = let e = only_first Stop Stop g.wire g.first.0 g.first.1 in (refl, sym g.slot ∙ ap length e.0)
stops_only first_wins k g = let e = (only_first (Sent false) Stop g.wire g.first.0 g.first.1).1 in absurd cc
stops_only second_wins k g = let e = (only_first (Sent true) Stop g.wire g.first.0 g.first.1).1 in absurd cc

pub two_stops : (o : Outcomes) → o.both ≡ Some (record { earliest = 0; latest = 0 }) → o.first ≡ None → o.second ≡ None → AreOutcomes (TailText stop) (TailText stop) o
two_stops o b f s both_end =
    let now : Goes both_end (TailText stop) (TailText stop) 0 = record { wire = []; slot = refl; first = ([], refl); second = ([], refl) } in
    rw b (record { earliest = now; latest = now; within = λ k g. let e = (stops_only both_end k g).1 in (omega arith, omega (arith, e)) })
two_stops o b f s first_wins = rw f (λ k g. let e = (stops_only first_wins k g).0 in cc)
two_stops o b f s second_wins = rw s (λ k g. let e = (stops_only second_wins k g).0 in cc)

stop_again : (way : Way) (P : Language) (u v w : List Item) → Only Stop (u ++ put_first way ∷ v) → AgainThen P (u ++ put_second way ∷ w) → ⊥
stop_again both_end P [] v w p q = q
stop_again first_wins P [] v w p q = q
stop_again second_wins P [] v w p q = q
stop_again way P (x ∷ u) v w p q = let e = (only_first (put_first way) Stop (x ∷ u) v p).0 in cc

pub stop_meets_again : (f : FrameTree) (way : Way) (k : ℕ) → Goes way (TailText stop) (TailText (again f)) k → ⊥
stop_meets_again f way k g = stop_again way (FrameText f) g.wire g.first.0 g.second.0 g.first.1 g.second.1

pub again_meets_stop : (f : FrameTree) (way : Way) (k : ℕ) → Goes way (TailText (again f)) (TailText stop) k → ⊥
again_meets_stop f way k g = stop_meets_again f (other way) k (turned way (TailText (again f)) (TailText stop) k g)

-- a tail begins with no bit
tail_begins : (t : TailTree) (s : Bool) (u : List Item) → TailText t (Sent s ∷ u) → ⊥
tail_begins stop s u h = cc
tail_begins (again f) s u h = h

sent_tail : (way : Way) (b : Bit) (bs : List Bit) (P : Language) (t : TailTree) (u v w : List Item) → SentThen (b ∷ bs) P (u ++ put_first way ∷ v) → TailText t (u ++ put_second way ∷ w) → ⊥
sent_tail both_end b bs P t [] v w p q = p
sent_tail first_wins b bs P t [] v w p q = tail_begins t _ w q
sent_tail second_wins b bs P t [] v w p q = tail_begins t _ w q
sent_tail way b bs P t (Sent s ∷ u) v w p q = tail_begins t s (u ++ put_second way ∷ w) q
sent_tail way b bs P t (_ ∷ u) v w p q = p

pub byte_meets_last : (a : Pattern) (x : PayloadTree) (r t : TailTree) (way : Way) (k : ℕ) → Goes way (PayloadText (byte a x r)) (PayloadText (last t)) k → ⊥
unfolding pattern_bits
byte_meets_last a x r t way k g =
    sent_tail way (bit_from (bit_at a.known 7) (bit_at a.value 7)) (bits_below 7 a.known a.value) (AnswerThen (PayloadText x) (TailText r)) t g.wire g.first.0 g.second.0 g.first.1 g.second.1

pub last_meets_byte : (a : Pattern) (x : PayloadTree) (r t : TailTree) (way : Way) (k : ℕ) → Goes way (PayloadText (last t)) (PayloadText (byte a x r)) k → ⊥
last_meets_byte a x r t way k g =
    byte_meets_last a x r t (other way) k (turned way (PayloadText (last t)) (PayloadText (byte a x r)) k g)

-- ---- room in a u32

no_address : Address
no_address = record { known = 0; value = 0; known_is_address = lit< tt; open_bits_are_zero = refl }

pub length_of_header : (a : Address) (z : Bit) → length (address_bits a ++ z ∷ []) ≡ 8
unfolding address_bits
length_of_header a z = refl

pub length_of_data : (a : Pattern) → length (pattern_bits a) ≡ 8
unfolding pattern_bits
length_of_data a = refl

some_slots : (x : PayloadTree) → 1 ≤ payload_slots x
some_slots (byte a x r) = omega arith
some_slots (last stop) = omega arith
some_slots (last (again f)) = omega arith

pub some_tail : (t : TailTree) → 1 ≤ tail_slots t
some_tail stop = omega arith
some_tail (again f) = omega arith

pub payload_bound : (x : PayloadTree) (u : List Item) → PayloadText x u → length u ≤ payload_slots x
payload_bound x u h =
    let t = sent_prefix (write_header no_address) (AnswerThen (PayloadText x) (TailText stop)) (Heard false ∷ u) h in
    let l = (longest_frame (write no_address x stop)).bound t.0 t.1 in
    omega (arith, l, t.2, length_of_header no_address Zero, some_slots x)

pub tail_bound : (t : TailTree) (u : List Item) → TailText t u → length u ≤ tail_slots t
tail_bound t u h = payload_bound (last t) u h

pub frame_bound : (f : FrameTree) (u : List Item) → FrameText f u → length u ≤ frame_slots f
frame_bound f = (longest_frame f).bound

pub read_bound : (c : Count) (t : TailTree) (u : List Item) → ReadThen c (TailText t) u → length u ≤ tail_slots t + 9 * greatest_of c
read_bound c t u h =
    let v = sent_prefix (read_header no_address) (AnswerThen (ReadThen c (TailText t)) (TailText stop)) (Heard false ∷ u) h in
    let l = (longest_frame (read no_address c t stop)).bound v.0 v.1 in
    omega (arith, l, v.2, length_of_header no_address One, some_tail t)

-- who comes to one of the ways has an item left to put
pub all_room : (P Q : Language) (o : Outcomes) (m n : ℕ) → AreOutcomes P Q o → ((u : List Item) → P u → length u ≤ m) → m + n ≤ 2 ^ 32 → AllHaveRoom n o
all_room P Q o m n h b le way =
    room (Goes way P Q) n (span_of way o) (h way) (λ k g. omega (arith, b (g.wire ++ put_first way ∷ g.first.0) g.first.1, g.slot, length-append g.wire (put_first way ∷ g.first.0)))

pub acked_room : (f : FrameTree) (Q : Language) (o : Outcomes) → AreOutcomes (AckedText f) Q o → frame_slots f ≤ 2 ^ 32 → AllHaveRoom 9 o
acked_room (write a x r) Q o h le = all_room (PayloadText x) Q o (payload_slots x) 9 h (payload_bound x) (omega (arith, le))
acked_room (read a c x r) Q o h le =
    all_room (ReadThen c (TailText x)) Q o (tail_slots x + 9 * greatest_of c) 9 h (read_bound c x) (omega (arith, le))

pub refused_slots : (f : FrameTree) → tail_slots (refused_of f) + 9 ≤ frame_slots f
refused_slots (write a x r) = omega arith
refused_slots (read a c x r) = omega arith

-- ---- trees

some_answer : (P R : Language) → HasText P → HasText (AnswerThen P R)
some_answer P R p = (Heard false ∷ p.0, p.1)

some_read : (c : Count) (t : TailTree) → HasText (ReadThen c (TailText t))
some_read c t =
    let r = some_bytes (c.least - 1) (TailText t) (lawful_tail t).some in
    (r.0, (c.least - 1, (omega arith, omega arith), r.1))

pub bytes_part : (a b : Pattern) (x y : PayloadTree) (r s : TailTree) (o : Outcomes) → ((k : ℕ) × SplitAt (pattern_bits a) (pattern_bits b) k) → ArePartings (pattern_bits a) (pattern_bits b) o → AreOutcomes (PayloadText (byte a x r)) (PayloadText (byte b y s)) o
bytes_part a b x y r s o k h =
    parted (pattern_bits a) (pattern_bits b) (AnswerThen (PayloadText x) (TailText r)) (AnswerThen (PayloadText y) (TailText s)) o (length_of_data a ∙ sym (length_of_data b)) k (some_answer (PayloadText x) (TailText r) (lawful_payload x).some) (some_answer (PayloadText y) (TailText s) (lawful_payload y).some) h

pub reads_only_part : (c d : Count) (x y : TailTree) (o : Outcomes) → (Meet c d → ⊥) → AreReadsApart c d o → AreOutcomes (ReadThen c (TailText x)) (ReadThen d (TailText y)) o
reads_only_part c d x y o n h =
    reads_part c d (TailText x) (TailText y) o n (lawful_tail x).some (lawful_tail y).some h

-- a header of a write and one of a read part
pub write_splits_read : (a b : Address) → SplitAt (write_header a) (read_header b) 7
unfolding address_bits
write_splits_read a b = inl (refl, refl)

pub read_splits_write : (a b : Address) → SplitAt (read_header a) (write_header b) 7
unfolding address_bits
read_splits_write a b = inr (refl, refl)

pub length_of_first : (f : FrameTree) → length (header_of (message f)) ≡ 8
length_of_first (write a x r) = length_of_header a Zero
length_of_first (read a c x r) = length_of_header a One

some_acked : (f : FrameTree) → HasText (AckedText f)
some_acked (write a x r) = (lawful_payload x).some
some_acked (read a c x r) = some_read c x

-- what is sent is a header, and what follows it
abbrev pub AfterHeader : Sender → Language
AfterHeader (message f) = AnswerThen (AckedText f) (TailText (refused_of f))
AfterHeader (interrupt a) = Only Claim

some_node : (s : Sender) → HasText (AfterHeader s)
some_node (message f) = some_answer (AckedText f) (TailText (refused_of f)) (some_acked f)
some_node (interrupt a) = (Claim ∷ [], refl)

abbrev AsNode : Sender → Language
AsNode s = SentThen (header_of s) (AfterHeader s)

as_first : (s : Sender) (Q : Language) (o : Outcomes) → AreOutcomes (AsNode s) Q o → AreOutcomes (SenderText s) Q o
as_first (message (write a x r)) Q o h = h
as_first (message (read a c x r)) Q o h = h
as_first (interrupt a) Q o h = h

as_second : (P : Language) (t : Sender) (o : Outcomes) → AreOutcomes P (AsNode t) o → AreOutcomes P (SenderText t) o
as_second P (message (write a x r)) o h = h
as_second P (message (read a c x r)) o h = h
as_second P (interrupt a) o h = h

-- two who part in the header, or come to nothing further
pub headers_part : (s t : Sender) (o : Outcomes) → length (header_of s) ≡ length (header_of t) → (NeverSplit (header_of s) (header_of t) → (way : Way) (k : ℕ) → Goes way (AfterHeader s) (AfterHeader t) k → ⊥) → ArePartings (header_of s) (header_of t) o → AreOutcomes (SenderText s) (SenderText t) o
headers_part s t o l n h =
    as_first s (SenderText t) o (as_second (AsNode s) t o (only_part (header_of s) (header_of t) (AfterHeader s) (AfterHeader t) o l n (some_node s) (some_node t) h))

module _ (f g : FrameTree) where
  pub frames_part : (o : Outcomes) → ((k : ℕ) × SplitAt (header_of (message f)) (header_of (message g)) k) → ArePartings (header_of (message f)) (header_of (message g)) o → AreOutcomes (FrameText f) (FrameText g) o
  frames_part o k h =
      headers_part (message f) (message g) o (length_of_first f ∙ sym (length_of_first g)) (λ n way j m. n k.0 k.1) h

  pub frames_answered : (h o p q : Outcomes) → NeverSplit (header_of (message f)) (header_of (message g)) → ArePartings (header_of (message f)) (header_of (message g)) h → AreOutcomes (AckedText f) (AckedText g) p → AreOutcomes (TailText (refused_of f)) (TailText (refused_of g)) q → ((way : Way) → Answered (span_of way h) (span_of way p) (span_of way q) (span_of way o)) → AreOutcomes (FrameText f) (FrameText g) o
  frames_answered h o p q n a b c u =
      as_first (message f) (FrameText g) o (as_second (AsNode (message f)) (message g) o (answered (header_of (message f)) (header_of (message g)) (AckedText f) (AckedText g) (TailText (refused_of f)) (TailText (refused_of g)) (length_of_first f) (length_of_first g) h o p q n (some_acked f) (some_acked g) a b c u))

module _ (v w : PayloadTree) (o : Outcomes) where
  pub byte_and_last : (a : Pattern) (x : PayloadTree) (r t : TailTree) → v ≡ byte a x r → w ≡ last t → ((way : Way) → span_of way o ≡ None) → AreOutcomes (PayloadText v) (PayloadText w) o
  byte_and_last a x r t e f n =
      rw (e, f) (come_to_nothing (PayloadText (byte a x r)) (PayloadText (last t)) o (byte_meets_last a x r t) n)

  pub last_and_byte : (a : Pattern) (x : PayloadTree) (r t : TailTree) → v ≡ last t → w ≡ byte a x r → ((way : Way) → span_of way o ≡ None) → AreOutcomes (PayloadText v) (PayloadText w) o
  last_and_byte a x r t e f n =
      rw (e, f) (come_to_nothing (PayloadText (last t)) (PayloadText (byte a x r)) o (last_meets_byte a x r t) n)

module _ (v w : TailTree) (o : Outcomes) where
  pub stops_are : v ≡ stop → w ≡ stop → o.both ≡ Some (record { earliest = 0; latest = 0 }) → o.first ≡ None → o.second ≡ None → AreOutcomes (TailText v) (TailText w) o
  stops_are e f b i j = rw (e, f) (two_stops o b i j)

  pub stop_and_again : (f : FrameTree) → v ≡ stop → w ≡ again f → ((way : Way) → span_of way o ≡ None) → AreOutcomes (TailText v) (TailText w) o
  stop_and_again f e g n = rw (e, g) (come_to_nothing (TailText stop) (TailText (again f)) o (stop_meets_again f) n)

  pub again_and_stop : (f : FrameTree) → v ≡ again f → w ≡ stop → ((way : Way) → span_of way o ≡ None) → AreOutcomes (TailText v) (TailText w) o
  again_and_stop f e g n = rw (e, g) (come_to_nothing (TailText (again f)) (TailText stop) o (again_meets_stop f) n)

  pub agains_are : (f g : FrameTree) (x : Outcomes) → v ≡ again f → w ≡ again g → AreOutcomes (FrameText f) (FrameText g) x → ((way : Way) → span_of way o ≡ after_of 1 (span_of way x)) → AreOutcomes (TailText v) (TailText w) o
  agains_are f g x e h a n = rw (e, h) (starts_again (FrameText f) (FrameText g) o x a n)

-- ---- interrupts

pub after_claim : (way : Way) (P : Language) (k : ℕ) → Goes way (Only Claim) P k → ⊥
after_claim both_end P k g = let e = (only_first Stop Claim g.wire g.first.0 g.first.1).1 in cc
after_claim first_wins P k g = let e = (only_first (Sent false) Claim g.wire g.first.0 g.first.1).1 in cc
after_claim second_wins P k g = let e = (only_first (Sent true) Claim g.wire g.first.0 g.first.1).1 in cc
