-- Bytes of two messages that do not part them for certain.
use Rattle.std.proofs.Common.{◌≡◌, ℕ, suc, zero, ◌+◌, ◌*◌, ◌<◌, ◌≤◌, ◌^◌, None, List, [], ◌∷◌, ◌++◌, take, drop, length, length-append, refl, ap, sym, subst, arith, inl, inr, ◌⊎◌}
use Rattle.message_tree.specs.declared.bits.Bit.{Bit}
use Rattle.message_tree.specs.Bits.{NeverSplit}
use Rattle.message_tree.specs.Patterns.{pattern_bits}
use Rattle.message_tree.specs.Sizes.{payload_slots, tail_slots}
use Rattle.message_tree.specs.Texts.{PayloadText, TailText}
use Rattle.message_tree.specs.Trees.{PayloadTree, byte, TailTree}
use Rattle.message_tree.proofs.TextLaws.{lawful_payload}
use Rattle.arbitration.specs.declared.beginnings.Beginning.{Beginning}
use Rattle.arbitration.specs.declared.spans.Outcomes.{Outcomes}
use Rattle.arbitration.specs.Spans.{IsSpan, union_of, after_of, After}
use Rattle.arbitration.specs.Ways.{Way, both_end, first_wins, second_wins, span_of, AreOutcomes, AllHaveRoom, ArePartings, PartsAt, Goes, put_first, Step, with_bytes, NeverPart, GoesInByte, IsInByte, GoesWithin, IsBeginning}
use Rattle.arbitration.proofs.BitPlaces.{same_never_part, is_within}
use Rattle.arbitration.proofs.Nodes.{node_out, node_in, length_of_data, tail_bound, all_room}
use Rattle.arbitration.proofs.SpanLemmas.{span_union, span_after, span_same, room}

-- ---- a byte of each

step_out : (s t : Step) (x y : PayloadTree) (way : Way) (k : ℕ) → Goes way (PayloadText (byte s.bits x s.refused)) (PayloadText (byte t.bits y t.refused)) k → GoesInByte way s t k ⊎ After 9 (Goes way (PayloadText x) (PayloadText y)) k
step_out s t x y way k g =
    elim (node_out (pattern_bits s.bits) (pattern_bits t.bits) (PayloadText x) (PayloadText y) (TailText s.refused) (TailText t.refused) (length_of_data s.bits) (length_of_data t.bits) way k g) [
      | inl h ↦ elim h [ inl p ↦ inl (inl p) | inr a ↦ inr a ]
      | inr a ↦ inl (inr a)
    ]

step_in : (s t : Step) (x y : PayloadTree) → NeverSplit (pattern_bits s.bits) (pattern_bits t.bits) → (way : Way) (k : ℕ) → GoesInByte way s t k ⊎ After 9 (Goes way (PayloadText x) (PayloadText y)) k → Goes way (PayloadText (byte s.bits x s.refused)) (PayloadText (byte t.bits y t.refused)) k
step_in s t x y n way k g =
    node_in (pattern_bits s.bits) (pattern_bits t.bits) (PayloadText x) (PayloadText y) (TailText s.refused) (TailText t.refused) (length_of_data s.bits) (length_of_data t.bits) way k n (lawful_payload x).some (lawful_payload y).some (elim g [
      | inl h ↦ elim h [ inl p ↦ inl (inl p) | inr a ↦ inr a ]
      | inr a ↦ inl (inr a)
    ])

pub in_byte : (s t : Step) (bits refused all : Outcomes) → ArePartings (pattern_bits s.bits) (pattern_bits t.bits) bits → AreOutcomes (TailText s.refused) (TailText t.refused) refused → ((way : Way) → span_of way all ≡ union_of (span_of way bits) (after_of 9 (span_of way refused))) → IsInByte s t all
in_byte s t bits refused all p h e way =
    let R = Goes way (TailText s.refused) (TailText t.refused) in
    subst (IsSpan (GoesInByte way s t)) (sym (e way)) (span_union (PartsAt way (pattern_bits s.bits) (pattern_bits t.bits)) (After 9 R) (span_of way bits) (after_of 9 (span_of way refused)) (p way) (span_after R 9 (span_of way refused) (h way)))

parts_within : (way : Way) (bs cs : List Bit) (k : ℕ) → length bs ≡ 8 → length cs ≡ 8 → PartsAt way bs cs k → k < 8
parts_within both_end bs cs k l m p = absurd p
parts_within first_wins bs cs k l m p = omega (arith, is_within bs k p.zero.0 p.zero.1, l)
parts_within second_wins bs cs k l m p = omega (arith, is_within cs k p.zero.0 p.zero.1, m)

pub parted_room : (s t : Step) (o : Outcomes) (n : ℕ) → ArePartings (pattern_bits s.bits) (pattern_bits t.bits) o → n + 8 ≤ 2 ^ 32 → AllHaveRoom n o
parted_room s t o n h le way =
    room (PartsAt way (pattern_bits s.bits) (pattern_bits t.bits)) n (span_of way o) (h way) (λ k p. omega (arith, parts_within way (pattern_bits s.bits) (pattern_bits t.bits) k (length_of_data s.bits) (length_of_data t.bits) p, le))

-- who comes to one of the ways after a refusal has an item left to put
after_refusal : (way : Way) (r u : TailTree) (k : ℕ) → Goes way (TailText r) (TailText u) k → k < tail_slots r
after_refusal way r u k g =
    let rest = put_first way ∷ g.first.0 in
    omega (arith, tail_bound r (g.wire ++ rest) g.first.1, g.slot, length-append g.wire rest)

byte_slots : (way : Way) (s t : Step) (k : ℕ) → GoesInByte way s t k → k < 9 + tail_slots s.refused
byte_slots way s t k (inl p) = omega (arith, parts_within way (pattern_bits s.bits) (pattern_bits t.bits) k (length_of_data s.bits) (length_of_data t.bits) p)
byte_slots way s t k (inr (j, e, g)) = omega (arith, e, after_refusal way s.refused t.refused j g)

pub byte_room : (s t : Step) (o : Outcomes) (n : ℕ) → IsInByte s t o → n + 9 + tail_slots s.refused ≤ 2 ^ 32 → AllHaveRoom n o
byte_room s t o n h le way =
    room (GoesInByte way s t) n (span_of way o) (h way) (λ k g. omega (arith, byte_slots way s t k g, le))

pub refused_room : (r u : TailTree) (o : Outcomes) → AreOutcomes (TailText r) (TailText u) o → tail_slots r + 9 ≤ 2 ^ 32 → AllHaveRoom 9 o
refused_room r u o h le = all_room (TailText r) (TailText u) o (tail_slots r) 9 h (tail_bound r) le

-- ---- bytes that both begin with

within_out : (ss ts : List Step) (x y : PayloadTree) → NeverPart ss ts → (way : Way) (k : ℕ) → Goes way (PayloadText (with_bytes ss x)) (PayloadText (with_bytes ts y)) k → GoesWithin way ss ts k ⊎ After (9 * length ss) (Goes way (PayloadText x) (PayloadText y)) k
within_out [] [] x y n way k g = inr (k, omega arith, g)
within_out [] (t ∷ ts) x y n way k g = absurd n
within_out (s ∷ ss) [] x y n way k g = absurd n
within_out (s ∷ ss) (t ∷ ts) x y n way k g =
    elim (step_out s t (with_bytes ss x) (with_bytes ts y) way k g) [
      | inl h ↦ inl (inl h)
      | inr a ↦ elim (within_out ss ts x y n.1 way a.0 a.2) [
        | inl h ↦ inl (inr (a.0, a.1, h))
        | inr d ↦ inr (d.0, omega (arith, a.1, d.1), d.2)
      ]
    ]

within_in : (ss ts : List Step) (x y : PayloadTree) → NeverPart ss ts → (way : Way) (k : ℕ) → GoesWithin way ss ts k ⊎ After (9 * length ss) (Goes way (PayloadText x) (PayloadText y)) k → Goes way (PayloadText (with_bytes ss x)) (PayloadText (with_bytes ts y)) k
within_in [] [] x y n way k (inl h) = absurd h
within_in [] [] x y n way k (inr (j, e, g)) = let f : j ≡ k = omega (arith, e) in subst (Goes way (PayloadText x) (PayloadText y)) f g
within_in [] (t ∷ ts) x y n way k h = absurd n
within_in (s ∷ ss) [] x y n way k h = absurd n
within_in (s ∷ ss) (t ∷ ts) x y n way k (inl (inl h)) = step_in s t (with_bytes ss x) (with_bytes ts y) n.0 way k (inl h)
within_in (s ∷ ss) (t ∷ ts) x y n way k (inl (inr (j, e, h))) =
    step_in s t (with_bytes ss x) (with_bytes ts y) n.0 way k (inr (j, e, within_in ss ts x y n.1 way j (inl h)))
within_in (s ∷ ss) (t ∷ ts) x y n way k (inr (j, e, g)) =
    let i = j + 9 * length ss in
    step_in s t (with_bytes ss x) (with_bytes ts y) n.0 way k (inr (i, omega (arith, e), within_in ss ts x y n.1 way i (inr (j, refl, g))))

-- what is within the bytes, and what follows them, is all
pub followed : (ss ts : List Step) (beginning : Beginning) (x y : PayloadTree) (rest all : Outcomes) → IsBeginning ss ts beginning → AreOutcomes (PayloadText x) (PayloadText y) rest → ((way : Way) → span_of way all ≡ union_of (span_of way beginning.outcomes) (after_of (9 * beginning.bytes) (span_of way rest))) → AreOutcomes (PayloadText (with_bytes ss x)) (PayloadText (with_bytes ts y)) all
followed ss ts beginning x y rest all w h e way =
    let n = 9 * beginning.bytes in
    let L = Goes way (PayloadText x) (PayloadText y) in
    let l = w.count in
    subst (IsSpan (Goes way (PayloadText (with_bytes ss x)) (PayloadText (with_bytes ts y)))) (sym (e way)) (span_same (λ k. GoesWithin way ss ts k ⊎ After n L k) (Goes way (PayloadText (with_bytes ss x)) (PayloadText (with_bytes ts y))) (union_of (span_of way beginning.outcomes) (after_of n (span_of way rest))) (λ k g. within_in ss ts x y w.together way k (elim g [ inl a ↦ inl a | inr a ↦ inr (a.0, omega (arith, a.1, l), a.2) ])) (λ k g. elim (within_out ss ts x y w.together way k g) [ inl a ↦ inl a | inr a ↦ inr (a.0, omega (arith, a.1, l), a.2) ]) (span_union (GoesWithin way ss ts) (After n L) (span_of way beginning.outcomes) (after_of n (span_of way rest)) (w.outcomes way) (span_after L n (span_of way rest) (h way))))

-- ---- one byte more

more_out : (ss ts : List Step) (s t : Step) → NeverPart ss ts → (way : Way) (k : ℕ) → GoesWithin way (ss ++ s ∷ []) (ts ++ t ∷ []) k → GoesWithin way ss ts k ⊎ After (9 * length ss) (GoesInByte way s t) k
more_out [] [] s t n way k (inl h) = inr (k, omega arith, h)
more_out [] [] s t n way k (inr h) = absurd h.2
more_out [] (u ∷ ts) s t n way k h = absurd n
more_out (v ∷ ss) [] s t n way k h = absurd n
more_out (v ∷ ss) (u ∷ ts) s t n way k (inl h) = inl (inl h)
more_out (v ∷ ss) (u ∷ ts) s t n way k (inr (j, e, h)) =
    elim (more_out ss ts s t n.1 way j h) [ inl g ↦ inl (inr (j, e, g)) | inr d ↦ inr (d.0, omega (arith, e, d.1), d.2) ]

more_in : (ss ts : List Step) (s t : Step) → NeverPart ss ts → (way : Way) (k : ℕ) → GoesWithin way ss ts k ⊎ After (9 * length ss) (GoesInByte way s t) k → GoesWithin way (ss ++ s ∷ []) (ts ++ t ∷ []) k
more_in [] [] s t n way k (inl h) = absurd h
more_in [] [] s t n way k (inr (j, e, h)) = inl (let f : j ≡ k = omega (arith, e) in subst (GoesInByte way s t) f h)
more_in [] (u ∷ ts) s t n way k h = absurd n
more_in (v ∷ ss) [] s t n way k h = absurd n
more_in (v ∷ ss) (u ∷ ts) s t n way k (inl (inl h)) = inl h
more_in (v ∷ ss) (u ∷ ts) s t n way k (inl (inr (j, e, h))) = inr (j, e, more_in ss ts s t n.1 way j (inl h))
more_in (v ∷ ss) (u ∷ ts) s t n way k (inr (j, e, h)) =
    let i = j + 9 * length ss in
    inr (i, omega (arith, e), more_in ss ts s t n.1 way i (inr (j, refl, h)))

more_together : (ss ts : List Step) (s t : Step) → NeverPart ss ts → NeverPart (s ∷ []) (t ∷ []) → NeverPart (ss ++ s ∷ []) (ts ++ t ∷ [])
more_together [] [] s t n m = m
more_together [] (u ∷ ts) s t n m = absurd n
more_together (v ∷ ss) [] s t n m = absurd n
more_together (v ∷ ss) (u ∷ ts) s t n m = (n.0, more_together ss ts s t n.1 m)

pub no_beginning : (beginning : Beginning) → beginning.bytes ≡ 0 → ((way : Way) → span_of way beginning.outcomes ≡ None) → IsBeginning [] [] beginning
no_beginning beginning e n =
    record { together = tt; count = sym e; outcomes = λ way. subst (IsSpan (GoesWithin way [] [])) (sym (n way)) (λ k h. h) }

pub longer_beginning : (ss ts : List Step) (s t : Step) (old new : Beginning) (here : Outcomes) → IsBeginning ss ts old → NeverPart (s ∷ []) (t ∷ []) → IsInByte s t here → new.bytes ≡ old.bytes + 1 → ((way : Way) → span_of way new.outcomes ≡ union_of (span_of way old.outcomes) (after_of (9 * old.bytes) (span_of way here))) → IsBeginning (ss ++ s ∷ []) (ts ++ t ∷ []) new
longer_beginning ss ts s t old new here w m h e f =
    let n = 9 * old.bytes in
    let l = w.count in
    record {
      together = more_together ss ts s t w.together m;
      count = omega (arith, length-append ss (s ∷ []), e, l);
      outcomes = λ way. subst (IsSpan (GoesWithin way (ss ++ s ∷ []) (ts ++ t ∷ []))) (sym (f way)) (span_same (λ k. GoesWithin way ss ts k ⊎ After n (GoesInByte way s t) k) (GoesWithin way (ss ++ s ∷ []) (ts ++ t ∷ [])) (union_of (span_of way old.outcomes) (after_of n (span_of way here))) (λ k g. more_in ss ts s t w.together way k (elim g [ inl a ↦ inl a | inr a ↦ inr (a.0, omega (arith, a.1, l), a.2) ])) (λ k g. elim (more_out ss ts s t w.together way k g) [ inl a ↦ inl a | inr a ↦ inr (a.0, omega (arith, a.1, l), a.2) ]) (span_union (GoesWithin way ss ts) (After n (GoesInByte way s t)) (span_of way old.outcomes) (after_of n (span_of way here)) (w.outcomes way) (span_after (GoesInByte way s t) n (span_of way here) (h way))));
    }

pub same_together : (s : Step) → NeverPart (s ∷ []) (s ∷ [])
same_together s = (same_never_part (pattern_bits s.bits) (pattern_bits s.bits) refl, tt)

-- ---- rows of bytes, and what follows them

pub with_more : (ss ts : List Step) (x : PayloadTree) → with_bytes (ss ++ ts) x ≡ with_bytes ss (with_bytes ts x)
with_more [] ts x = refl
with_more (s ∷ ss) ts x = ap (λ (y : PayloadTree). byte s.bits y s.refused) (with_more ss ts x)

with_rest : (n : ℕ) (ss : List Step) (x : PayloadTree) → with_bytes ss x ≡ with_bytes (take n ss) (with_bytes (drop n ss) x)
with_rest zero ss x = refl
with_rest (suc n) [] x = refl
with_rest (suc n) (s ∷ ss) x = ap (λ (y : PayloadTree). byte s.bits y s.refused) (with_rest n ss x)

pub with_rests : (n : ℕ) (ss ts : List Step) (x y : PayloadTree) (o : Outcomes) → AreOutcomes (PayloadText (with_bytes (take n ss) (with_bytes (drop n ss) x))) (PayloadText (with_bytes (take n ts) (with_bytes (drop n ts) y))) o → AreOutcomes (PayloadText (with_bytes ss x)) (PayloadText (with_bytes ts y)) o
with_rests n ss ts x y o h =
    subst (λ (z : PayloadTree). AreOutcomes (PayloadText z) (PayloadText (with_bytes ts y)) o) (sym (with_rest n ss x)) (subst (λ (z : PayloadTree). AreOutcomes (PayloadText (with_bytes (take n ss) (with_bytes (drop n ss) x))) (PayloadText z) o) (sym (with_rest n ts y)) h)

-- each byte takes nine slots
pub slots_left : (n : ℕ) (ss : List Step) (x : PayloadTree) → n ≤ length ss → 9 * n + payload_slots (with_bytes (drop n ss) x) ≤ payload_slots (with_bytes ss x)
slots_left zero ss x l = omega arith
slots_left (suc n) [] x l = absurd (omega (arith, l))
slots_left (suc n) (s ∷ ss) x l = let h = slots_left n ss x (omega (arith, l)) in omega (arith, h)
