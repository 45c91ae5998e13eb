-- Where two who read go apart or end (UM10204, 3.1.6).
use Rattle.std.proofs.Common.{◌≡◌, ℕ, zero, suc, ◌+◌, ◌-◌, ◌*◌, ◌<◌, max, min, true, false, None, [], ◌∷◌, refl, ap, sym, subst, arith, inl, inr, ◌⊎◌}
use Rattle.message_tree.specs.declared.bits.Bit.{Bit}
use Rattle.message_tree.specs.declared.bits.Bit.TheVariants.{Zero, One}
use Rattle.message_tree.specs.declared.counts.Count.{Count}
use Rattle.message_tree.specs.declared.items.Item.TheVariants.{Heard}
use Rattle.message_tree.specs.Counts.{InRange, least_of, greatest_of}
use Rattle.message_tree.specs.Laws.{HasText}
use Rattle.message_tree.specs.Texts.{Language, Allows, SentThen, HeardThen, ByteThen, BytesThen, ReadThen}
use Rattle.arbitration.specs.declared.spans.Outcomes.{Outcomes}
use Rattle.arbitration.specs.Spans.{IsSpan}
use Rattle.arbitration.specs.Ways.{Way, both_end, first_wins, second_wins, Goes, WinsAt, PartsAt, ReadsOn, ReadsApart, AreReadsApart}
use Rattle.arbitration.specs.Spans.{After}
use Rattle.arbitration.proofs.BitPlaces.{never_part}
use Rattle.arbitration.proofs.SpanLemmas.{Between}
use Rattle.arbitration.proofs.Meetings.{other, turned, some_sent, goes_sent, parts_here, goes_after_sent, goes_heard, goes_after_heard}

-- ---- one byte

wins_bit : (b c : Bit) (k : ℕ) → WinsAt (b ∷ []) (c ∷ []) k → (k ≡ 0) × Allows b false × Allows c true
wins_bit b c zero w =
    let e : w.zero.0 ≡ b = let h = w.zero.1 in cc in
    let f : w.one.0 ≡ c = let h = w.one.1 in cc in
    (refl, subst (λ (a : Bit). Allows a false) e w.zero.2, subst (λ (a : Bit). Allows a true) f w.one.2)
wins_bit b c (suc k) w = let h = w.zero.1 in absurd cc

wins_zero : WinsAt (Zero ∷ []) (One ∷ []) 0
wins_zero = record { zero = (Zero, refl, refl); one = (One, refl, refl); before = λ j lt h. absurd (omega arith) }

same_bit : (way : Way) (b : Bit) (k : ℕ) → (Allows b false → Allows b true → ⊥) → PartsAt way (b ∷ []) (b ∷ []) k → ⊥
same_bit both_end b k n w = w
same_bit first_wins b k n w = let r = wins_bit b b k w in n r.1 r.2
same_bit second_wins b k n w = let r = wins_bit b b k w in n r.1 r.2

known_zero : Allows Zero false → Allows Zero true → ⊥
known_zero a b = cc

known_one : Allows One false → Allows One true → ⊥
known_one a b = cc

-- both acknowledge a byte, or neither does
goes_byte : (way : Way) (b : Bit) (P Q : Language) (k : ℕ) → (Allows b false → Allows b true → ⊥) → Goes way (ByteThen b P) (ByteThen b Q) k → After 9 (Goes way P Q) k
goes_byte way b P Q k n g =
    let h = goes_heard way 8 (SentThen (b ∷ []) P) (SentThen (b ∷ []) Q) k g in
    elim (goes_sent way (b ∷ []) (b ∷ []) P Q h.0 refl h.2) [
      | inl w ↦ absurd (same_bit way b h.0 n w)
      | inr r ↦ (r.1.0, omega (arith, h.1, r.1.1), r.1.2)
    ]

goes_after_byte : (way : Way) (b : Bit) (P Q : Language) (j : ℕ) → Goes way P Q j → Goes way (ByteThen b P) (ByteThen b Q) (j + 9)
goes_after_byte way b P Q j g =
    let s = goes_after_sent way (b ∷ []) (b ∷ []) P Q j refl (never_part (b ∷ [])) g in
    let e : (j + 1) + 8 ≡ j + 9 = omega arith in
    subst (Goes way (ByteThen b P) (ByteThen b Q)) e (goes_after_heard way 8 (SentThen (b ∷ []) P) (SentThen (b ∷ []) Q) (j + 1) s)

-- one acknowledges a byte, and the other doesn't
zero_one : (way : Way) (k : ℕ) → PartsAt way (Zero ∷ []) (One ∷ []) k → (way ≡ first_wins) × (k ≡ 0)
zero_one both_end k w = absurd w
zero_one first_wins k w = (refl, (wins_bit Zero One k w).0)
zero_one second_wins k w = let r = (wins_bit One Zero k w).1 in absurd cc

reads_on : (way : Way) (P Q : Language) (k : ℕ) → Goes way (ByteThen Zero P) (ByteThen One Q) k → (way ≡ first_wins) × (k ≡ 8)
reads_on way P Q k g =
    let h = goes_heard way 8 (SentThen (Zero ∷ []) P) (SentThen (One ∷ []) Q) k g in
    elim (goes_sent way (Zero ∷ []) (One ∷ []) P Q h.0 refl h.2) [
      | inl w ↦ let r = zero_one way h.0 w in (r.0, omega (arith, h.1, r.1))
      | inr r ↦ absurd (r.0 0 (inl (refl, refl)))
    ]

wins_on : (P Q : Language) → HasText P → HasText Q → Goes first_wins (ByteThen Zero P) (ByteThen One Q) 8
wins_on P Q p q =
    goes_after_heard first_wins 8 (SentThen (Zero ∷ []) P) (SentThen (One ∷ []) Q) 0 (parts_here first_wins (Zero ∷ []) (One ∷ []) P Q 0 wins_zero p q)

-- ---- some number of bytes

some_heard : (n : ℕ) (P : Language) → HasText P → HasText (HeardThen n P)
some_heard zero P h = h
some_heard (suc n) P h =
    let r = some_heard n P h in
    (Heard true ∷ r.0, r.1)

-- more bytes that are acknowledged, and a last one that isn't
abbrev pub Bytes : ℕ → Language → Language
Bytes more P = BytesThen more (ByteThen One P)

some_byte : (b : Bit) (P : Language) → HasText P → HasText (ByteThen b P)
some_byte b P h = some_heard 8 (SentThen (b ∷ []) P) (some_sent (b ∷ []) P h)

pub some_bytes : (n : ℕ) (P : Language) → HasText P → HasText (Bytes n P)
some_bytes zero P h = some_byte One P h
some_bytes (suc n) P h = some_byte Zero (Bytes n P) (some_bytes n P h)

-- one who wants more bytes goes on where the other ends
abbrev BytesApart : Way → ℕ → ℕ → ℕ → Type 0
BytesApart both_end m n k = ⊥
BytesApart first_wins m n k = (n < m) × (k ≡ 9 * n + 8)
BytesApart second_wins m n k = (m < n) × (k ≡ 9 * m + 8)

apart_turned : (way : Way) (m n k : ℕ) → BytesApart (other way) m n k → BytesApart way n m k
apart_turned both_end m n k h = h
apart_turned first_wins m n k h = h
apart_turned second_wins m n k h = h

apart_later : (way : Way) (m n j k : ℕ) → k ≡ j + 9 → BytesApart way m n j → BytesApart way (suc m) (suc n) k
apart_later both_end m n j k e h = h
apart_later first_wins m n j k e h = (omega (arith, h.0), omega (arith, h.1))
apart_later second_wins m n j k e h = (omega (arith, h.0), omega (arith, h.1))

goes_bytes : (way : Way) (m n : ℕ) (P Q : Language) (k : ℕ) → Goes way (Bytes m P) (Bytes n Q) k → BytesApart way m n k ⊎ ((m ≡ n) × After (9 * (m + 1)) (Goes way P Q) k)
goes_bytes way zero zero P Q k g =
    let r = goes_byte way One P Q k known_one g in
    inr (refl, (r.0, omega (arith, r.1), r.2))
goes_bytes way zero (suc n) P Q k g =
    let r = reads_on (other way) (Bytes n Q) P k (turned way (Bytes 0 P) (Bytes (suc n) Q) k g) in
    inl (apart_turned way (suc n) 0 k (subst (λ (w : Way). BytesApart w (suc n) 0 k) (sym r.0) (omega arith, omega (arith, r.1))))
goes_bytes way (suc m) zero P Q k g =
    let r = reads_on way (Bytes m P) Q k g in
    inl (subst (λ (w : Way). BytesApart w (suc m) 0 k) (sym r.0) (omega arith, omega (arith, r.1)))
goes_bytes way (suc m) (suc n) P Q k g =
    let r = goes_byte way Zero (Bytes m P) (Bytes n Q) k known_zero g in
    elim (goes_bytes way m n P Q r.0 r.2) [
      | inl h ↦ inl (apart_later way m n r.0 k r.1 h)
      | inr h ↦ inr (ap suc h.0, (h.1.0, omega (arith, h.1.1, r.1), h.1.2))
    ]

bytes_on : (m n : ℕ) (P Q : Language) → n < m → HasText P → HasText Q → Goes first_wins (Bytes m P) (Bytes n Q) (9 * n + 8)
bytes_on zero n P Q lt p q = absurd (omega arith)
bytes_on (suc m) zero P Q lt p q = wins_on (Bytes m P) Q (some_bytes m P p) q
bytes_on (suc m) (suc n) P Q lt p q =
    let e : (9 * n + 8) + 9 ≡ 9 * suc n + 8 = omega arith in
    subst (Goes first_wins (Bytes (suc m) P) (Bytes (suc n) Q)) e (goes_after_byte first_wins Zero (Bytes m P) (Bytes n Q) (9 * n + 8) (bytes_on m n P Q (omega arith) p q))

goes_after_bytes : (way : Way) (n : ℕ) (P Q : Language) (j : ℕ) → Goes way P Q j → Goes way (Bytes n P) (Bytes n Q) (j + 9 * (n + 1))
goes_after_bytes way zero P Q j g = goes_after_byte way One P Q j g
goes_after_bytes way (suc n) P Q j g =
    let e : (j + 9 * (n + 1)) + 9 ≡ j + 9 * (suc n + 1) = omega arith in
    subst (Goes way (Bytes (suc n) P) (Bytes (suc n) Q)) e (goes_after_byte way Zero (Bytes n P) (Bytes n Q) (j + 9 * (n + 1)) (goes_after_bytes way n P Q j g))

-- ---- reads

-- the numbers of bytes that lie in both ranges
abbrev pub Common : Count → Count → (ℕ → Type 0) → ℕ → Type 0
Common c d R k = Between (max (least_of c) (least_of d)) (min (greatest_of c) (greatest_of d)) R k

read_apart : (way : Way) (c d : Count) (m n k : ℕ) → InRange c (m + 1) → InRange d (n + 1) → BytesApart way m n k → ReadsApart way c d k
read_apart both_end c d m n k a b h = h
read_apart first_wins c d m n k a b h = (n + 1, b, omega (arith, a.1, h.0), omega (arith, h.1))
read_apart second_wins c d m n k a b h = (m + 1, a, omega (arith, b.1, h.0), omega (arith, h.1))

pub goes_read : (way : Way) (c d : Count) (P Q : Language) (k : ℕ) → Goes way (ReadThen c P) (ReadThen d Q) k → ReadsApart way c d k ⊎ Common c d (Goes way P Q) k
goes_read way c d P Q k g =
    let m = g.first.1.0 in
    let n = g.second.1.0 in
    let a = g.first.1.1 in
    let b = g.second.1.1 in
    elim (goes_bytes way m n P Q k (record { wire = g.wire; slot = g.slot; first = (g.first.0, g.first.1.2); second = (g.second.0, g.second.1.2) })) [
      | inl h ↦ inl (read_apart way c d m n k a b h)
      | inr h ↦ inr (m + 1, omega (arith, a.0, b.0, h.0), omega (arith, a.1, b.1, h.0), h.1)
    ]

in_reads : (way : Way) (c d : Count) (m n : ℕ) (P Q : Language) (k : ℕ) → InRange c (m + 1) → InRange d (n + 1) → Goes way (Bytes m P) (Bytes n Q) k → Goes way (ReadThen c P) (ReadThen d Q) k
in_reads way c d m n P Q k a b g =
    record { wire = g.wire; slot = g.slot; first = (g.first.0, (m, a, g.first.1)); second = (g.second.0, (n, b, g.second.1)) }

reading_on : (c d : Count) (P Q : Language) (k : ℕ) → ReadsOn c d k → HasText P → HasText Q → Goes first_wins (ReadThen c P) (ReadThen d Q) k
reading_on c d P Q k (n, r, lt, e) p q =
    let m = greatest_of c - 1 in
    let f : 9 * (n - 1) + 8 ≡ k = omega (arith, r.0, d.positive) in
    let a : InRange c (m + 1) = (omega (arith, c.positive, c.ordered), omega (arith, c.positive, c.ordered)) in
    let b : InRange d ((n - 1) + 1) = (omega (arith, r.0, d.positive), omega (arith, r.0, r.1, d.positive)) in
    in_reads first_wins c d m (n - 1) P Q k a b (subst (Goes first_wins (Bytes m P) (Bytes (n - 1) Q)) f (bytes_on m (n - 1) P Q (omega (arith, r.0, lt, d.positive)) p q))

pub reads_apart : (way : Way) (c d : Count) (P Q : Language) (k : ℕ) → ReadsApart way c d k → HasText P → HasText Q → Goes way (ReadThen c P) (ReadThen d Q) k
reads_apart both_end c d P Q k h p q = absurd h
reads_apart first_wins c d P Q k h p q = reading_on c d P Q k h p q
reads_apart second_wins c d P Q k h p q = turned first_wins (ReadThen d Q) (ReadThen c P) k (reading_on d c Q P k h q p)

pub goes_after_read : (way : Way) (c d : Count) (P Q : Language) (k : ℕ) → Common c d (Goes way P Q) k → Goes way (ReadThen c P) (ReadThen d Q) k
goes_after_read way c d P Q k (n, lo, hi, (j, e, g)) =
    let f : j + 9 * ((n - 1) + 1) ≡ k = omega (arith, c.positive) in
    let a : InRange c ((n - 1) + 1) = (omega (arith, c.positive), omega (arith, c.positive)) in
    let b : InRange d ((n - 1) + 1) = (omega (arith, d.positive), omega (arith, d.positive)) in
    in_reads way c d (n - 1) (n - 1) P Q k a b (subst (Goes way (Bytes (n - 1) P) (Bytes (n - 1) Q)) f (goes_after_bytes way (n - 1) P Q j g))

pub apart_of : (c d : Count) (o : Outcomes) → o.both ≡ None → IsSpan (ReadsOn c d) o.first → IsSpan (ReadsOn d c) o.second → AreReadsApart c d o
apart_of c d o e f s both_end = rw e (λ k h. h)
apart_of c d o e f s first_wins = f
apart_of c d o e f s second_wins = s
