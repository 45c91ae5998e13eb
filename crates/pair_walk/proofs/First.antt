-- The first clash, for each part that a text is made of.
use Rattle.std.proofs.Common.{◌≡◌, ℕ, zero, suc, ◌+◌, ◌≤◌, Bool, true, false, List, [], ◌∷◌, ◌++◌, length, min, replicate, refl, ap, sym, arith, inl, inr, ◌⊎◌}
use Rattle.message_tree.specs.declared.bits.Bit.{Bit}
use Rattle.message_tree.specs.declared.bits.Bit.TheVariants.{Zero, One, Either}
use Rattle.message_tree.specs.declared.counts.Count.{Count}
use Rattle.message_tree.specs.declared.items.Item.{Item}
use Rattle.message_tree.specs.declared.items.Item.TheVariants.{Sent, Heard, Again}
use Rattle.message_tree.specs.declared.items.Kind.{Kind}
use Rattle.message_tree.specs.Bits.{SplitAt, NeverSplit}
use Rattle.message_tree.specs.Counts.{Meet}
use Rattle.message_tree.specs.Items.{KindsClash}
use Rattle.message_tree.specs.Texts.{Language, Allows, SentThen, HeardThen, AnswerThen, AgainThen, ByteThen, BytesThen, ReadThen}
use Rattle.certificate.specs.Laws.{NeverClash}
use Rattle.certificate.proofs.Soundness.{both_sent, both_heard, never_bytes}
use Rattle.pair_walk.specs.Wires.{agreed_bit, agreed, read_wire}
use Rattle.pair_walk.specs.FirstClash.{ComesBefore, GoesOnWith, AllFrom, IsFirstClash}

-- ---- bits that are sent

abbrev Differ : Bit → Bit → Type 0
Differ b c = SplitAt (b ∷ []) (c ∷ []) 0

allows_first : (b c : Bit) → (Differ b c → ⊥) → Allows b (agreed_bit b c)
allows_first Zero One n = absurd (n (inl (refl, refl)))
allows_first Zero Zero n = refl
allows_first Zero Either n = refl
allows_first One c n = refl
allows_first Either c n = tt

allows_second : (b c : Bit) → (Differ b c → ⊥) → Allows c (agreed_bit b c)
allows_second One Zero n = absurd (n (inr (refl, refl)))
allows_second One One n = refl
allows_second Zero Zero n = refl
allows_second Zero One n = refl
allows_second Either Zero n = refl
allows_second Either One n = refl
allows_second b Either n = tt

never_after : (b c : Bit) (bs cs : List Bit) → NeverSplit (b ∷ bs) (c ∷ cs) → NeverSplit bs cs
never_after b c bs cs n k h = n (suc k) h

sent_first : (bs cs : List Bit) (P : Language) (u : List Item) (k : Kind) → length bs ≡ length cs → NeverSplit bs cs → GoesOnWith P u k → GoesOnWith (SentThen bs P) (agreed bs cs ++ u) k
sent_first [] [] P u k l n g = g
sent_first (b ∷ bs) (c ∷ cs) P u k l n g =
    let r = sent_first bs cs P u k (omega arith) (never_after b c bs cs n) g in
    (r.0, r.1, (allows_first b c (n 0), r.2), r.3)
sent_first [] (c ∷ cs) P u k l n g = absurd (omega arith)
sent_first (b ∷ bs) [] P u k l n g = absurd (omega arith)

sent_second : (bs cs : List Bit) (P : Language) (u : List Item) (k : Kind) → length bs ≡ length cs → NeverSplit bs cs → GoesOnWith P u k → GoesOnWith (SentThen cs P) (agreed bs cs ++ u) k
sent_second [] [] P u k l n g = g
sent_second (b ∷ bs) (c ∷ cs) P u k l n g =
    let r = sent_second bs cs P u k (omega arith) (never_after b c bs cs n) g in
    (r.0, r.1, (allows_second b c (n 0), r.2), r.3)
sent_second [] (c ∷ cs) P u k l n g = absurd (omega arith)
sent_second (b ∷ bs) [] P u k l n g = absurd (omega arith)

-- what both may send is not before what they agree on
least_bit : (b c : Bit) (s : Bool) → Allows b s → Allows c s → ComesBefore (Sent (agreed_bit b c)) (Sent s) ⊎ (agreed_bit b c ≡ s)
least_bit One c s h k = inr (sym h)
least_bit Zero One s h k = inr (sym k)
least_bit Either One s h k = inr (sym k)
least_bit Zero Zero s h k = inr (sym h)
least_bit Zero Either s h k = inr (sym h)
least_bit Either Zero s h k = inr (sym k)
least_bit Either Either false h k = inr refl
least_bit Either Either true h k = inl tt

pub none_before_sent : (bs cs : List Bit) (P Q : Language) (t : List Item) → length bs ≡ length cs → AllFrom P Q t → AllFrom (SentThen bs P) (SentThen cs Q) (agreed bs cs ++ t)
none_before_sent [] [] P Q t l n u v w x y p q c = n u v w x y p q c
none_before_sent [] (_ ∷ cs) P Q t l n u v w x y p q c = absurd (omega arith)
none_before_sent (_ ∷ bs) [] P Q t l n u v w x y p q c = absurd (omega arith)
none_before_sent (b ∷ bs) (d ∷ cs) P Q t l n [] v w (Sent i) (Sent j) p q c = absurd (both_sent i j c)
none_before_sent (b ∷ bs) (d ∷ cs) P Q t l n [] v w (Sent i) _ p q c = absurd q
none_before_sent (b ∷ bs) (d ∷ cs) P Q t l n [] v w _ y p q c = absurd p
none_before_sent (b ∷ bs) (d ∷ cs) P Q t l n (Sent i ∷ u) v w x y p q c =
    elim (least_bit b d i p.0 q.0) [
      | inl less ↦ inl less
      | inr same ↦ inr (ap Sent same, none_before_sent bs cs P Q t (omega arith) n u v w x y p.1 q.1 c)
    ]
none_before_sent (b ∷ bs) (d ∷ cs) P Q t l n (_ ∷ u) v w x y p q c = absurd p

pub first_sent : (bs cs : List Bit) (P Q : Language) (u : List Item) (j k : Kind) → length bs ≡ length cs → NeverSplit bs cs → IsFirstClash P Q u j k → IsFirstClash (SentThen bs P) (SentThen cs Q) (agreed bs cs ++ u) j k
first_sent bs cs P Q u j k l n f =
    record {
      first = sent_first bs cs P u j l n f.first;
      second = sent_second bs cs Q u k l n f.second;
      clash = f.clash;
      earliest = none_before_sent bs cs P Q u l f.earliest;
    }

-- ---- answers

none_before_acked : (P Q R S : Language) (t : List Item) → AllFrom P R t → AllFrom (AnswerThen P Q) (AnswerThen R S) (Heard false ∷ t)
none_before_acked P Q R S t n [] v w (Heard false) (Heard j) p q c = absurd (both_heard false j c)
none_before_acked P Q R S t n [] v w (Heard true) (Heard j) p q c = absurd (both_heard true j c)
none_before_acked P Q R S t n [] v w (Heard i) _ p q c = absurd q
none_before_acked P Q R S t n [] v w _ y p q c = absurd p
none_before_acked P Q R S t n (Heard false ∷ u) v w x y p q c = inr (refl, n u v w x y p q c)
none_before_acked P Q R S t n (Heard true ∷ u) v w x y p q c = inl tt
none_before_acked P Q R S t n (_ ∷ u) v w x y p q c = absurd p

none_before_refused : (P Q R S : Language) (t : List Item) → NeverClash P R → AllFrom Q S t → AllFrom (AnswerThen P Q) (AnswerThen R S) (Heard true ∷ t)
none_before_refused P Q R S t m n [] v w (Heard false) (Heard j) p q c = absurd (both_heard false j c)
none_before_refused P Q R S t m n [] v w (Heard true) (Heard j) p q c = absurd (both_heard true j c)
none_before_refused P Q R S t m n [] v w (Heard i) _ p q c = absurd q
none_before_refused P Q R S t m n [] v w _ y p q c = absurd p
none_before_refused P Q R S t m n (Heard false ∷ u) v w x y p q c = absurd (m u v w x y p q c)
none_before_refused P Q R S t m n (Heard true ∷ u) v w x y p q c = inr (refl, n u v w x y p q c)
none_before_refused P Q R S t m n (_ ∷ u) v w x y p q c = absurd p

pub first_acked : (P Q R S : Language) (u : List Item) (j k : Kind) → IsFirstClash P R u j k → IsFirstClash (AnswerThen P Q) (AnswerThen R S) (Heard false ∷ u) j k
first_acked P Q R S u j k f =
    record { first = f.first; second = f.second; clash = f.clash; earliest = none_before_acked P Q R S u f.earliest }

pub first_refused : (P Q R S : Language) (u : List Item) (j k : Kind) → NeverClash P R → IsFirstClash Q S u j k → IsFirstClash (AnswerThen P Q) (AnswerThen R S) (Heard true ∷ u) j k
first_refused P Q R S u j k n f =
    record { first = f.first; second = f.second; clash = f.clash; earliest = none_before_refused P Q R S u n f.earliest }

-- ---- a repeated START

none_before_again : (P Q : Language) (t : List Item) → AllFrom P Q t → AllFrom (AgainThen P) (AgainThen Q) (Again ∷ t)
none_before_again P Q t n [] v w Again Again p q (inl c) = absurd (c refl)
none_before_again P Q t n [] v w Again Again p q (inr c) = cc (c.0)
none_before_again P Q t n [] v w Again _ p q c = absurd q
none_before_again P Q t n [] v w _ y p q c = absurd p
none_before_again P Q t n (Again ∷ u) v w x y p q c = inr (refl, n u v w x y p q c)
none_before_again P Q t n (_ ∷ u) v w x y p q c = absurd p

pub first_again : (P Q : Language) (u : List Item) (j k : Kind) → IsFirstClash P Q u j k → IsFirstClash (AgainThen P) (AgainThen Q) (Again ∷ u) j k
first_again P Q u j k f =
    record { first = f.first; second = f.second; clash = f.clash; earliest = none_before_again P Q u f.earliest }

-- ---- at once

pub first_here : (P Q : Language) (j k : Kind) → GoesOnWith P [] j → GoesOnWith Q [] k → KindsClash j k → IsFirstClash P Q [] j k
first_here P Q j k f g c = record { first = f; second = g; clash = c; earliest = λ u v w x y p q d. tt }

-- ---- bits that are heard

heard_on : (n : ℕ) (P : Language) (u : List Item) (k : Kind) → GoesOnWith P u k → GoesOnWith (HeardThen n P) (replicate n (Heard false) ++ u) k
heard_on zero P u k g = g
heard_on (suc n) P u k g = heard_on n P u k g

none_before_heard : (n : ℕ) (P Q : Language) (t : List Item) → AllFrom P Q t → AllFrom (HeardThen n P) (HeardThen n Q) (replicate n (Heard false) ++ t)
none_before_heard zero P Q t n u v w x y p q c = n u v w x y p q c
none_before_heard (suc k) P Q t n [] v w (Heard i) (Heard j) p q c = absurd (both_heard i j c)
none_before_heard (suc k) P Q t n [] v w (Heard i) _ p q c = absurd q
none_before_heard (suc k) P Q t n [] v w _ y p q c = absurd p
none_before_heard (suc k) P Q t n (Heard false ∷ u) v w x y p q c = inr (refl, none_before_heard k P Q t n u v w x y p q c)
none_before_heard (suc k) P Q t n (Heard true ∷ u) v w x y p q c = inl tt
none_before_heard (suc k) P Q t n (_ ∷ u) v w x y p q c = absurd p

-- ---- reads

bytes_on : (more : ℕ) (P : Language) (u : List Item) (k : Kind) → GoesOnWith P u k → GoesOnWith (BytesThen more (ByteThen One P)) (read_wire more ++ u) k
bytes_on zero P u k g = heard_on 8 (SentThen (One ∷ []) P) (Sent true ∷ u) k (g.0, g.1, (refl, g.2), g.3)
bytes_on (suc more) P u k g =
    let r = bytes_on more P u k g in
    heard_on 8 (SentThen (Zero ∷ []) (BytesThen more (ByteThen One P))) (Sent false ∷ (read_wire more ++ u)) k (r.0, r.1, (refl, r.2), r.3)

-- who ends the read later stands before
one_after_zero : (P Q : Language) (t : List Item) → AllFrom (SentThen (One ∷ []) P) (SentThen (One ∷ []) Q) (Sent false ∷ t)
one_after_zero P Q t [] v w (Sent i) (Sent j) p q c = absurd (both_sent i j c)
one_after_zero P Q t [] v w (Sent i) _ p q c = absurd q
one_after_zero P Q t [] v w _ y p q c = absurd p
one_after_zero P Q t (Sent false ∷ u) v w x y p q c = cc (p.0)
one_after_zero P Q t (Sent true ∷ u) v w x y p q c = inl tt
one_after_zero P Q t (_ ∷ u) v w x y p q c = absurd p

none_before_bytes : (more m n : ℕ) (P Q : Language) (t : List Item) → (m ≡ n → m ≤ more) → AllFrom P Q t → AllFrom (BytesThen m (ByteThen One P)) (BytesThen n (ByteThen One Q)) (read_wire more ++ t)
none_before_bytes more zero (suc n) P Q t le e = λ u v w x y p q c. absurd (never_bytes zero (suc n) P Q (λ h. absurd (omega arith)) u v w x y p q c)
none_before_bytes more (suc m) zero P Q t le e = λ u v w x y p q c. absurd (never_bytes (suc m) zero P Q (λ h. absurd (omega arith)) u v w x y p q c)
none_before_bytes zero zero zero P Q t le e = none_before_heard 8 (SentThen (One ∷ []) P) (SentThen (One ∷ []) Q) (Sent true ∷ t) (none_before_sent (One ∷ []) (One ∷ []) P Q t refl e)
none_before_bytes (suc more) zero zero P Q t le e = none_before_heard 8 (SentThen (One ∷ []) P) (SentThen (One ∷ []) Q) (Sent false ∷ (read_wire more ++ t)) (one_after_zero P Q (read_wire more ++ t))
none_before_bytes zero (suc m) (suc n) P Q t le e = λ u v w x y p q c. absurd (never_bytes (suc m) (suc n) P Q (λ h. absurd (omega (arith, le h))) u v w x y p q c)
none_before_bytes (suc more) (suc m) (suc n) P Q t le e =
    let X = BytesThen m (ByteThen One P) in
    let Y = BytesThen n (ByteThen One Q) in
    none_before_heard 8 (SentThen (Zero ∷ []) X) (SentThen (Zero ∷ []) Y) (Sent false ∷ (read_wire more ++ t)) (none_before_sent (Zero ∷ []) (Zero ∷ []) X Y (read_wire more ++ t) refl (none_before_bytes more m n P Q t (λ h. omega (arith, le (ap suc h))) e))

-- two reads that may end after the same number of bytes: the greatest such number comes first, since 0 comes before 1
pub first_read : (c d : Count) (more : ℕ) (P Q : Language) (u : List Item) (j k : Kind) → Meet c d → more + 1 ≡ min c.greatest d.greatest → IsFirstClash P Q u j k → IsFirstClash (ReadThen c P) (ReadThen d Q) (read_wire more ++ u) j k
first_read c d more P Q u j k m e f =
    let a = bytes_on more P u j f.first in
    let b = bytes_on more Q u k f.second in
    record {
      first = (a.0, a.1, (more, (omega (arith, m.1.0, m.1.1, m.2.1), omega arith), a.2), a.3);
      second = (b.0, b.1, (more, (omega (arith, m.2.0, m.2.1, m.1.1), omega arith), b.2), b.3);
      clash = f.clash;
      earliest = λ v w z x y p q h. none_before_bytes more p.0 q.0 P Q u (λ s. omega (arith, p.1.1, q.1.1)) f.earliest v w z x y p.2 q.2 h;
    }
