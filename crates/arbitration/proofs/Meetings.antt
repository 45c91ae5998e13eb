-- Where two who go through the same parts of a text go apart or end.
use Rattle.std.proofs.Common.{◌≡◌, ℕ, zero, suc, ◌+◌, ◌<◌, Bool, true, false, Some, List, [], ◌∷◌, length, refl, ap, sym, ◌∙◌, subst, arith, inl, inr, ◌⊎◌}
use Rattle.message_tree.specs.declared.bits.Bit.{Bit}
use Rattle.message_tree.specs.declared.bits.Bit.TheVariants.{Zero, One, Either}
use Rattle.message_tree.specs.declared.items.Item.{Item}
use Rattle.message_tree.specs.declared.items.Item.TheVariants.{Sent, Heard, Again}
use Rattle.message_tree.specs.Bits.{SplitAt, NeverSplit}
use Rattle.message_tree.specs.Laws.{HasText}
use Rattle.message_tree.specs.Texts.{Language, Allows, SentThen, HeardThen, AnswerThen, AgainThen}
use Rattle.message_tree.proofs.BitLemmas.{Differ}
use Rattle.message_tree.proofs.TextLaws.{allowed}
use Rattle.arbitration.specs.Arbitration.{GoesOn}
use Rattle.arbitration.specs.Ways.{Way, both_end, first_wins, second_wins, put_first, put_second, Goes, WinsAt, PartsAt}
use Rattle.arbitration.specs.Spans.{After}

-- what both put before, and how each goes on
pub record Meet (way : Way) (P Q : Language) (u : List Item) : Type 0 where
  pub first : GoesOn P u (put_first way)
  pub second : GoesOn Q u (put_second way)

pub meet_of : (way : Way) (P Q : Language) (k : ℕ) (g : Goes way P Q k) → Meet way P Q g.wire
meet_of way P Q k g = record { first = g.first; second = g.second }

pub goes_of : (way : Way) (P Q : Language) (u : List Item) (k : ℕ) → length u ≡ k → Meet way P Q u → Goes way P Q k
goes_of way P Q u k e m = record { wire = u; slot = e; first = m.first; second = m.second }

-- the same with the two exchanged
abbrev pub other : Way → Way
other both_end = both_end
other first_wins = second_wins
other second_wins = first_wins

pub turned : (way : Way) (P Q : Language) (k : ℕ) → Goes way P Q k → Goes (other way) Q P k
turned both_end P Q k g = record { wire = g.wire; slot = g.slot; first = g.second; second = g.first }
turned first_wins P Q k g = record { wire = g.wire; slot = g.slot; first = g.second; second = g.first }
turned second_wins P Q k g = record { wire = g.wire; slot = g.slot; first = g.second; second = g.first }

-- ---- bits that are sent

pub sent_prefix : (bs : List Bit) (P : Language) (u : List Item) → P u → (v : List Item) × SentThen bs P v × (length v ≡ length bs + length u)
sent_prefix [] P u h = (u, h, omega arith)
sent_prefix (b ∷ bs) P u h =
    let s = allowed b in
    let r = sent_prefix bs P u h in
    (Sent s.0 ∷ r.0, (s.1, r.1), omega (arith, r.2))

pub some_sent : (bs : List Bit) (P : Language) → HasText P → HasText (SentThen bs P)
some_sent bs P h = let r = sent_prefix bs P h.0 h.1 in (r.0, r.1)

-- a bit that both may send
common : (b c : Bit) → (Differ b c → ⊥) → (s : Bool) × Allows b s × Allows c s
common Zero One n = absurd (n (inl (refl, refl)))
common One Zero n = absurd (n (inr (refl, refl)))
common Zero Zero n = (false, refl, refl)
common Zero Either n = (false, refl, tt)
common One One n = (true, refl, refl)
common One Either n = (true, refl, tt)
common Either Zero n = (false, tt, refl)
common Either One n = (true, tt, refl)
common Either Either n = (true, tt, tt)

one_bit : (b c : Bit) (s : Bool) → Allows b s → Allows c s → Differ b c → ⊥
one_bit b c s h k (inl d) = let p : s ≡ false = subst (λ (x : Bit). Allows x s) d.0 h in let q : s ≡ true = subst (λ (x : Bit). Allows x s) d.1 k in cc
one_bit b c s h k (inr d) = let p : s ≡ true = subst (λ (x : Bit). Allows x s) d.0 h in let q : s ≡ false = subst (λ (x : Bit). Allows x s) d.1 k in cc

split_differs : (b c : Bit) (bs cs : List Bit) → SplitAt (b ∷ bs) (c ∷ cs) 0 → Differ b c
split_differs b c bs cs (inl h) = inl (let e = h.0 in let f = h.1 in (cc, cc))
split_differs b c bs cs (inr h) = inr (let e = h.0 in let f = h.1 in (cc, cc))

differs_split : (b c : Bit) (bs cs : List Bit) → Differ b c → SplitAt (b ∷ bs) (c ∷ cs) 0
differs_split b c bs cs (inl h) = inl (ap Some h.0, ap Some h.1)
differs_split b c bs cs (inr h) = inr (ap Some h.0, ap Some h.1)

never_cons : (b c : Bit) (bs cs : List Bit) → (Differ b c → ⊥) → NeverSplit bs cs → NeverSplit (b ∷ bs) (c ∷ cs)
never_cons b c bs cs d n zero h = d (split_differs b c bs cs h)
never_cons b c bs cs d n (suc k) h = n k h

swap_differ : (b c : Bit) → Differ b c → Differ c b
swap_differ b c (inl h) = inr (h.1, h.0)
swap_differ b c (inr h) = inl (h.1, h.0)

before_later : (b c : Bit) (bs cs : List Bit) (k : ℕ) → (Differ b c → ⊥) → ((j : ℕ) → j < k → SplitAt bs cs j → ⊥) → (j : ℕ) → j < suc k → SplitAt (b ∷ bs) (c ∷ cs) j → ⊥
before_later b c bs cs k d n zero lt h = d (split_differs b c bs cs h)
before_later b c bs cs k d n (suc j) lt h = n j (omega arith) h

wins_later : (b c : Bit) (bs cs : List Bit) (k : ℕ) → (Differ b c → ⊥) → WinsAt bs cs k → WinsAt (b ∷ bs) (c ∷ cs) (suc k)
wins_later b c bs cs k d w =
    record { zero = w.zero; one = w.one; before = λ j lt h. before_later b c bs cs k d w.before j lt h }

parts_later : (way : Way) (b c : Bit) (bs cs : List Bit) (k : ℕ) → (Differ b c → ⊥) → PartsAt way bs cs k → PartsAt way (b ∷ bs) (c ∷ cs) (suc k)
parts_later both_end b c bs cs k d w = w
parts_later first_wins b c bs cs k d w = wins_later b c bs cs k d w
parts_later second_wins b c bs cs k d w = wins_later c b cs bs k (λ e. d (swap_differ c b e)) w

parts_now : (way : Way) (b c : Bit) (bs cs : List Bit) (P Q : Language) → Meet way (SentThen (b ∷ bs) P) (SentThen (c ∷ cs) Q) [] → PartsAt way (b ∷ bs) (c ∷ cs) 0
parts_now both_end b c bs cs P Q m = absurd (m.first.1)
parts_now first_wins b c bs cs P Q m =
    record { zero = (b, refl, m.first.1.0); one = (c, refl, m.second.1.0); before = λ j lt h. absurd (omega arith) }
parts_now second_wins b c bs cs P Q m =
    record { zero = (c, refl, m.second.1.0); one = (b, refl, m.first.1.0); before = λ j lt h. absurd (omega arith) }

never_nil : (k : ℕ) → SplitAt [] [] k → ⊥
never_nil k (inl h) = let e = h.0 in cc
never_nil k (inr h) = let e = h.0 in cc

-- they part at one of the bits, or come to what follows
abbrev SentOut : Way → List Bit → List Bit → Language → Language → List Item → Type 0
SentOut way bs cs P Q u =
    PartsAt way bs cs (length u) ⊎
    (NeverSplit bs cs × ((v : List Item) × (length u ≡ length v + length bs) × Meet way P Q v))

sent_out : (way : Way) (bs cs : List Bit) (P Q : Language) (u : List Item) → length bs ≡ length cs → Meet way (SentThen bs P) (SentThen cs Q) u → SentOut way bs cs P Q u
sent_out way [] [] P Q u l m = inr ((λ k h. never_nil k h), (u, omega arith, m))
sent_out way [] (c ∷ cs) P Q u l m = absurd (omega arith)
sent_out way (b ∷ bs) [] P Q u l m = absurd (omega arith)
sent_out way (b ∷ bs) (c ∷ cs) P Q [] l m = inl (parts_now way b c bs cs P Q m)
sent_out way (b ∷ bs) (c ∷ cs) P Q (Sent s ∷ u) l m =
    let d : Differ b c → ⊥ = one_bit b c s m.first.1.0 m.second.1.0 in
    elim (sent_out way bs cs P Q u (omega arith) (record { first = (m.first.0, m.first.1.1); second = (m.second.0, m.second.1.1) })) [
      | inl w ↦ inl (parts_later way b c bs cs (length u) d w)
      | inr r ↦ inr (never_cons b c bs cs d r.0, (r.1.0, omega (arith, r.1.1), r.1.2))
    ]
sent_out way (b ∷ bs) (c ∷ cs) P Q (_ ∷ u) l m = absurd (m.first.1)

pub goes_sent : (way : Way) (bs cs : List Bit) (P Q : Language) (k : ℕ) → length bs ≡ length cs → Goes way (SentThen bs P) (SentThen cs Q) k → PartsAt way bs cs k ⊎ (NeverSplit bs cs × After (length bs) (Goes way P Q) k)
goes_sent way bs cs P Q k l g =
    elim (sent_out way bs cs P Q g.wire l (meet_of way (SentThen bs P) (SentThen cs Q) k g)) [
      | inl w ↦ inl (subst (PartsAt way bs cs) g.slot w)
      | inr r ↦ inr (r.0, (length r.1.0, sym g.slot ∙ r.1.1, goes_of way P Q r.1.0 (length r.1.0) refl r.1.2))
    ]

wins_here : (bs cs : List Bit) (P Q : Language) (k : ℕ) → WinsAt bs cs k → HasText P → HasText Q → Goes first_wins (SentThen bs P) (SentThen cs Q) k
wins_here [] cs P Q k w p q = let e = w.zero.1 in absurd cc
wins_here (b ∷ bs) [] P Q k w p q = let e = w.one.1 in absurd cc
wins_here (b ∷ bs) (c ∷ cs) P Q zero w p q =
    let e : w.zero.0 ≡ b = let h = w.zero.1 in cc in
    let f : w.one.0 ≡ c = let h = w.one.1 in cc in
    let x = some_sent bs P p in
    let y = some_sent cs Q q in
    record {
      wire = [];
      slot = refl;
      first = (x.0, (subst (λ (a : Bit). Allows a false) e w.zero.2, x.1));
      second = (y.0, (subst (λ (a : Bit). Allows a true) f w.one.2, y.1));
    }
wins_here (b ∷ bs) (c ∷ cs) P Q (suc k) w p q =
    let s = common b c (λ d. w.before 0 (omega arith) (differs_split b c bs cs d)) in
    let r = wins_here bs cs P Q k (record { zero = w.zero; one = w.one; before = λ j lt h. w.before (suc j) (omega arith) h }) p q in
    record {
      wire = Sent s.0 ∷ r.wire;
      slot = ap suc r.slot;
      first = (r.first.0, (s.1, r.first.1));
      second = (r.second.0, (s.2, r.second.1));
    }

pub parts_here : (way : Way) (bs cs : List Bit) (P Q : Language) (k : ℕ) → PartsAt way bs cs k → HasText P → HasText Q → Goes way (SentThen bs P) (SentThen cs Q) k
parts_here both_end bs cs P Q k w p q = absurd w
parts_here first_wins bs cs P Q k w p q = wins_here bs cs P Q k w p q
parts_here second_wins bs cs P Q k w p q = turned first_wins (SentThen cs Q) (SentThen bs P) k (wins_here cs bs Q P k w q p)

pub goes_after_sent : (way : Way) (bs cs : List Bit) (P Q : Language) (j : ℕ) → length bs ≡ length cs → NeverSplit bs cs → Goes way P Q j → Goes way (SentThen bs P) (SentThen cs Q) (j + length bs)
goes_after_sent way [] [] P Q j l n g = goes_of way P Q g.wire (j + 0) (omega (arith, g.slot)) (meet_of way P Q j g)
goes_after_sent way [] (c ∷ cs) P Q j l n g = absurd (omega arith)
goes_after_sent way (b ∷ bs) [] P Q j l n g = absurd (omega arith)
goes_after_sent way (b ∷ bs) (c ∷ cs) P Q j l n g =
    let s = common b c (λ d. n 0 (differs_split b c bs cs d)) in
    let r = goes_after_sent way bs cs P Q j (omega arith) (λ k h. n (suc k) h) g in
    record {
      wire = Sent s.0 ∷ r.wire;
      slot = omega (arith, r.slot);
      first = (r.first.0, (s.1, r.first.1));
      second = (r.second.0, (s.2, r.second.1));
    }

-- ---- answers

answer_out : (way : Way) (P Q R S : Language) (u : List Item) → Meet way (AnswerThen P R) (AnswerThen Q S) u → (v : List Item) × (length u ≡ length v + 1) × (Meet way P Q v ⊎ Meet way R S v)
answer_out both_end P Q R S [] m = absurd (m.first.1)
answer_out first_wins P Q R S [] m = absurd (m.first.1)
answer_out second_wins P Q R S [] m = absurd (m.first.1)
answer_out way P Q R S (Heard false ∷ u) m = (u, omega arith, inl (record { first = m.first; second = m.second }))
answer_out way P Q R S (Heard true ∷ u) m = (u, omega arith, inr (record { first = m.first; second = m.second }))
answer_out way P Q R S (_ ∷ u) m = absurd (m.first.1)

pub goes_answer : (way : Way) (P Q R S : Language) (k : ℕ) → Goes way (AnswerThen P R) (AnswerThen Q S) k → After 1 (Goes way P Q) k ⊎ After 1 (Goes way R S) k
goes_answer way P Q R S k g =
    let r = answer_out way P Q R S g.wire (meet_of way (AnswerThen P R) (AnswerThen Q S) k g) in
    elim r.2 [
      | inl m ↦ inl (length r.0, sym g.slot ∙ r.1, goes_of way P Q r.0 (length r.0) refl m)
      | inr m ↦ inr (length r.0, sym g.slot ∙ r.1, goes_of way R S r.0 (length r.0) refl m)
    ]

pub goes_after_acked : (way : Way) (P Q R S : Language) (j : ℕ) → Goes way P Q j → Goes way (AnswerThen P R) (AnswerThen Q S) (j + 1)
goes_after_acked way P Q R S j g =
    record { wire = Heard false ∷ g.wire; slot = omega (arith, g.slot); first = g.first; second = g.second }

pub goes_after_refused : (way : Way) (P Q R S : Language) (j : ℕ) → Goes way R S j → Goes way (AnswerThen P R) (AnswerThen Q S) (j + 1)
goes_after_refused way P Q R S j g =
    record { wire = Heard true ∷ g.wire; slot = omega (arith, g.slot); first = g.first; second = g.second }

-- ---- a repeated START

again_out : (way : Way) (P Q : Language) (u : List Item) → Meet way (AgainThen P) (AgainThen Q) u → (v : List Item) × (length u ≡ length v + 1) × Meet way P Q v
again_out both_end P Q [] m = absurd (m.first.1)
again_out first_wins P Q [] m = absurd (m.first.1)
again_out second_wins P Q [] m = absurd (m.first.1)
again_out way P Q (Again ∷ u) m = (u, omega arith, record { first = m.first; second = m.second })
again_out way P Q (_ ∷ u) m = absurd (m.first.1)

pub goes_again : (way : Way) (P Q : Language) (k : ℕ) → Goes way (AgainThen P) (AgainThen Q) k → After 1 (Goes way P Q) k
goes_again way P Q k g =
    let r = again_out way P Q g.wire (meet_of way (AgainThen P) (AgainThen Q) k g) in
    (length r.0, sym g.slot ∙ r.1, goes_of way P Q r.0 (length r.0) refl r.2)

pub goes_after_again : (way : Way) (P Q : Language) (j : ℕ) → Goes way P Q j → Goes way (AgainThen P) (AgainThen Q) (j + 1)
goes_after_again way P Q j g =
    record { wire = Again ∷ g.wire; slot = omega (arith, g.slot); first = g.first; second = g.second }

-- ---- bits that are heard

heard_out : (way : Way) (n : ℕ) (P Q : Language) (u : List Item) → Meet way (HeardThen n P) (HeardThen n Q) u → (v : List Item) × (length u ≡ length v + n) × Meet way P Q v
heard_out way zero P Q u m = (u, omega arith, record { first = m.first; second = m.second })
heard_out both_end (suc n) P Q [] m = absurd (m.first.1)
heard_out first_wins (suc n) P Q [] m = absurd (m.first.1)
heard_out second_wins (suc n) P Q [] m = absurd (m.first.1)
heard_out way (suc n) P Q (Heard b ∷ u) m =
    let r = heard_out way n P Q u (record { first = m.first; second = m.second }) in
    (r.0, omega (arith, r.1), r.2)
heard_out way (suc n) P Q (_ ∷ u) m = absurd (m.first.1)

pub goes_heard : (way : Way) (n : ℕ) (P Q : Language) (k : ℕ) → Goes way (HeardThen n P) (HeardThen n Q) k → After n (Goes way P Q) k
goes_heard way n P Q k g =
    let r = heard_out way n P Q g.wire (meet_of way (HeardThen n P) (HeardThen n Q) k g) in
    (length r.0, sym g.slot ∙ r.1, goes_of way P Q r.0 (length r.0) refl r.2)

pub goes_after_heard : (way : Way) (n : ℕ) (P Q : Language) (j : ℕ) → Goes way P Q j → Goes way (HeardThen n P) (HeardThen n Q) (j + n)
goes_after_heard way zero P Q j g = goes_of way P Q g.wire (j + 0) (omega (arith, g.slot)) (meet_of way P Q j g)
goes_after_heard way (suc n) P Q j g =
    let r = goes_after_heard way n P Q j g in
    record { wire = Heard false ∷ r.wire; slot = omega (arith, r.slot); first = r.first; second = r.second }
