-- The laws of texts, for each part that a text is made of, and then for trees.
use Rattle.std.proofs.Common.{◌≡◌, ℕ, zero, suc, ◌-◌, Bool, true, false, List, [], ◌∷◌, ◌++◌, refl, ap, sym, ◌∙◌, subst, arith}
use Rattle.message_tree.specs.declared.bits.Bit.{Bit}
use Rattle.message_tree.specs.declared.bits.Bit.TheVariants.{Zero, One, Either}
use Rattle.message_tree.specs.declared.counts.Count.{Count}
use Rattle.message_tree.specs.declared.items.Item.{Item}
use Rattle.message_tree.specs.declared.items.Item.TheVariants.{Sent, Heard, Again, Stop, Claim}
use Rattle.message_tree.specs.Patterns.{pattern_bits}
use Rattle.message_tree.specs.Trees.{FrameTree, write, read, PayloadTree, byte, last, TailTree, stop, again}
use Rattle.message_tree.specs.Texts.{Language, Allows, SentThen, HeardThen, AnswerThen, AgainThen, Only, ByteThen, BytesThen, ReadThen, write_header, read_header, FrameText, PayloadText, TailText, InterruptText}
use Rattle.message_tree.specs.Laws.{HasText, is_end, HasNoEnd, EndsWith, HearsBoth, NeverHears, NoneBeginsAnother}

-- the three laws of one part, whose texts end with x
pub record Lawful (x : Item) (P : Language) : Type 0 where
  pub some : HasText P
  pub ends : EndsWith x P
  pub both : HearsBoth P

-- ---- bits that are sent

-- a bit that may be sent
pub allowed : (b : Bit) → (s : Bool) × Allows b s
allowed Zero = (false, refl)
allowed One = (true, refl)
allowed Either = (true, tt)

some_sent : (bs : List Bit) (P : Language) → HasText P → HasText (SentThen bs P)
some_sent [] P h = h
some_sent (b ∷ bs) P h =
    let s = allowed b in
    let r = some_sent bs P h in
    (Sent s.0 ∷ r.0, (s.1, r.1))

ends_sent : (x : Item) (bs : List Bit) (P : Language) → EndsWith x P → EndsWith x (SentThen bs P)
ends_sent x [] P e u h = e u h
ends_sent x (b ∷ bs) P e [] h = absurd h
ends_sent x (b ∷ bs) P e (Sent s ∷ u) h =
    let r = ends_sent x bs P e u h.1 in
    (Sent s ∷ r.0, (refl, r.1), ap (λ (w : List Item). Sent s ∷ w) r.2)
ends_sent x (b ∷ bs) P e (_ ∷ u) h = absurd h

both_sent : (bs : List Bit) (P : Language) → HearsBoth P → HearsBoth (SentThen bs P)
both_sent [] P e u v b c h = e u v b c h
both_sent (x ∷ bs) P e [] v b c h = absurd h
both_sent (x ∷ bs) P e (Sent s ∷ u) v b c h =
    let r = both_sent bs P e u v b c h.1 in
    (r.0, (h.0, r.1))
both_sent (x ∷ bs) P e (_ ∷ u) v b c h = absurd h

lawful_sent : {x : Item} (bs : List Bit) (P : Language) → Lawful x P → Lawful x (SentThen bs P)
lawful_sent {x} bs P l =
    record { some = some_sent bs P l.some; ends = ends_sent x bs P l.ends; both = both_sent bs P l.both }

-- ---- bits that are heard

some_heard : (n : ℕ) (P : Language) → HasText P → HasText (HeardThen n P)
some_heard zero P h = h
some_heard (suc n) P h =
    let r = some_heard n P h in
    (Heard true ∷ r.0, r.1)

ends_heard : (x : Item) (n : ℕ) (P : Language) → EndsWith x P → EndsWith x (HeardThen n P)
ends_heard x zero P e u h = e u h
ends_heard x (suc n) P e [] h = absurd h
ends_heard x (suc n) P e (Heard s ∷ u) h =
    let r = ends_heard x n P e u h in
    (Heard s ∷ r.0, (refl, r.1), ap (λ (w : List Item). Heard s ∷ w) r.2)
ends_heard x (suc n) P e (_ ∷ u) h = absurd h

both_heard : (n : ℕ) (P : Language) → HearsBoth P → HearsBoth (HeardThen n P)
both_heard zero P e u v b c h = e u v b c h
both_heard (suc n) P e [] v b c h = (v, h)
both_heard (suc n) P e (Heard s ∷ u) v b c h = both_heard n P e u v b c h
both_heard (suc n) P e (_ ∷ u) v b c h = absurd h

lawful_heard : {x : Item} (n : ℕ) (P : Language) → Lawful x P → Lawful x (HeardThen n P)
lawful_heard {x} n P l =
    record { some = some_heard n P l.some; ends = ends_heard x n P l.ends; both = both_heard n P l.both }

-- ---- an answer

ends_answer : (x : Item) (P Q : Language) → EndsWith x P → EndsWith x Q → EndsWith x (AnswerThen P Q)
ends_answer x P Q e f [] h = absurd h
ends_answer x P Q e f (Heard false ∷ u) h =
    let r = e u h in
    (Heard false ∷ r.0, (refl, r.1), ap (λ (w : List Item). Heard false ∷ w) r.2)
ends_answer x P Q e f (Heard true ∷ u) h =
    let r = f u h in
    (Heard true ∷ r.0, (refl, r.1), ap (λ (w : List Item). Heard true ∷ w) r.2)
ends_answer x P Q e f (_ ∷ u) h = absurd h

both_answer : (P Q : Language) → HasText P → HasText Q → HearsBoth P → HearsBoth Q → HearsBoth (AnswerThen P Q)
both_answer P Q p q e f [] v b false h = p
both_answer P Q p q e f [] v b true h = q
both_answer P Q p q e f (Heard false ∷ u) v b c h = e u v b c h
both_answer P Q p q e f (Heard true ∷ u) v b c h = f u v b c h
both_answer P Q p q e f (_ ∷ u) v b c h = absurd h

lawful_answer : {x : Item} (P Q : Language) → Lawful x P → Lawful x Q → Lawful x (AnswerThen P Q)
lawful_answer {x} P Q l m =
    record {
      some = (Heard false ∷ l.some.0, l.some.1);
      ends = ends_answer x P Q l.ends m.ends;
      both = both_answer P Q l.some m.some l.both m.both;
    }

-- ---- bytes that are read

lawful_byte : {x : Item} (a : Bit) (P : Language) → Lawful x P → Lawful x (ByteThen a P)
lawful_byte a P l = lawful_heard 8 (SentThen (a ∷ []) P) (lawful_sent (a ∷ []) P l)

lawful_bytes : {x : Item} (n : ℕ) (P : Language) → Lawful x P → Lawful x (BytesThen n P)
lawful_bytes zero P l = l
lawful_bytes (suc n) P l = lawful_byte Zero (BytesThen n P) (lawful_bytes n P l)

lawful_read : {x : Item} (count : Count) (P : Language) → Lawful x P → Lawful x (ReadThen count P)
lawful_read {x} count P l =
    let one : (n : ℕ) → Lawful x (BytesThen n (ByteThen One P)) = λ n. lawful_bytes n (ByteThen One P) (lawful_byte One P l) in
    record {
      some = let r = (one (count.least - 1)).some in (r.0, (count.least - 1, (omega arith, omega arith), r.1));
      ends = λ u h. (one h.0).ends u h.2;
      both = λ u v b c h. let r = (one h.0).both u v b c h.2 in (r.0, (h.0, h.1, r.1));
    }

-- ---- the ends

-- what ends with x after nothing that is heard has no answer in it
no_heard_before : (x : Item) → ((b : Bool) → Heard b ≡ x → ⊥) → (u v : List Item) (b : Bool) → u ++ Heard b ∷ v ≡ x ∷ [] → ⊥
no_heard_before x n [] v b e = n b cc
no_heard_before x n (y ∷ []) v b e = cc
no_heard_before x n (y ∷ z ∷ u) v b e = cc

lawful_only : (x : Item) → ((b : Bool) → Heard b ≡ x → ⊥) → Lawful x (Only x)
lawful_only x n =
    record {
      some = (x ∷ [], refl);
      ends = λ u h. ([], tt, h);
      both = λ u v b c h. absurd (no_heard_before x n u v b h);
    }

-- ---- a repeated START

ends_again : (x : Item) (P : Language) → EndsWith x P → EndsWith x (AgainThen P)
ends_again x P e [] h = absurd h
ends_again x P e (Again ∷ u) h =
    let r = e u h in
    (Again ∷ r.0, (refl, r.1), ap (λ (w : List Item). Again ∷ w) r.2)
ends_again x P e (_ ∷ u) h = absurd h

both_again : (P : Language) → HearsBoth P → HearsBoth (AgainThen P)
both_again P e [] v b c h = absurd h
both_again P e (Again ∷ u) v b c h = e u v b c h
both_again P e (_ ∷ u) v b c h = absurd h

lawful_again : {x : Item} (P : Language) → Lawful x P → Lawful x (AgainThen P)
lawful_again {x} P l =
    record { some = (Again ∷ l.some.0, l.some.1); ends = ends_again x P l.ends; both = both_again P l.both }

-- ---- trees

mutual
  pub lawful_frame : (f : FrameTree) → Lawful Stop (FrameText f)
  lawful_frame (write address acked refused) =
      lawful_sent (write_header address) (AnswerThen (PayloadText acked) (TailText refused)) (lawful_answer (PayloadText acked) (TailText refused) (lawful_payload acked) (lawful_tail refused))
  lawful_frame (read address count after refused) =
      lawful_sent (read_header address) (AnswerThen (ReadThen count (TailText after)) (TailText refused)) (lawful_answer (ReadThen count (TailText after)) (TailText refused) (lawful_read count (TailText after) (lawful_tail after)) (lawful_tail refused))

  pub lawful_payload : (p : PayloadTree) → Lawful Stop (PayloadText p)
  lawful_payload (byte bits acked refused) =
      lawful_sent (pattern_bits bits) (AnswerThen (PayloadText acked) (TailText refused)) (lawful_answer (PayloadText acked) (TailText refused) (lawful_payload acked) (lawful_tail refused))
  lawful_payload (last tail) = lawful_tail tail

  pub lawful_tail : (t : TailTree) → Lawful Stop (TailText t)
  lawful_tail stop = lawful_only Stop (λ b e. cc)
  lawful_tail (again frame) = lawful_again (FrameText frame) (lawful_frame frame)

pub lawful_interrupt : (a : List Bit) → Lawful Claim (InterruptText a)
lawful_interrupt a = lawful_sent (a ++ One ∷ []) (Only Claim) (lawful_only Claim (λ b e. cc))

-- ---- no text is a proper beginning of another

-- an end stands in no list that goes on
pub end_is_last : (v w more : List Item) (x y : Item) → is_end x ≡ true → HasNoEnd w → (v ++ x ∷ []) ++ more ≡ w ++ y ∷ [] → more ≡ []
end_is_last [] [] more x y i g e = cc
end_is_last [] (z ∷ w) more x y i g e = absurd (let h : x ≡ z = cc in let k : is_end z ≡ true = subst (λ (q : Item). is_end q ≡ true) h i in cc (g.0))
end_is_last (z ∷ []) [] more x y i g e = cc
end_is_last (z ∷ z' ∷ v) [] more x y i g e = cc
end_is_last (z ∷ v) (z' ∷ w) more x y i g e =
    end_is_last v w more x y i g.1 cc

pub whole : (x : Item) (P : Language) → is_end x ≡ true → EndsWith x P → NoneBeginsAnother P
whole x P i e u more p q =
    let a = e u p in
    let b = e (u ++ more) q in
    end_is_last a.0 b.0 more x x i b.1 (sym (ap (λ (w : List Item). w ++ more) a.2) ∙ b.2)

-- ---- an interrupt hears nothing

never_hears_sent : (bs : List Bit) (P : Language) → NeverHears P → NeverHears (SentThen bs P)
never_hears_sent [] P n u v b h = n u v b h
never_hears_sent (x ∷ bs) P n [] v b h = absurd h
never_hears_sent (x ∷ bs) P n (Sent s ∷ u) v b h = never_hears_sent bs P n u v b h.1
never_hears_sent (x ∷ bs) P n (_ ∷ u) v b h = absurd h

pub interrupt_hears_nothing : (a : List Bit) → NeverHears (InterruptText a)
interrupt_hears_nothing a = never_hears_sent (a ++ One ∷ []) (Only Claim) (λ u v b h. no_heard_before Claim (λ c e. cc) u v b h)
