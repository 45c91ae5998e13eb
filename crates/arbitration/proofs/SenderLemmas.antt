-- The outcomes of two participants, in the words of the contract.
use Rattle.std.proofs.Common.{◌≡◌, ℕ, ◌<◌, length, Option, Some, List, [], ◌∷◌, ◌++◌, append_assoc, refl, ap, sym, ◌∙◌, subst, inl, inr}
use Rattle.message_tree.specs.declared.bits.Address.{Address}
use Rattle.message_tree.specs.declared.bits.Bit.TheVariants.{One}
use Rattle.message_tree.specs.declared.items.Item.{Item}
use Rattle.message_tree.specs.declared.items.Item.TheVariants.{Stop, Claim}
use Rattle.message_tree.specs.Laws.{EndsWith}
use Rattle.message_tree.specs.Patterns.{address_bits}
use Rattle.message_tree.specs.Texts.{Language, Sender, message, interrupt, SenderText, FrameText}
use Rattle.message_tree.specs.Trees.{FrameTree}
use Rattle.message_tree.proofs.TextLaws.{lawful_frame, lawful_interrupt, end_is_last}
use Rattle.plan_core.specs.Contents.{Contents}
use Rattle.plan_core.specs.Participants.{TextOf, sender_at}
use Rattle.arbitration.specs.declared.frames.Entry.{Entry}
use Rattle.arbitration.specs.declared.senders.Sent.{Sent}
use Rattle.arbitration.specs.declared.senders.Sent.TheVariants.{Message, Interrupt}
use Rattle.arbitration.specs.declared.spans.Outcomes.{Outcomes}
use Rattle.arbitration.specs.Arbitration.{GoesOn, EndTogether, Wins}
use Rattle.arbitration.specs.Frames.{Names, Grows, trees_of}
use Rattle.arbitration.specs.Plans.{AllSend}
use Rattle.arbitration.specs.Senders.{IsSent}
use Rattle.arbitration.specs.Spans.{IsSpan}
use Rattle.arbitration.specs.Ways.{Way, both_end, first_wins, second_wins, Goes, AreOutcomes, ArePartings, header_of}
use Rattle.arbitration.proofs.FrameLemmas.{named_within, name_grown, pushed_at}
use Rattle.arbitration.proofs.Meetings.{other, turned}
use Rattle.arbitration.proofs.Nodes.{length_of_header, length_of_first, AfterHeader, headers_part, after_claim}
use Rattle.arbitration.proofs.SpanLemmas.{span_same}

-- a STOP is the last item
stop_is_last : (x : Item) (P : Language) (u rest : List Item) → EndsWith x P → P (u ++ Stop ∷ rest) → P (u ++ Stop ∷ [])
stop_is_last x P u rest e h =
    let t = e (u ++ Stop ∷ rest) h in
    let none : rest ≡ [] = end_is_last u t.0 rest Stop x refl t.1 (append_assoc u (Stop ∷ []) rest ∙ t.2) in
    subst (λ (v : List Item). P (u ++ Stop ∷ v)) none h

pub stops : (s : Sender) (u : List Item) → GoesOn (SenderText s) u Stop → SenderText s (u ++ Stop ∷ [])
stops (message f) u h = stop_is_last Stop (SenderText (message f)) u h.0 (lawful_frame f).ends h.1
stops (interrupt a) u h = stop_is_last Claim (SenderText (interrupt a)) u h.0 (lawful_interrupt a).ends h.1

-- of two participants who send this
module _ (p q : Option Sender) (s t : Sender) (e : p ≡ Some s) (f : q ≡ Some t) (o : Outcomes) (h : AreOutcomes (SenderText s) (SenderText t) o) where
  pub both_span : IsSpan (EndTogether (TextOf p) (TextOf q)) o.both
  both_span =
      rw (e, f) (span_same (Goes both_end (SenderText s) (SenderText t)) (EndTogether (SenderText s) (SenderText t)) o.both (λ k g. record { wire = g.wire; slot = g.slot; first = stops s g.wire g.first; second = stops t g.wire g.second }) (λ k g. record { wire = g.wire; slot = g.slot; first = ([], g.first); second = ([], g.second) }) (h both_end))

  pub first_span : IsSpan (Wins (TextOf p) (TextOf q)) o.first
  first_span =
      rw (e, f) (span_same (Goes first_wins (SenderText s) (SenderText t)) (Wins (SenderText s) (SenderText t)) o.first (λ k g. record { wire = g.wire; slot = g.slot; winner = g.first; loser = g.second }) (λ k g. record { wire = g.wire; slot = g.slot; first = g.winner; second = g.loser }) (h first_wins))

  pub second_span : IsSpan (Wins (TextOf q) (TextOf p)) o.second
  second_span =
      rw (e, f) (span_same (Goes second_wins (SenderText s) (SenderText t)) (Wins (SenderText t) (SenderText s)) o.second (λ k g. record { wire = g.wire; slot = g.slot; winner = g.second; loser = g.first }) (λ k g. record { wire = g.wire; slot = g.slot; first = g.loser; second = g.winner }) (h second_wins))

header_length : (known : List FrameTree) (v : Sent) (s : Sender) → IsSent known v s → length (header_of s) ≡ 8
header_length known v (message f) i = length_of_first f
header_length known (Message n) (interrupt bits) i = absurd i
header_length known (Interrupt a) (interrupt bits) i = rw i (length_of_header a One)

one_claims : (known : List FrameTree) (v w : Sent) (s t : Sender) → IsSent known v s → IsSent known w t → ((m n : ℕ) → v ≡ Message m → w ≡ Message n → ⊥) → (way : Way) (k : ℕ) → Goes way (AfterHeader s) (AfterHeader t) k → ⊥
one_claims known v w (interrupt a) t i j never way k g = after_claim way (AfterHeader t) k g
one_claims known v w (message f) (interrupt b) i j never way k g =
    after_claim (other way) (AfterHeader (message f)) k (turned way (AfterHeader (message f)) (AfterHeader (interrupt b)) k g)
one_claims known (Message m) (Message n) (message f) (message g) i j never way k h = never m n refl refl
one_claims known (Interrupt a) w (message f) (message g) i j never way k h = i
one_claims known v (Interrupt b) (message f) (message g) i j never way k h = j

-- two of whom one interrupts part in the header, or come to nothing
pub interrupted : (known : List FrameTree) (v w : Sent) (s t : Sender) (o : Outcomes) → IsSent known v s → IsSent known w t → ((m n : ℕ) → v ≡ Message m → w ≡ Message n → ⊥) → ArePartings (header_of s) (header_of t) o → AreOutcomes (SenderText s) (SenderText t) o
interrupted known v w s t o i j never h =
    headers_part s t o (header_length known v s i ∙ sym (header_length known w t j)) (λ n. one_claims known v w s t i j never) h

-- both send messages
pub both_messages : (known : List FrameTree) (m n : ℕ) (o : Outcomes) → ((f g : FrameTree) → Names known m f → Names known n g → AreOutcomes (FrameText f) (FrameText g) o) → (s t : Sender) → IsSent known (Message m) s → IsSent known (Message n) t → AreOutcomes (SenderText s) (SenderText t) o
both_messages known m n o h (message f) (message g) i j = h f g i j
both_messages known m n o h (message f) (interrupt b) i j = absurd j
both_messages known m n o h (interrupt a) t i j = absurd i

pub named_sender : (known : List FrameTree) (n : ℕ) (s : Sender) → IsSent known (Message n) s → (f : FrameTree) × Names known n f × (s ≡ message f)
named_sender known n (message f) i = (f, i, refl)
named_sender known n (interrupt a) i = absurd i

pub sent_within : (es : List Entry) (sent : Sent) (n : ℕ) → sent ≡ Message n → (s : Sender) → IsSent (trees_of es) sent s → n < length es
sent_within es sent n e s i =
    let f = named_sender (trees_of es) n s (subst (λ (v : Sent). IsSent (trees_of es) v s) e i) in
    named_within es n f.0 f.1

pub interrupt_header : (known : List FrameTree) (a : Address) (s : Sender) → IsSent known (Interrupt a) s → address_bits a ++ One ∷ [] ≡ header_of s
interrupt_header known a (message f) i = absurd i
interrupt_header known a (interrupt bits) i = rw i refl

-- ---- the participants of a plan

module _ (plan : Contents) (old new : List Entry) (grows : Grows old new) where
  sent_grown : (v : Sent) (s : Sender) → IsSent (trees_of old) v s → IsSent (trees_of new) v s
  sent_grown (Message n) (message f) i = name_grown old new grows n f i
  sent_grown (Message n) (interrupt b) i = absurd i
  sent_grown (Interrupt a) (message f) i = absurd i
  sent_grown (Interrupt a) (interrupt b) i = i

  pub one_more_sent : (xs ys : List Sent) (v : Sent) (s : Sender) → ys ≡ xs ++ v ∷ [] → AllSend plan (trees_of old) xs → sender_at plan (length xs) ≡ Some s → IsSent (trees_of new) v s → AllSend plan (trees_of new) ys
  one_more_sent xs ys v s e all at is p w h =
      elim (pushed_at xs v w p (rw e at h)) [
        | inl before ↦ (let o = all p w before in (o.0, o.1, sent_grown w o.0 o.2))
        | inr here ↦ (s, ap (sender_at plan) here.0 ∙ at, subst (λ (u : Sent). IsSent (trees_of new) u s) (sym here.1) is)
      ]
