-- What the model needs to know of texts: that there is one, how it ends, that either answer may come, and its length.
use Rattle.std.proofs.Common.{◌≡◌, ℕ, zero, suc, ◌+◌, ◌<◌, ◌≤◌, true, Option, Some, None, List, [], ◌∷◌, ◌++◌, length, length-append, map, slice_get, refl, ap, sym, ◌∙◌, subst, append-nil, arith, inl, inr, ◌⊎◌}
use Rattle.std.specs.List.{range_with_len, All, AllByRecursion}
use Rattle.std.proofs.lemmas.List.Elements.{recursion_from_All, All-nil, All-cons, All-append, All-map, All-weaker}
use Rattle.message_tree.specs.declared.items.Item.{Item}
use Rattle.message_tree.specs.declared.items.Item.TheVariants.{Stop, Claim}
use Rattle.message_tree.specs.Laws.{HasText, is_end, HasNoEnd, HearsBoth}
use Rattle.message_tree.specs.Sizes.{frame_bytes}
use Rattle.message_tree.specs.Texts.{Language, Sender, message, interrupt}
use Rattle.message_tree.specs.Trees.{FrameTree}
use Rattle.message_tree.proofs.TextLaws.{lawful_frame, lawful_interrupt, end_is_last}
use Rattle.message_tree.proofs.TextLengths.{longest_frame, longest_interrupt, frame_slots_le}
use Rattle.plan_core.specs.declared.plans.Participant.{Participant}
use Rattle.plan_core.specs.declared.plans.Participant.TheVariants.{Sending, Interrupt}
use Rattle.plan_core.specs.Contents.{Contents}
use Rattle.plan_core.specs.Participants.{Text, TextOf, sender_at, sender_of, message_sender, interrupt_sender, participants_of, participant_count, sendings_from, interrupt_bits}
use Rattle.plan_core.specs.Rounds.{Follows}
use Rattle.plan_core.specs.Runs.{HasEnded}
use Rattle.plan_core.specs.Laws.{SendsItsMessages, HasShortMessages}

-- the last item of u is the first that ends a transmission
pub record Ends (u : List Item) : Type 0 where
  pub before : List Item
  pub end : Item
  pub goes_on : HasNoEnd before
  pub is_end : is_end end ≡ true
  pub whole : u ≡ before ++ end ∷ []

-- what each list that passes is like
pub record Fair (P : Language) : Type 0 where
  pub ends : (u : List Item) → P u → Ends u
  pub both : HearsBoth P

fair_sender : (s : Option Sender) → Fair (TextOf s)
fair_sender None = record { ends = λ u h. absurd h; both = λ u v b c h. absurd h }
fair_sender (Some (message f)) =
    record {
      ends = λ u h. let r = (lawful_frame f).ends u h in record { before = r.0; end = Stop; goes_on = r.1; is_end = refl; whole = r.2 };
      both = (lawful_frame f).both;
    }
fair_sender (Some (interrupt a)) =
    record {
      ends = λ u h. let r = (lawful_interrupt a).ends u h in record { before = r.0; end = Claim; goes_on = r.1; is_end = refl; whole = r.2 };
      both = (lawful_interrupt a).both;
    }

pub fair_text : (plan : Contents) (p : ℕ) → Fair (Text plan p)
fair_text plan p = fair_sender (sender_at plan p)

-- the two ends are a STOP and a claim
pub end_cases : (x : Item) → is_end x ≡ true → (x ≡ Stop) ⊎ (x ≡ Claim)
end_cases Stop h = inl refl
end_cases Claim h = inr refl
end_cases _ h = cc

-- a text stops where it has ended
pub nothing_after : (plan : Contents) (p : ℕ) (v rest : List Item) (x : Item) → is_end x ≡ true → Text plan p ((v ++ x ∷ []) ++ rest) → rest ≡ []
nothing_after plan p v rest x i t =
    let e = (fair_text plan p).ends ((v ++ x ∷ []) ++ rest) t in
    end_is_last v e.before rest x e.end i e.goes_on e.whole

-- ---- each participant has a text

some_message : (ms : List (List ℕ × FrameTree)) (k : ℕ) → k < length ms → HasText (TextOf (message_sender (slice_get ms k)))
some_message [] k h = absurd (omega arith)
some_message (m ∷ ms) zero h = (lawful_frame m.1).some
some_message (m ∷ ms) (suc k) h = some_message ms k (omega arith)

some_header : (is : List (List ℕ × ℕ)) (k : ℕ) → k < length is → HasText (TextOf (interrupt_sender (slice_get is k)))
some_header [] k h = absurd (omega arith)
some_header (i ∷ is) zero h = (lawful_interrupt (interrupt_bits i.1)).some
some_header (i ∷ is) (suc k) h = some_header is k (omega arith)

HasItsText : Contents → Participant → Type 0
HasItsText plan q = HasText (TextOf (sender_of plan (Some q)))

module _ (plan : Contents) where
  sendings_have_texts : (c : ℕ) (ks : List (List ℕ × List ℕ)) → AllByRecursion (λ k. All (λ m. m < length plan.messages) k.1) ks → All (HasItsText plan) (sendings_from c ks)
  unfolding HasItsText
  sendings_have_texts c [] h = All-nil (HasItsText plan)
  sendings_have_texts c (k ∷ ks) h =
      All-append (HasItsText plan) (map (Sending c) k.1) (sendings_from (c + 1) ks)
      (All-map (HasItsText plan) (Sending c) k.1 (All-weaker (λ m. m < length plan.messages) (λ m. HasItsText plan (Sending c m)) (λ m l. some_message plan.messages m l) k.1 h.0))
      (sendings_have_texts (c + 1) ks h.1)

  interrupts_have_texts : (a n : ℕ) → a + n ≤ length plan.interrupts → All (HasItsText plan) (map Interrupt (range_with_len a n))
  unfolding HasItsText
  interrupts_have_texts a zero h = All-nil (HasItsText plan)
  interrupts_have_texts a (suc n) h =
      All-cons (HasItsText plan) (Interrupt a) (map Interrupt (range_with_len (a + 1) n)) (some_header plan.interrupts a (omega arith)) (interrupts_have_texts (a + 1) n (omega arith))

  text_at : (ps : List Participant) (p : ℕ) → AllByRecursion (HasItsText plan) ps → p < length ps → HasText (TextOf (sender_of plan (slice_get ps p)))
  unfolding HasItsText
  text_at [] p h l = absurd (omega arith)
  text_at (q ∷ ps) zero h l = h.0
  text_at (q ∷ ps) (suc p) h l = text_at ps p h.1 (omega arith)

  pub some_text : SendsItsMessages plan → (p : ℕ) → p < participant_count plan → HasText (Text plan p)
  unfolding sender_at HasItsText
  some_text n p h =
      let sendings = sendings_have_texts 0 plan.controllers (recursion_from_All (λ k. All (λ m. m < length plan.messages) k.1) plan.controllers n) in
      let all = All-append (HasItsText plan) (sendings_from 0 plan.controllers) (map Interrupt (range_with_len 0 (length plan.interrupts))) sendings (interrupts_have_texts 0 (length plan.interrupts) (omega arith)) in
      text_at (participants_of plan) p (recursion_from_All (HasItsText plan) (participants_of plan) all) h

-- ---- no text is longer than 2,560 slots

bounded_message : (ms : List (List ℕ × FrameTree)) (k : ℕ) (u : List Item) → AllByRecursion (λ m. frame_bytes m.1 ≤ 256) ms → TextOf (message_sender (slice_get ms k)) u → length u ≤ 2560
bounded_message [] k u h t = absurd t
bounded_message (m ∷ ms) zero u h t = omega (arith, h.0, (longest_frame m.1).bound u t, frame_slots_le m.1)
bounded_message (m ∷ ms) (suc k) u h t = bounded_message ms k u h.1 t

bounded_header : (is : List (List ℕ × ℕ)) (k : ℕ) (u : List Item) → TextOf (interrupt_sender (slice_get is k)) u → length u ≤ 2560
bounded_header [] k u t = absurd t
bounded_header (i ∷ is) zero u t = omega (arith, (longest_interrupt (interrupt_bits i.1)).bound u t)
bounded_header (i ∷ is) (suc k) u t = bounded_header is k u t

bounded_participant : (plan : Contents) (p : Option Participant) (u : List Item) → HasShortMessages plan → TextOf (sender_of plan p) u → length u ≤ 2560
bounded_participant plan None u h t = absurd t
bounded_participant plan (Some (Sending c m)) u h t = bounded_message plan.messages m u (recursion_from_All (λ m. frame_bytes m.1 ≤ 256) plan.messages h) t
bounded_participant plan (Some (Interrupt k)) u h t = bounded_header plan.interrupts k u t

pub bounded_text : (plan : Contents) (p : ℕ) (u : List Item) → HasShortMessages plan → Text plan p u → length u ≤ 2560
unfolding sender_at
bounded_text plan p u h t = bounded_participant plan (slice_get (participants_of plan) p) u h t

-- what has ended is a whole text of each who follows it
pub whole_at_end : (plan : Contents) (p : ℕ) (u rest : List Item) → HasEnded u → Text plan p (u ++ rest) → Text plan p u
whole_at_end plan p u rest (v, inl e) t =
    let none : rest ≡ [] = nothing_after plan p v rest Stop refl (subst (λ (w : List Item). Text plan p (w ++ rest)) e t) in
    subst (Text plan p) (ap (λ (w : List Item). u ++ w) none ∙ append-nil u) t
whole_at_end plan p u rest (v, inr e) t =
    let none : rest ≡ [] = nothing_after plan p v rest Claim refl (subst (λ (w : List Item). Text plan p (w ++ rest)) e t) in
    subst (Text plan p) (ap (λ (w : List Item). u ++ w) none ∙ append-nil u) t

-- who follows a wire bounds its length
pub length_bound : (plan : Contents) (p : ℕ) (u : List Item) → HasShortMessages plan → (u ≡ []) ⊎ Follows plan p u → length u ≤ 2560
length_bound plan p u h (inl e) = rw e (omega arith)
length_bound plan p u h (inr f) = omega (arith, bounded_text plan p (u ++ f.0) h f.1, length-append u f.0)

nil_has_not_ended : (v : List Item) (x : Item) → [] ≡ v ++ x ∷ [] → ⊥
nil_has_not_ended [] x e = cc
nil_has_not_ended (y ∷ v) x e = cc

-- who follows a wire that has ended stands whole on it
pub end_bound : (plan : Contents) (p : ℕ) (u : List Item) → HasEnded u → (u ≡ []) ⊎ Follows plan p u → Text plan p u
end_bound plan p u (v, inl e) (inl n) = absurd (nil_has_not_ended v Stop (sym n ∙ e))
end_bound plan p u (v, inr e) (inl n) = absurd (nil_has_not_ended v Claim (sym n ∙ e))
end_bound plan p u e (inr f) = whole_at_end plan p u f.0 e f.1
