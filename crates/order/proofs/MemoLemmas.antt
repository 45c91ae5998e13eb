-- What is known of two senders is right for all participants with these senders.
use Rattle.std.proofs.Common.{◌≡◌, ℕ, ◌+◌, ◌*◌, ◌/◌, ◌%◌, ◌<◌, Option, Some, None, List, length, replicate, set, slice_get, refl, ap, sym, ◌∙◌, subst, arith, inl, inr}
use Rattle.std.proofs.Math.Nat.{mod-eq_of_lt, mul-add-mod_self_right}
use Rattle.std.proofs.lemmas.Bool.{cases_eq}
use Rattle.std.proofs.lemmas.List.{length-set, length-replicate}
use Rattle.std.proofs.lemmas.Nat.{div-mul-add, mul-add-lt}
use Rattle.arbitration.proofs.SpanLemmas.{span_same}
use Rattle.arbitration.specs.Arbitration.{EndTogether, Wins}
use Rattle.arbitration.specs.Spans.{IsSpan}
use Rattle.arbitration.specs.declared.spans.Outcomes.{Outcomes}
use Rattle.message_tree.specs.Texts.{Sender}
use Rattle.order.specs.Known.{Between, IsMemo}
use Rattle.order.specs.declared.known.Known.{Known}
use Rattle.plan_core.proofs.ContentsLemmas.{participant_known}
use Rattle.plan_core.proofs.ListLemmas.{some_at, get_set_same, get_set_other, get_replicate}
use Rattle.plan_core.proofs.SenderPlaceLemmas.{place_within}
use Rattle.plan_core.specs.declared.plans.Participant.{Participant}
use Rattle.plan_core.specs.declared.plans.Participant.TheVariants.{Sending, Interrupt}
use Rattle.plan_core.specs.Contents.{Contents}
use Rattle.plan_core.specs.Limits.{IsWithinLimits}
use Rattle.plan_core.specs.Limits as limits
use Rattle.plan_core.specs.Participants.{participants_of, participant_count, sender_at, sender_of, message_sender, interrupt_sender, TextOf, Text}
use Rattle.plan_core.specs.SenderPlaces.{sender_count, sender_number, number_of, place, place_count}

-- ---- one place has one first and one second sender

module _ (plan : Contents) (within : IsWithinLimits plan) where
  pub senders_few : sender_count plan < 512
  senders_few = omega (arith, within.messages.count, within.interrupts.count)

  numbers_decide : (p q : Participant) → limits.IsKnown plan p → limits.IsKnown plan q → number_of plan (Some p) ≡ number_of plan (Some q) → sender_of plan (Some p) ≡ sender_of plan (Some q)
  numbers_decide (Sending c m) (Sending d n) p q e = ap (λ k. message_sender (slice_get plan.messages k)) e
  numbers_decide (Sending c m) (Interrupt k) p q e = absurd (omega (arith, p.1, e))
  numbers_decide (Interrupt k) (Sending d n) p q e = absurd (omega (arith, q.1, e))
  numbers_decide (Interrupt k) (Interrupt l) p q e =
      let same : k ≡ l = omega (arith, e) in ap (λ j. interrupt_sender (slice_get plan.interrupts j)) same

  number_within : (p : Participant) → limits.IsKnown plan p → number_of plan (Some p) < sender_count plan
  number_within (Sending c m) known = omega (arith, known.1)
  number_within (Interrupt k) known = omega (arith, known)

  sender_within : (x : ℕ) → x < participant_count plan → sender_number plan x < sender_count plan
  sender_within x h =
      let p = some_at (participants_of plan) x h in
      subst (λ o. number_of plan o < sender_count plan) (sym p.1) (number_within p.0 (participant_known plan within x p.0 p.1))

  sender_by_number : (x v : ℕ) → x < participant_count plan → v < participant_count plan → sender_number plan x ≡ sender_number plan v → sender_at plan x ≡ sender_at plan v
  unfolding sender_at
  sender_by_number x v h i e =
      let p = some_at (participants_of plan) x h in
      let q = some_at (participants_of plan) v i in
      let same : number_of plan (Some p.0) ≡ number_of plan (Some q.0) = ap (number_of plan) (sym p.1) ∙ (e ∙ ap (number_of plan) q.1) in
      ap (sender_of plan) p.1 ∙ (numbers_decide p.0 q.0 (participant_known plan within x p.0 p.1) (participant_known plan within v q.0 q.1) same ∙ ap (sender_of plan) (sym q.1))

module _ (plan : Contents) where
  pub at_place : (a b n x y : ℕ) → a ≡ sender_number plan x → b ≡ sender_number plan y → n ≡ sender_count plan → a * n + b ≡ place plan x y
  unfolding place
  at_place a b n x y ea eb en =
      ap (λ v. v * n + b) ea ∙ (ap (λ v. sender_number plan x * v + b) en ∙ ap (λ v. sender_number plan x * sender_count plan + v) eb)

place_parts : (a b c d n : ℕ) → b < n → d < n → a * n + b ≡ c * n + d → (a ≡ c) × (b ≡ d)
place_parts a b c d n h i e =
    (sym (div-mul-add a n b h) ∙ (ap (λ m. m / n) e ∙ div-mul-add c n d i), sym (mod-eq_of_lt h) ∙ (sym (mul-add-mod_self_right a n b) ∙ (ap (λ m. m % n) e ∙ (mul-add-mod_self_right c n d ∙ mod-eq_of_lt i))))

module _ (plan : Contents) (within : IsWithinLimits plan) where
  same_senders : (x y v w : ℕ) → x < participant_count plan → y < participant_count plan → v < participant_count plan → w < participant_count plan → place plan x y ≡ place plan v w → (sender_at plan x ≡ sender_at plan v) × (sender_at plan y ≡ sender_at plan w)
  unfolding place
  same_senders x y v w hx hy hv hw same =
      let parts = place_parts (sender_number plan x) (sender_number plan y) (sender_number plan v) (sender_number plan w) (sender_count plan) (sender_within plan within y hy) (sender_within plan within w hw) same in
      (sender_by_number plan within x v hx hv parts.0, sender_by_number plan within y w hy hw parts.1)

  between_same : (x y v w : ℕ) → x < participant_count plan → y < participant_count plan → v < participant_count plan → w < participant_count plan → place plan x y ≡ place plan v w → (o : Outcomes) → Between (Text plan x) (Text plan y) o → Between (Text plan v) (Text plan w) o
  between_same x y v w hx hy hv hw same o h =
      let s = same_senders x y v w hx hy hv hw same in
      subst (λ (t : Option Sender). Between (TextOf (sender_at plan v)) (TextOf t) o) s.1
      (subst (λ (t : Option Sender). Between (TextOf t) (TextOf (sender_at plan y)) o) s.0 h)

  -- ---- what is kept

  pub place_inside : (known : Known) (x y : ℕ) → IsMemo plan known → x < participant_count plan → y < participant_count plan → place plan x y < length known.found.items
  place_inside known x y memo hx hy = omega (arith, memo.sized, place_within plan within x y hx hy)

  pub nothing_known : (known : Known) → known.found.items ≡ replicate (place_count plan) None → known.senders ≡ sender_count plan → IsMemo plan known
  nothing_known known all senders = record {
    senders = senders;
    sized = ap length all ∙ length-replicate (place_count plan) None;
    right = λ x y o hx hy at.
        let got : slice_get (replicate (place_count plan) None) (place plan x y) ≡ Some (Some o) = ap (λ (os : List (Option Outcomes)). slice_get os (place plan x y)) (sym all) ∙ at in
        let none : None ≡ Some o = get_replicate (place_count plan) (place plan x y) None (Some o) got in
        absurd cc;
  }

  pub memo_more : (known next : Known) (x y : ℕ) (o : Outcomes) → IsMemo plan known → x < participant_count plan → y < participant_count plan → Between (Text plan x) (Text plan y) o → next.senders ≡ known.senders → next.found.items ≡ set known.found.items (place plan x y) (Some o) → IsMemo plan next
  memo_more known next x y o memo hx hy here senders items = record {
    senders = senders ∙ memo.senders;
    sized = ap length items ∙ (length-set known.found.items (place plan x y) (Some o) ∙ memo.sized);
    right = λ v w q hv hw at.
        let got : slice_get (set known.found.items (place plan x y) (Some o)) (place plan v w) ≡ Some (Some q) = ap (λ (os : List (Option Outcomes)). slice_get os (place plan v w)) (sym items) ∙ at in
        elim (cases_eq (place plan v w) (place plan x y)) [
          | inl same ↦
              let inside = place_inside known x y memo hx hy in
              let put : slice_get (set known.found.items (place plan x y) (Some o)) (place plan v w) ≡ Some (Some o) = ap (slice_get (set known.found.items (place plan x y) (Some o))) same ∙ get_set_same known.found.items (place plan x y) (Some o) inside in
              let one : o ≡ q = cc in
              subst (λ (r : Outcomes). Between (Text plan v) (Text plan w) r) one (between_same x y v w hx hy hv hw (sym same) o here)
          | inr other ↦ memo.right v w q hv hw (sym (get_set_other known.found.items (place plan x y) (place plan v w) (Some o) other) ∙ got)
        ];
  }

-- the same, the second named first
pub between_exchanged : (plan : Contents) (x y : ℕ) (o q : Outcomes) → Between (Text plan y) (Text plan x) o → q.both ≡ o.both → q.first ≡ o.second → q.second ≡ o.first → Between (Text plan x) (Text plan y) q
between_exchanged plan x y o q h both first second = record {
  both = subst (IsSpan (EndTogether (Text plan x) (Text plan y))) (sym both)
      (span_same (EndTogether (Text plan y) (Text plan x)) (EndTogether (Text plan x) (Text plan y)) o.both
      (λ k r. record { wire = r.wire; slot = r.slot; first = r.second; second = r.first })
      (λ k r. record { wire = r.wire; slot = r.slot; first = r.second; second = r.first })
      h.both);
  first = subst (IsSpan (Wins (Text plan x) (Text plan y))) (sym first) h.second;
  second = subst (IsSpan (Wins (Text plan y) (Text plan x))) (sym second) h.first;
}
