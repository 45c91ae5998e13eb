-- Two pairs at one place have the same senders.
use Rattle.std.proofs.Common.{◌≡◌, ℕ, zero, suc, ◌+◌, ◌*◌, ◌/◌, ◌%◌, ◌<◌, Option, Some, List, [], ◌∷◌, length, get_or, slice_get, refl, ap, sym, ◌∙◌, subst, arith}
use Rattle.std.proofs.Math.Nat.{mod-eq_of_lt, mul-add-mod_self_right}
use Rattle.std.proofs.lemmas.Nat.{div-mul-add, mul-add-lt}
use Rattle.plan_core.proofs.ContentsLemmas.{participant_known}
use Rattle.plan_core.proofs.ListLemmas.{some_at, at_get}
use Rattle.plan_core.proofs.PairLaws.{from_pairs}
use Rattle.plan_core.specs.declared.plans.Participant.{Participant}
use Rattle.plan_core.specs.declared.plans.Participant.TheVariants.{Sending, Interrupt}
use Rattle.plan_core.specs.Contents.{Contents}
use Rattle.plan_core.specs.Limits.{IsWithinLimits}
use Rattle.plan_core.specs.Limits as limits
use Rattle.plan_core.specs.Pairs.{pairs_of}
use Rattle.plan_core.specs.Participants.{participants_of, participant_count, sender_at, sender_of, message_sender, interrupt_sender}
use Rattle.plan_core.specs.SenderPlaces.{sender_count, sender_number, number_of, place, place_count}

-- the two of a pair are participants, the lower number first
pub pair_within : (plan : Contents) (i x y : ℕ) → slice_get (pairs_of plan) i ≡ Some (x, y) → (x < y) × (y < participant_count plan)
pair_within plan i x y e =
    let at = at_get (pairs_of plan) i (x, y) e in
    let parts = from_pairs plan x y (i, at.0, at.1) in
    (parts.0, parts.1)

module _ (plan : Contents) (within : IsWithinLimits plan) where
  number_within : (p : Participant) → limits.IsKnown plan p → number_of plan (Some p) < sender_count plan
  number_within (Sending c m) known = omega (arith, known.1)
  number_within (Interrupt k) known = omega (arith, known)

  numbers_decide : (p q : Participant) → limits.IsKnown plan p → limits.IsKnown plan q → number_of plan (Some p) ≡ number_of plan (Some q) → sender_of plan (Some p) ≡ sender_of plan (Some q)
  numbers_decide (Sending c m) (Sending d n) p q e = ap (λ k. message_sender (slice_get plan.messages k)) e
  numbers_decide (Sending c m) (Interrupt k) p q e = absurd (omega (arith, p.1, e))
  numbers_decide (Interrupt k) (Sending d n) p q e = absurd (omega (arith, q.1, e))
  numbers_decide (Interrupt k) (Interrupt l) p q e =
      let same : k ≡ l = omega (arith, e) in ap (λ j. interrupt_sender (slice_get plan.interrupts j)) same

  sender_within : (x : ℕ) → x < participant_count plan → sender_number plan x < sender_count plan
  sender_within x h =
      let p = some_at (participants_of plan) x h in
      subst (λ o. number_of plan o < sender_count plan) (sym p.1) (number_within p.0 (participant_known plan within x p.0 p.1))

  sender_by_number : (x v : ℕ) → x < participant_count plan → v < participant_count plan → sender_number plan x ≡ sender_number plan v → sender_at plan x ≡ sender_at plan v
  unfolding sender_at
  sender_by_number x v h i e =
      let p = some_at (participants_of plan) x h in
      let q = some_at (participants_of plan) v i in
      let same : number_of plan (Some p.0) ≡ number_of plan (Some q.0) = ap (number_of plan) (sym p.1) ∙ (e ∙ ap (number_of plan) q.1) in
      ap (sender_of plan) p.1 ∙ (numbers_decide p.0 q.0 (participant_known plan within x p.0 p.1) (participant_known plan within v q.0 q.1) same ∙ ap (sender_of plan) (sym q.1))

-- ---- places

place_parts : (a b c d n : ℕ) → b < n → d < n → a * n + b ≡ c * n + d → (a ≡ c) × (b ≡ d)
place_parts a b c d n h i e =
    (sym (div-mul-add a n b h) ∙ (ap (λ m. m / n) e ∙ div-mul-add c n d i), sym (mod-eq_of_lt h) ∙ (sym (mul-add-mod_self_right a n b) ∙ (ap (λ m. m % n) e ∙ (mul-add-mod_self_right c n d ∙ mod-eq_of_lt i))))

pub place_in : (a b n : ℕ) → a < n → b < n → a * n + b < n * n
place_in a b n h i = mul-add-lt a n b n h i

module _ (plan : Contents) (within : IsWithinLimits plan) where
  pub place_within : (x y : ℕ) → x < participant_count plan → y < participant_count plan → place plan x y < place_count plan
  unfolding place
  place_within x y h i = place_in (sender_number plan x) (sender_number plan y) (sender_count plan) (sender_within plan within x h) (sender_within plan within y i)

  pub senders_at_place : (i j x y v w : ℕ) → slice_get (pairs_of plan) i ≡ Some (x, y) → slice_get (pairs_of plan) j ≡ Some (v, w) → place plan v w ≡ place plan x y → (x < y) × (v < w) × (sender_at plan x ≡ sender_at plan v) × (sender_at plan y ≡ sender_at plan w)
  unfolding place
  senders_at_place i j x y v w e f same =
      let a = pair_within plan i x y e in
      let b = pair_within plan j v w f in
      let n = participant_count plan in
      let x_in : x < n = omega (arith, a.0, a.1) in
      let v_in : v < n = omega (arith, b.0, b.1) in
      let parts = place_parts (sender_number plan v) (sender_number plan w) (sender_number plan x) (sender_number plan y) (sender_count plan) (sender_within plan within w b.1) (sender_within plan within y a.1) same in
      (a.0, b.0, sender_by_number plan within x v x_in v_in (sym parts.0), sender_by_number plan within y w a.1 b.1 (sym parts.1))
