-- The numbers of what participants send.
use Rattle.std.proofs.Common.{◌≡◌, ℕ, ◌+◌, ◌<◌, Some, List, [], ◌∷◌, ◌++◌, length, get_or, map, take, slice_get, ap, sym, ◌∙◌, arith}
use Rattle.std.specs.Map.{keys_of}
use Rattle.std.proofs.lemmas.List.{get_or-map, map_more}
use Rattle.std.proofs.lemmas.Option.{get_or_from_slice_get, slice_get_within}
use Rattle.certificate.specs.declared.values.Fault.{Fault}
use Rattle.plan_core.specs.declared.plans.Participant.TheVariants.{Sending, Interrupt}
use Rattle.plan_core.specs.Contents.{Contents}
use Rattle.plan_core.specs.Pairs.{pairs_of}
use Rattle.plan_core.specs.Participants.{participants_of, participant_count}
use Rattle.plan_core.proofs.SenderPlaceLemmas.{pair_within}
use Rattle.mending.specs.Numbers.{place_of, number_in, number_at, numbers_at, numbers_in, numbers_of}

module _ (plan other : Contents) (x : ℕ) where
  pub number_of_message : (c m : ℕ) (name : List ℕ) → slice_get (participants_of other) x ≡ Some (Sending c m) → slice_get (keys_of other.messages) m ≡ Some name → place_of name plan.messages ≡ number_at plan other x
  number_of_message c m name e f =
      ap (λ (n : List ℕ). place_of n plan.messages) (sym (get_or_from_slice_get (keys_of other.messages) m name [] f)) ∙
      ap (number_in plan other) (sym (get_or_from_slice_get (participants_of other) x (Sending c m) (Interrupt 0) e))

  pub number_of_interrupt : (k : ℕ) (name : List ℕ) → slice_get (participants_of other) x ≡ Some (Interrupt k) → slice_get (keys_of other.interrupts) k ≡ Some name → length plan.messages + 1 + place_of name plan.interrupts ≡ number_at plan other x
  number_of_interrupt k name e f =
      ap (λ (n : List ℕ). length plan.messages + 1 + place_of n plan.interrupts) (sym (get_or_from_slice_get (keys_of other.interrupts) k name [] f)) ∙
      ap (number_in plan other) (sym (get_or_from_slice_get (participants_of other) x (Interrupt k) (Interrupt 0) e))

number_read : (plan other : Contents) (numbers : List ℕ) (x a : ℕ) → numbers ≡ numbers_in plan other → x < participant_count other → a ≡ get_or numbers x a → a ≡ number_at plan other x
number_read plan other numbers x a these h read =
    read ∙ (ap (λ (ns : List ℕ). get_or ns x a) these ∙ get_or-map (number_in plan other) (participants_of other) x (Interrupt 0) a h)

-- the numbers of one fault more
pub numbers_more : (plan other : Contents) (faults : List (ℕ × Fault)) (numbers : List ℕ) (pairs : List (ℕ × ℕ)) (k p : ℕ) (f : Fault) (x y a b : ℕ) → numbers ≡ numbers_in plan other → pairs ≡ map (numbers_of plan other) (take k faults) → slice_get faults k ≡ Some (p, f) → slice_get (pairs_of other) p ≡ Some (x, y) → a ≡ get_or numbers x a → b ≡ get_or numbers y b → pairs ++ (a, b) ∷ [] ≡ map (numbers_of plan other) (take (k + 1) faults)
numbers_more plan other faults numbers pairs k p f x y a b these so_far stands at first second =
    let within = pair_within other p x y at in
    let two = get_or_from_slice_get (pairs_of other) p (x, y) (0, 0) at in
    let one = get_or_from_slice_get faults k (p, f) (p, f) stands in
    let m = number_read plan other numbers x a these (omega (arith, within.0, within.1)) first in
    let n = number_read plan other numbers y b these within.1 second in
    let own : (a, b) ≡ numbers_of plan other (p, f) = (λ i. (m i, n i)) ∙ ap (numbers_at plan other) (sym two) in
    let all = map_more (numbers_of plan other) faults k (p, f) (slice_get_within faults k (p, f) stands) in
    (λ i. so_far i ++ own i ∷ []) ∙ (ap (λ (it : ℕ × Fault). map (numbers_of plan other) (take k faults) ++ numbers_of plan other it ∷ []) (sym one) ∙ sym all)
