-- How labels are made and taken apart.
use Rattle.std.proofs.Common.{◌≡◌, ◌≢◌, ℕ, ◌+◌, Bool, true, false, List, [], ◌∷◌, ◌++◌, length, take, drop, Option, Some, None, slice_get, refl, sym, ◌∙◌, ap, true≢false}
use Rattle.std.specs.Borrow.{Bor}
use Rattle.std.specs.Map.{keys_of}
use Rattle.std.specs.Option.{MatchOption}
use Rattle.std.specs.Str.{bytes_eq}
use Rattle.std.proofs.lemmas.List.{take_at, take-append-drop, append_cancel_left}
use Rattle.std.proofs.lemmas.Option.{get_or_from_slice_get}
use Rattle.plan_core.specs.Contents.{Contents}
use Rattle.plan_core.specs.Labels.{label_of, participant_label}
use Rattle.plan_core.specs.Participants.{participants_of}
use Rattle.plan_core.specs.declared.plans.Participant.TheVariants.{Sending, Interrupt}
use Rattle.plan_core.proofs.BuildingLemmas.{bytes_eq-same, same-bytes_eq}

-- what stands after a front, as `strip_prefix` finds it
pub front_cases : (r : Option (Bor (List ℕ))) (front bytes : List ℕ) → MatchOption r (bytes_eq (take (length front) bytes) front ≡ false) (λ x. (bytes_eq (take (length front) bytes) front ≡ true) × (x.now ≡ drop (length front) bytes) × (length x.now + length front ≡ length bytes)) → MatchOption r ((rest : List ℕ) → front ++ rest ≢ bytes) (λ x. front ++ x.now ≡ bytes)
front_cases None front bytes differs = λ rest same. true≢false (sym (bytes_eq-same (take (length front) bytes) front (ap (take (length front)) (sym same) ∙ take_at front rest (length front) refl)) ∙ differs)
front_cases (Some x) front bytes found =
    ap (λ xs. xs ++ x.now) (sym (same-bytes_eq (take (length front) bytes) front found.0)) ∙ ap (λ xs. take (length front) bytes ++ xs) found.1 ∙ take-append-drop (length front) bytes

-- a label that begins with the controller's name and a slash
pub after_slash : (controller label rest slash end message : List ℕ) (b : Bool) → controller ++ rest ≡ label → slash ≡ 47 ∷ [] → slash ++ end ≡ rest → b ≡ bytes_eq end message → (b ≡ true → controller ++ 47 ∷ message ≡ label) × (controller ++ 47 ∷ message ≡ label → b ≡ true)
after_slash controller label rest slash end message b first is second test =
    let whole : 47 ∷ end ≡ rest = ap (λ s. s ++ end) (sym is) ∙ second in (
      (λ yes. ap (λ xs. controller ++ 47 ∷ xs) (sym (same-bytes_eq end message (sym test ∙ yes))) ∙ ap (λ xs. controller ++ xs) whole ∙ first),
      (λ same.
          let tails : 47 ∷ message ≡ 47 ∷ end = append_cancel_left controller (47 ∷ message) rest (same ∙ sym first) ∙ sym whole in
          let ends : end ≡ message = cc in
          test ∙ bytes_eq-same end message ends),
    )

-- no slash comes after the controller's name
pub no_slash : (controller label rest slash message : List ℕ) → controller ++ rest ≡ label → slash ≡ 47 ∷ [] → ((end : List ℕ) → slash ++ end ≢ rest) → controller ++ 47 ∷ message ≢ label
no_slash controller label rest slash message first is none same =
    none message (ap (λ s. s ++ message) is ∙ append_cancel_left controller (47 ∷ message) rest (same ∙ sym first))

pub label_of-sending : (plan : Contents) (i c m : ℕ) (controller message : List ℕ) → slice_get (participants_of plan) i ≡ Some (Sending c m) → slice_get (keys_of plan.controllers) c ≡ Some controller → slice_get (keys_of plan.messages) m ≡ Some message → label_of plan i ≡ controller ++ 47 ∷ message
unfolding label_of
label_of-sending plan i c m controller message at first second =
    ap (participant_label plan) at ∙ (λ j. get_or_from_slice_get (keys_of plan.controllers) c controller [] first j ++ 47 ∷ get_or_from_slice_get (keys_of plan.messages) m message [] second j)

pub label_of-interrupt : (plan : Contents) (i k : ℕ) (name : List ℕ) → slice_get (participants_of plan) i ≡ Some (Interrupt k) → slice_get (keys_of plan.interrupts) k ≡ Some name → label_of plan i ≡ 33 ∷ name
unfolding label_of
label_of-interrupt plan i k name at first =
    ap (participant_label plan) at ∙ ap (λ n. 33 ∷ n) (get_or_from_slice_get (keys_of plan.interrupts) k name [] first)
