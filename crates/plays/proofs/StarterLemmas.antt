-- What starters are that nothing refuses: a lawful set, each of them once, and at most 64.
use Rattle.std.proofs.Common.{◌≡◌, ◌≢◌, ◌⊎◌, inl, inr, ℕ, zero, suc, ◌+◌, ◌-◌, ◌<◌, ◌≤◌, Bool, true, false, ◌==◌, ◌||◌, not, cond, List, [], ◌∷◌, ◌++◌, length, map, get_or, Option, Some, None, slice_get, refl, sym, ap, ◌∙◌, subst, arith, append_assoc, append-nil, true≢false, eqb}
use Rattle.std.specs.Prelude.{All, AllPairs, nat_lt, if◌then◌else◌}
use Rattle.std.specs.List.{list_any, range_with_len}
use Rattle.std.specs.Option.{option_or}
use Rattle.std.proofs.lemmas.Bool.{cases_lt, eqb-true, eq-eqb, lt-ltb, le-ltb, ltb-true}
use Rattle.std.proofs.lemmas.Bool.Decides.{Decides-eqb}
use Rattle.std.proofs.lemmas.List.{length-map, get_or_append_left}
use Rattle.std.proofs.lemmas.List.Elements.{All-nil, All-push, All-append, All-map}
use Rattle.std.proofs.lemmas.List.Folds.{list_any_at, Any-from_list_any}
use Rattle.std.proofs.lemmas.List.Quantifiers.{all_pairs_push}
use Rattle.std.proofs.lemmas.Map.Made.{IsDistinct-from_AllPairs}
use Rattle.std.proofs.lemmas.Map.Steps.{length-le_from_distinct_below}
use Rattle.std.proofs.lemmas.Option.{slice_get-get_or}
use Rattle.plan_core.specs.declared.plans.Participant.{Participant}
use Rattle.plan_core.specs.declared.plans.Participant.TheVariants.{Sending, Interrupt}
use Rattle.plan_core.specs.Contents.{Contents}
use Rattle.plan_core.specs.Faults.{IsSafe}
use Rattle.plan_core.specs.Lawful.{In, IsLawful}
use Rattle.plan_core.specs.Limits.{IsWithinLimits}
use Rattle.plan_core.specs.Participants.{participants_of, participant_count, sendings_from, same_controller, forbidden, one_controller, apart}
use Rattle.plan_core.proofs.ContentsLemmas.{participant_count-is, length-sendings_from}
use Rattle.plan_core.proofs.PairLaws.{apart-either, AllPairs-map}
use Rattle.plays.specs.Games.{IsGame, those}
use Rattle.run_errors.specs.declared.benches.OpenError.{OpenError}
use Rattle.run_errors.specs.declared.benches.OpenError.TheVariants.{Unknown, SameController, Never}
use Rattle.plays.specs.Starters.{shares_controller, refusal_behind, first_refusal, starters_refusal}

-- ---- one starter after others

-- nothing refuses x after these
record IsFree (plan : Contents) (before : List ℕ) (x : ℕ) : Type 0 where
  known : x < participant_count plan
  alone : list_any (λ y. shares_controller plan y x) before ≡ false
  allowed : list_any (λ y. forbidden plan y x) before ≡ false

none_of_three : (a b c : Bool) → ◌≡◌ {A = Option OpenError} (if not a then Some Unknown else if b then Some SameController else if c then Some Never else None) None → (a ≡ true) × (b ≡ false) × (c ≡ false)
none_of_three false b c none = absurd cc
none_of_three true true c none = absurd cc
none_of_three true false true none = absurd cc
none_of_three true false false none = (refl, refl, refl)

free_from : (plan : Contents) (before : List ℕ) (x : ℕ) → refusal_behind plan before x ≡ None → IsFree plan before x
free_from plan before x none =
    let r = none_of_three (nat_lt x (participant_count plan)) (list_any (λ y. shares_controller plan y x) before) (list_any (λ y. forbidden plan y x) before) none in
    record { known = ltb-true x (participant_count plan) r.0; alone = r.1; allowed = r.2 }

-- ---- all of them

-- the plan has them all, and any two may start together
record Together (plan : Contents) (xs : List ℕ) : Type 0 where
  known : All (λ x. x < participant_count plan) xs
  alone : AllPairs (λ y x. shares_controller plan y x ≡ false) xs
  allowed : AllPairs (λ y x. forbidden plan y x ≡ false) xs

none_at : (p : ℕ → Bool) (xs : List ℕ) → list_any p xs ≡ false → (k d : ℕ) → k < length xs → p (get_or xs k d) ≡ false
none_at p xs none k d lt = by (p (get_or xs k d)) refl
  where
    by : (b : Bool) → p (get_or xs k d) ≡ b → b ≡ false
    by true is = absurd (true≢false (sym (list_any_at p xs k d lt is) ∙ none))
    by false is = refl

together_push : (plan : Contents) (before : List ℕ) (x : ℕ) → Together plan before → refusal_behind plan before x ≡ None → Together plan (before ++ x ∷ [])
together_push plan before x are none =
    let free = free_from plan before x none in
    record {
      known = All-push (λ y. y < participant_count plan) before x are.known free.known;
      alone = all_pairs_push (λ y z. shares_controller plan y z ≡ false) before x are.alone (none_at (λ y. shares_controller plan y x) before free.alone);
      allowed = all_pairs_push (λ y z. forbidden plan y z ≡ false) before x are.allowed (none_at (λ y. forbidden plan y x) before free.allowed);
    }

neither_refuses : (first later : Option OpenError) → option_or first later ≡ None → (first ≡ None) × (later ≡ None)
neither_refuses (Some e) later none = absurd cc
neither_refuses None later none = (refl, none)

together_behind : (plan : Contents) (before xs : List ℕ) → Together plan before → first_refusal plan before xs ≡ None → Together plan (before ++ xs)
together_behind plan before [] are none = subst (Together plan) (sym (append-nil before)) are
together_behind plan before (x ∷ xs) are none =
    let r = neither_refuses (refusal_behind plan before x) (first_refusal plan (before ++ x ∷ []) xs) none in
    subst (Together plan) (append_assoc before (x ∷ []) xs) (together_behind plan (before ++ x ∷ []) xs (together_push plan before x are r.0) r.1)

none_together : (plan : Contents) → Together plan []
none_together plan = record { known = All-nil (λ x. x < participant_count plan); alone = λ i j d lt h. absurd (omega (arith, h)); allowed = λ i j d lt h. absurd (omega (arith, h)) }

together : (plan : Contents) (starters : List ℕ) → starters_refusal plan starters ≡ None → (0 < length starters) × Together plan starters
together plan [] none = absurd cc
together plan (x ∷ xs) none = (omega arith, together_behind plan [] (x ∷ xs) (none_together plan) none)

neither_is : (a b : Bool) → (a || b) ≡ false → (a ≡ false) × (b ≡ false)
neither_is true b none = absurd (true≢false none)
neither_is false b none = (refl, none)

differ : (plan : Contents) (x y : ℕ) → shares_controller plan x y ≡ false → x ≢ y
differ plan x y alone same = true≢false (sym (eq-eqb x y same) ∙ (neither_is (x == y) (same_controller plan x y) alone).0)

not_same : (plan : Contents) (x y : ℕ) → shares_controller plan x y ≡ false → same_controller plan x y ≡ false
not_same plan x y alone = (neither_is (x == y) (same_controller plan x y) alone).1

-- ---- a lawful set

place_in : (xs : List ℕ) (p : ℕ) → In p (those xs) → (k : ℕ) × (k < length xs) × (get_or xs k 0 ≡ p)
place_in xs p i =
    let a = Any-from_list_any (λ x. x == p) xs i in
    let same : a.1 ≡ p = eqb-true a.1 p a.4 in
    (a.0, a.2, same_at xs a.0 a.1 a.2 a.3 ∙ same)
  where
    same_at : (xs : List ℕ) (k x : ℕ) → k < length xs → get_or xs k x ≡ x → get_or xs k 0 ≡ x
    same_at [] k x lt e = absurd (omega (arith, lt))
    same_at (y ∷ ys) zero x lt e = e
    same_at (y ∷ ys) (suc k) x lt e = same_at ys k x (omega (arith, lt)) e

together_at : (plan : Contents) (xs : List ℕ) → Together plan xs → (i j : ℕ) → i < j → j < length xs → apart plan (get_or xs i 0) (get_or xs j 0) ≡ false
together_at plan xs are i j lt within =
    let x = get_or xs i 0 in
    let y = get_or xs j 0 in
    (λ k. not_same plan x y (are.alone i j 0 lt within) k || are.allowed i j 0 lt within k)

lawful : (plan : Contents) (xs : List ℕ) → 0 < length xs → Together plan xs → IsLawful plan (those xs)
lawful plan [] some are = absurd (omega (arith, some))
lawful plan (x ∷ xs) some are = record {
  some = (x, ap (λ b. b || list_any (λ y. y == x) xs) (eq-eqb x x refl));
  participants = λ p i. let k = place_in (x ∷ xs) p i in subst (λ q. q < participant_count plan) k.2 (are.known k.0 0 k.1);
  together = λ p q n i j. by p q n (place_in (x ∷ xs) p i) (place_in (x ∷ xs) q j);
}
  where
    by : (p q : ℕ) → p ≢ q → ((k : ℕ) × (k < length (x ∷ xs)) × (get_or (x ∷ xs) k 0 ≡ p)) → ((k : ℕ) × (k < length (x ∷ xs)) × (get_or (x ∷ xs) k 0 ≡ q)) → apart plan p q ≡ false
    by p q n i j =
        elim (cases_lt i.0 j.0) [
          | inl lt ↦ (λ k. apart plan (sym i.2 k) (sym j.2 k)) ∙ together_at plan (x ∷ xs) are i.0 j.0 lt j.1
          | inr le ↦ elim (cases_lt j.0 i.0) [
            | inl lt ↦ apart-either plan p q ∙ (λ k. apart plan (sym j.2 k) (sym i.2 k)) ∙ together_at plan (x ∷ xs) are j.0 i.0 lt i.1
            | inr ge ↦ let same : i.0 ≡ j.0 = omega (arith, le, ge) in absurd (n (sym i.2 ∙ ap (λ k. get_or (x ∷ xs) k 0) same ∙ j.2))
          ]
        ]

-- ---- at most 64

sendings : Contents → List Participant
sendings plan = sendings_from 0 plan.controllers

IsOf : ℕ → Participant → Type 0
IsOf n (Sending c m) = c < n
IsOf n (Interrupt k) = ⊥

all_sendings : (n c : ℕ) (ks : List (List ℕ × List ℕ)) → c + length ks ≤ n → All (IsOf n) (sendings_from c ks)
unfolding IsOf
all_sendings n c [] few = All-nil (IsOf n)
all_sendings n c (k ∷ ks) few =
    All-append (IsOf n) (map (Sending c) k.1) (sendings_from (c + 1) ks)
    (All-map (IsOf n) (Sending c) k.1 (λ j d h. omega (arith, few)))
    (all_sendings n (c + 1) ks (omega (arith, few)))

controller_of : Participant → ℕ
controller_of (Sending c m) = c
controller_of (Interrupt k) = 0

-- the number of a sending's controller, or 32 and that of the interrupt
sender_number : Contents → ℕ → ℕ
sender_number plan p = cond (nat_lt p (length (sendings plan))) (controller_of (get_or (participants_of plan) p (Interrupt 0))) (32 + (p - length (sendings plan)))

record IsSending (plan : Contents) (p : ℕ) : Type 0 where
  message : ℕ
  at : slice_get (participants_of plan) p ≡ Some (Sending (sender_number plan p) message)
  below : sender_number plan p < 32

record IsInterrupt (plan : Contents) (p : ℕ) : Type 0 where
  behind : length (sendings plan) ≤ p
  number : sender_number plan p ≡ 32 + (p - length (sendings plan))
  below : sender_number plan p < 64

sending_at : (plan : Contents) → IsWithinLimits plan → (p : ℕ) → p < length (sendings plan) → IsSending plan p
unfolding sendings sender_number controller_of IsOf
sending_at plan limits p lt =
    by (get_or (participants_of plan) p (Interrupt 0)) refl (subst (IsOf (length plan.controllers)) (sym left) of)
  where
    left : get_or (participants_of plan) p (Interrupt 0) ≡ get_or (sendings plan) p (Interrupt 0)
    left = get_or_append_left (sendings plan) (map Interrupt (range_with_len 0 (length plan.interrupts))) (Interrupt 0) p lt

    of : IsOf (length plan.controllers) (get_or (sendings plan) p (Interrupt 0))
    of = all_sendings (length plan.controllers) 0 plan.controllers (omega arith) p (Interrupt 0) lt

    within : p < participant_count plan
    within = omega (arith, participant_count-is plan, length-sendings_from 0 plan.controllers, lt)

    by : (q : Participant) → get_or (participants_of plan) p (Interrupt 0) ≡ q → IsOf (length plan.controllers) q → IsSending plan p
    by (Interrupt k) is of = absurd of
    by (Sending c m) is of =
        let number : sender_number plan p ≡ c = ap (λ b. cond b (controller_of (get_or (participants_of plan) p (Interrupt 0))) (32 + (p - length (sendings plan)))) (lt-ltb p (length (sendings plan)) lt) ∙ ap controller_of is in
        record {
          message = m;
          at = slice_get-get_or (participants_of plan) p (Interrupt 0) within ∙ ap Some is ∙ ap (λ n. Some (Sending n m)) (sym number);
          below = omega (arith, number, of, limits.controllers.count);
        }

interrupt_at : (plan : Contents) → IsWithinLimits plan → (p : ℕ) → p < participant_count plan → length (sendings plan) ≤ p → IsInterrupt plan p
unfolding sendings sender_number
interrupt_at plan limits p lt le =
    let number : sender_number plan p ≡ 32 + (p - length (sendings plan)) = ap (λ b. cond b (controller_of (get_or (participants_of plan) p (Interrupt 0))) (32 + (p - length (sendings plan)))) (le-ltb p (length (sendings plan)) le) in
    record {
      behind = le;
      number = number;
      below = omega (arith, number, participant_count-is plan, length-sendings_from 0 plan.controllers, limits.interrupts.count, lt, le);
    }

sender_at : (plan : Contents) → IsWithinLimits plan → (p : ℕ) → p < participant_count plan → IsSending plan p ⊎ IsInterrupt plan p
sender_at plan limits p lt = elim (cases_lt p (length (sendings plan))) [ inl sending ↦ inl (sending_at plan limits p sending) | inr behind ↦ inr (interrupt_at plan limits p lt behind) ]

number_below : (plan : Contents) (p : ℕ) → IsSending plan p ⊎ IsInterrupt plan p → sender_number plan p < 64
number_below plan p (inl s) = omega (arith, s.below)
number_below plan p (inr s) = s.below

numbers_differ : (plan : Contents) (x y : ℕ) → IsSending plan x ⊎ IsInterrupt plan x → IsSending plan y ⊎ IsInterrupt plan y → shares_controller plan x y ≡ false → sender_number plan x ≢ sender_number plan y
unfolding same_controller
numbers_differ plan x y (inl s) (inl t) alone same =
    true≢false (sym ((λ i. one_controller (s.at i) (t.at i)) ∙ eq-eqb (sender_number plan x) (sender_number plan y) same) ∙ not_same plan x y alone)
numbers_differ plan x y (inl s) (inr t) alone same = omega (arith, s.below, t.number, same)
numbers_differ plan x y (inr s) (inl t) alone same = omega (arith, t.below, s.number, same)
numbers_differ plan x y (inr s) (inr t) alone same = differ plan x y alone (omega (arith, s.behind, s.number, t.behind, t.number, same))

below_from_any : (xs : List ℕ) (n q : ℕ) → All (λ x. x < n) xs → list_any (eqb q) xs ≡ true → q < n
below_from_any xs n q all any =
    let a = Any-from_list_any (eqb q) xs any in
    omega (arith, all a.0 a.1 a.2, a.3, eqb-true q a.1 a.4)

few : (plan : Contents) → IsWithinLimits plan → (xs : List ℕ) → Together plan xs → length xs ≤ 64
few plan limits xs are =
    let numbers = map (sender_number plan) xs in
    let stands : (k d : ℕ) → k < length xs → IsSending plan (get_or xs k d) ⊎ IsInterrupt plan (get_or xs k d) = λ k d h. sender_at plan limits (get_or xs k d) (are.known k d h) in
    let below : All (λ n. n < 64) numbers = All-map (λ n. n < 64) (sender_number plan) xs (λ k d h. number_below plan (get_or xs k d) (stands k d h)) in
    let apart : AllPairs ◌≢◌ numbers = AllPairs-map ◌≢◌ (sender_number plan) xs (λ i j d lt h. numbers_differ plan (get_or xs i d) (get_or xs j d) (stands i d (omega (arith, lt, h))) (stands j d h) (are.alone i j d lt h)) in
    omega (arith, length-map xs (sender_number plan), length-le_from_distinct_below numbers 64 (IsDistinct-from_AllPairs Decides-eqb numbers apart) (λ q h. below_from_any numbers 64 q below h))

-- ---- what a bench is opened for

pub lawful_starters : (plan : Contents) (starters : List ℕ) → IsWithinLimits plan → starters_refusal plan starters ≡ None → IsLawful plan (those starters) × AllPairs ◌≢◌ starters × (length starters ≤ 64)
lawful_starters plan starters limits none =
    let are = together plan starters none in (
      lawful plan starters are.0 are.1,
      λ i j d lt h. differ plan (get_or starters i d) (get_or starters j d) (are.1.alone i j d lt h),
      few plan limits starters are.1,
    )

pub game_of_starters : (plan : Contents) (starters : List ℕ) (answers : List Bool) → IsWithinLimits plan → IsSafe plan → starters_refusal plan starters ≡ None → IsGame (record { plan = plan; starters = starters; answers = answers })
game_of_starters plan starters answers limits safe none =
    let are = lawful_starters plan starters limits none in
    record {
      safe = safe;
      sends = limits.controllers.known;
      short = limits.messages.bytes;
      lawful = are.0;
      once = are.1;
      few = are.2;
    }
