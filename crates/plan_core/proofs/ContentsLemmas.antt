-- What holds of the contents of a plan.
use Rattle.std.proofs.Common.{◌≡◌, ◌≢◌, ◌⊎◌, ◌&&◌, inl, inr, suc, zero-add, get_or, eqb, subst, true≢false, ℕ, ◌+◌, ◌*◌, ◌<◌, ◌≤◌, ◌||◌, true, List, [], ◌∷◌, ◌++◌, length, map, Some, slice_get, refl, sym, ◌∙◌, ap, arith, length-append, append_assoc}
use Rattle.std.specs.List.{range_with_len, list_any, All, AllPairs}
use Rattle.std.specs.declared.vec.Vec.{Vec}
use Rattle.std.proofs.lemmas.Bool.{eqb-true, eq-eqb, or_cases}
use Rattle.std.proofs.lemmas.Bool.Decides.{Decides-eqb}
use Rattle.std.proofs.lemmas.Map.Made.{IsDistinct-from_AllPairs}
use Rattle.std.proofs.lemmas.Map.Steps.{length-le_from_distinct_below}
use Rattle.std.proofs.lemmas.List.{length-map, get_or-map, append-nil, length_push}
use Rattle.std.proofs.lemmas.List.Elements.{All-nil, All-head, All-tail, All-map, All-append, All-weaker}
use Rattle.std.proofs.lemmas.List.FromFn.{length-range_with_len, get_or-range_with_len, map-range_with_len_more}
use Rattle.std.proofs.lemmas.List.Sums.{sum_by-cons}
use Rattle.std.proofs.lemmas.Option.{get_or_from_slice_get, slice_get_within}
use Rattle.plan_core.specs.declared.plans.Participant.{Participant}
use Rattle.plan_core.specs.declared.plans.Participant.TheVariants.{Sending, Interrupt}
use Rattle.message_tree.specs.declared.tree.Frame.{Frame}
use Rattle.plan_core.specs.declared.names.Name.{Name}
use Rattle.plan_core.specs.Building.{with_sender, with_interrupt}
use Rattle.plan_core.specs.Contents.{Contents, empty}
use Rattle.plan_core.specs.Parts.{contents_of}
use Rattle.plan_core.specs.Limits.{IsKnown, IsWithinLimits, sending_count}
use Rattle.plan_core.specs.Participants.{sendings_from, participants_of, participant_count, apart}
use Rattle.plan_core.specs.Pairs.{pairs_of}
use Rattle.plan_core.proofs.PairLemmas.{pairs_by-few}

pub length-sendings_from : (c : ℕ) (controllers : List (List ℕ × List ℕ)) → length (sendings_from c controllers) ≡ sending_count controllers
length-sendings_from c [] = refl
length-sendings_from c (k ∷ ks) =
    let rest = length-sendings_from (c + 1) ks in
    let here = length-map {B = Participant} k.1 (Sending c) in
    length-append (map (Sending c) k.1) (sendings_from (c + 1) ks) ∙ omega (arith, rest, here, sum_by-cons (λ (k : List ℕ × List ℕ). length k.1) k ks)

pub participant_count-is : (plan : Contents) → participant_count plan ≡ sending_count plan.controllers + length plan.interrupts
participant_count-is plan =
    length-append (sendings_from 0 plan.controllers) (map Interrupt (range_with_len 0 (length plan.interrupts)))
    ∙ omega (arith, length-sendings_from 0 plan.controllers, length-map {B = Participant} (range_with_len 0 (length plan.interrupts)) Interrupt, length-range_with_len 0 (length plan.interrupts))

pub participant_count-few : (plan : Contents) → IsWithinLimits plan → participant_count plan ≤ 544
participant_count-few plan limits = omega (arith, participant_count-is plan, limits.controllers.sendings, limits.interrupts.count)

pub pairs_few : (plan : Contents) → IsWithinLimits plan → length (pairs_of plan) ≤ 544 * 544
unfolding pairs_of
pairs_few plan limits =
    let few = participant_count-few plan limits in
    let square : participant_count plan * participant_count plan ≤ 544 * 544 = grind (arith, few) in
    omega (arith, pairs_by-few (apart plan) (participant_count plan) (participant_count plan), square)

below_from_any : (xs : List ℕ) (n q : ℕ) → All (λ x. x < n) xs → list_any (eqb q) xs ≡ true → q < n
below_from_any [] n q all any = absurd (true≢false (sym any))
below_from_any (x ∷ xs) n q all any = by (or_cases (eqb q x) (list_any (eqb q) xs) any) (below_from_any xs n q (All-tail (λ x. x < n) x xs all))
  where
    by : (eqb q x ≡ true) ⊎ (list_any (eqb q) xs ≡ true) → (list_any (eqb q) xs ≡ true → q < n) → q < n
    by (inl here) rest = subst (λ k. k < n) (sym (eqb-true q x here)) (All-head (λ x. x < n) x xs all)
    by (inr later) rest = rest later

-- a `never` as one number
code_of : ℕ × ℕ → ℕ
code_of never = 32 * never.0 + never.1

-- two controllers of 32 are named by at most 1024 items
pub nevers_few : (plan : Contents) → IsWithinLimits plan → length plan.nevers ≤ 1024
unfolding code_of
nevers_few plan limits =
    let codes = map code_of plan.nevers in
    let below : All (λ k. k < 1024) codes = All-map (λ k. k < 1024) code_of plan.nevers (λ k d h. omega (arith, limits.nevers.known k d h, limits.controllers.count)) in
    let apart : AllPairs (λ x y. x ≢ y) codes = λ i j d lt within same. differ i j lt (omega (arith, length-map plan.nevers code_of, within)) (sym (code_at i d (omega (arith, length-map plan.nevers code_of, within))) ∙ same ∙ code_at j d (omega (arith, length-map plan.nevers code_of, within))) in
    omega (arith, length-map plan.nevers code_of, length-le_from_distinct_below codes 1024 (IsDistinct-from_AllPairs Decides-eqb codes apart) (λ q h. below_from_any codes 1024 q below h))
  where
    none : ℕ × ℕ
    none = (0, 0)

    code_at : (i d : ℕ) → i < length plan.nevers → get_or (map code_of plan.nevers) i d ≡ code_of (get_or plan.nevers i none)
    code_at i d h = get_or-map code_of plan.nevers i none d h

    differ : (i j : ℕ) → i < j → j < length plan.nevers → code_of (get_or plan.nevers i none) ≡ code_of (get_or plan.nevers j none) → ⊥
    differ i j lt within same =
        let m = get_or plan.nevers i none in
        let n = get_or plan.nevers j none in
        let known_m = limits.nevers.known i none (omega arith) in
        let known_n = limits.nevers.known j none within in
        let first : n.0 ≡ m.0 = omega (arith, same, known_m, known_n, limits.controllers.count) in
        let second : n.1 ≡ m.1 = omega (arith, same, known_m, known_n, limits.controllers.count) in
        true≢false (sym (ap (λ b. b || (eqb n.0 m.1 && eqb n.1 m.0)) (ap (λ b. b && eqb n.1 m.1) (eq-eqb n.0 m.0 first) ∙ eq-eqb n.1 m.1 second)) ∙ limits.nevers.once i j none lt within)

pub empty_within : IsWithinLimits empty
empty_within = record {
  messages = record {
    names = record { formed = λ k d h. absurd (omega arith); distinct = λ i j d lt h. absurd (omega arith) };
    count = omega arith;
    bytes = λ k d h. absurd (omega arith);
    nodes = λ k d h. absurd (omega arith);
  };
  controllers = record {
    names = record { formed = λ k d h. absurd (omega arith); distinct = λ i j d lt h. absurd (omega arith) };
    count = omega arith;
    sendings = omega arith;
    known = λ k d h. absurd (omega arith);
    once = λ k d h. absurd (omega arith);
  };
  interrupts = record {
    names = record { formed = λ k d h. absurd (omega arith); distinct = λ i j d lt h. absurd (omega arith) };
    count = omega arith;
    addresses = λ k d h. absurd (omega arith);
  };
  nevers = record {
    known = λ k d h. absurd (omega arith);
    two = λ k d h. absurd (omega arith);
    once = λ i j d lt h. absurd (omega arith);
  };
}

pub contents_of-empty : {Z : Type 0} (messages : List (Name × Frame)) (controllers : List (Name × Vec ℕ Z)) (interrupts : List (Name × ℕ)) (nevers : List (ℕ × ℕ)) → messages ≡ [] → controllers ≡ [] → interrupts ≡ [] → nevers ≡ [] → contents_of messages controllers interrupts nevers ≡ empty
unfolding contents_of
contents_of-empty messages controllers interrupts nevers m c i n = λ t. contents_of (m t) (c t) (i t) (n t)

-- one controller more
pub sendings_from-push : (c : ℕ) (controllers : List (List ℕ × List ℕ)) (last : List ℕ × List ℕ) → sendings_from c (controllers ++ last ∷ []) ≡ sendings_from c controllers ++ map (Sending (c + length controllers)) last.1
sendings_from-push c [] last =
    let zero_more : c ≡ c + 0 = omega arith in
    append-nil (map (Sending c) last.1) ∙ ap (λ n. map (Sending n) last.1) zero_more
sendings_from-push c (k ∷ ks) last =
    let next : c + 1 + length ks ≡ c + suc (length ks) = omega arith in
    ap (λ xs. map (Sending c) k.1 ++ xs) (sendings_from-push (c + 1) ks last ∙ ap (λ n. sendings_from (c + 1) ks ++ map (Sending n) last.1) next)
    ∙ sym (append_assoc (map (Sending c) k.1) (sendings_from (c + 1) ks) (map (Sending (c + suc (length ks))) last.1))

pub participants_of-sender : (plan : Contents) (name messages : List ℕ) → participants_of (with_sender plan name messages) ≡ sendings_from 0 plan.controllers ++ map (Sending (length plan.controllers)) messages ++ map Interrupt (range_with_len 0 (length plan.interrupts))
unfolding with_sender
participants_of-sender plan name messages =
    ap (λ xs. xs ++ map Interrupt (range_with_len 0 (length plan.interrupts))) (sendings_from-push 0 plan.controllers (name, messages) ∙ ap (λ n. sendings_from 0 plan.controllers ++ map (Sending n) messages) (zero-add (length plan.controllers)))

pub participants_of-interrupt : (plan : Contents) (name : List ℕ) (address : ℕ) → participants_of (with_interrupt plan name address) ≡ participants_of plan ++ Interrupt (length plan.interrupts) ∷ []
unfolding with_interrupt
participants_of-interrupt plan name address =
    let n = length plan.interrupts in
    ap (λ k. sendings_from 0 plan.controllers ++ map Interrupt (range_with_len 0 k)) (length_push plan.interrupts (name, address))
    ∙ ap (λ xs. sendings_from 0 plan.controllers ++ xs) (map-range_with_len_more Interrupt 0 n n (zero-add n))
    ∙ sym (append_assoc (sendings_from 0 plan.controllers) (map Interrupt (range_with_len 0 n)) (Interrupt n ∷ []))

-- what a participant names stands in the plan
known_sendings : (plan : Contents) (c : ℕ) (controllers : List (List ℕ × List ℕ)) → c + length controllers ≤ length plan.controllers → All (λ (k : List ℕ × List ℕ). All (λ m. m < length plan.messages) k.1) controllers → All (IsKnown plan) (sendings_from c controllers)
known_sendings plan c [] fits known = All-nil (IsKnown plan)
known_sendings plan c (k ∷ ks) fits known =
    let here = All-head (λ (k : List ℕ × List ℕ). All (λ m. m < length plan.messages) k.1) k ks known in
    let rest = All-tail (λ (k : List ℕ × List ℕ). All (λ m. m < length plan.messages) k.1) k ks known in
    All-append (IsKnown plan) (map (Sending c) k.1) (sendings_from (c + 1) ks)
    (All-map (IsKnown plan) (Sending c) k.1 (All-weaker (λ m. m < length plan.messages) (λ m. IsKnown plan (Sending c m)) (λ m h. (omega (arith, fits), h)) k.1 here))
    (known_sendings plan (c + 1) ks (omega (arith, fits)) rest)

known_interrupts : (plan : Contents) → All (IsKnown plan) (map Interrupt (range_with_len 0 (length plan.interrupts)))
known_interrupts plan = All-map (IsKnown plan) Interrupt (range_with_len 0 (length plan.interrupts)) (λ k d h. omega (arith, get_or-range_with_len 0 (length plan.interrupts) k d (omega (arith, h, length-range_with_len 0 (length plan.interrupts))), h, length-range_with_len 0 (length plan.interrupts)))

pub participant_known : (plan : Contents) → IsWithinLimits plan → (x : ℕ) (p : Participant) → slice_get (participants_of plan) x ≡ Some p → IsKnown plan p
participant_known plan limits x p at =
    let all = All-append (IsKnown plan) (sendings_from 0 plan.controllers) (map Interrupt (range_with_len 0 (length plan.interrupts))) (known_sendings plan 0 plan.controllers (omega arith) limits.controllers.known) (known_interrupts plan) in
    subst (IsKnown plan) (get_or_from_slice_get (participants_of plan) x p p at) (all x p (slice_get_within (participants_of plan) x p at))
