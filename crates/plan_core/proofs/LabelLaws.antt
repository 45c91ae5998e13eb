-- No two participants have one label.
use Rattle.std.proofs.Common.{◌≡◌, ◌≢◌, ◌⊎◌, inl, inr, ℕ, ◌+◌, ◌<◌, ◌≤◌, Bool, true, false, ◌&&◌, not, List, [], ◌∷◌, ◌++◌, length, get_or, map, Some, slice_get, refl, sym, ◌∙◌, ap, subst, arith, true≢false}
use Rattle.std.specs.Prelude.{All, AllPairs, nat_le}
use Rattle.std.specs.List.{range_with_len, list_all}
use Rattle.std.specs.Map.{keys_of}
use Rattle.std.proofs.lemmas.Bool.{cases_order}
use Rattle.std.proofs.lemmas.List.{length-map}
use Rattle.std.proofs.lemmas.List.Elements.{All-nil, All-head, All-tail, All-append, All-map, All-weaker}
use Rattle.std.proofs.lemmas.Option.{slice_get-get_or}
use Rattle.plan_core.specs.Contents.{Contents}
use Rattle.plan_core.specs.Labels.{label_of, name_at, participant_label}
use Rattle.plan_core.specs.Limits.{AreNames, IsKnown, IsWithinLimits}
use Rattle.plan_core.specs.Names.{IsName, is_name, is_name_byte, is_reserved, begins_with_letter}
use Rattle.plan_core.specs.Participants.{participants_of, participant_count, sendings_from}
use Rattle.plan_core.specs.declared.plans.Participant.{Participant}
use Rattle.plan_core.specs.declared.plans.Participant.TheVariants.{Sending, Interrupt}
use Rattle.plan_core.proofs.ContentsLemmas.{participant_known}
use Rattle.plan_core.proofs.PairLaws.{AllPairs-append, AllPairs-map, range_rises}

both : (a b : Bool) → (a && b) ≡ true → (a ≡ true) × (b ≡ true)
both true b h = (refl, h)
both false b h = absurd (true≢false (sym h))

-- the bytes of a name
name_word : (name : List ℕ) → IsName name → (begins_with_letter name ≡ true) × (list_all is_name_byte name ≡ true)
unfolding is_name
name_word name is =
    let first = both (begins_with_letter name && list_all is_name_byte name && nat_le (length name) 32) (not (is_reserved name)) is in
    let second = both (begins_with_letter name && list_all is_name_byte name) (nat_le (length name) 32) first.0 in
    both (begins_with_letter name) (list_all is_name_byte name) second.0

-- two lists of a name, a slash and more are equal only in both parts
parts_of_label : (a b : List ℕ) (c d : List ℕ) → list_all is_name_byte a ≡ true → list_all is_name_byte b ≡ true → a ++ 47 ∷ c ≡ b ++ 47 ∷ d → (a ≡ b) × (c ≡ d)
parts_of_label [] [] c d p q e = (refl, cc)
parts_of_label [] (y ∷ b) c d p q e =
    let first : 47 ≡ y = cc in
    absurd (true≢false (sym (both (is_name_byte y) (list_all is_name_byte b) q).0 ∙ ap is_name_byte (sym first)))
parts_of_label (x ∷ a) [] c d p q e =
    let first : x ≡ 47 = cc in
    absurd (true≢false (sym (both (is_name_byte x) (list_all is_name_byte a) p).0 ∙ ap is_name_byte first))
parts_of_label (x ∷ a) (y ∷ b) c d p q e =
    let first : x ≡ y = cc in
    let more : a ++ 47 ∷ c ≡ b ++ 47 ∷ d = cc in
    let rest = parts_of_label a b c d (both (is_name_byte x) (list_all is_name_byte a) p).1 (both (is_name_byte y) (list_all is_name_byte b) q).1 more in
    ((λ i. first i ∷ rest.0 i), rest.1)

-- no name begins with an exclamation mark
no_mark : (a c d : List ℕ) → begins_with_letter a ≡ true → a ++ 47 ∷ c ≢ 33 ∷ d
no_mark [] c d p e = true≢false (sym p)
no_mark (x ∷ a) c d p e =
    let first : x ≡ 33 = cc in
    true≢false (sym p ∙ ap (λ k. begins_with_letter (k ∷ [])) first)

-- of distinct names, equal ones have one number
module _ {X : Type 0} (entries : List (List ℕ × X)) (are : AreNames (keys_of entries)) where
  within_keys : (k : ℕ) → k < length entries → k < length (keys_of entries)
  within_keys k h = omega (arith, h, length-map {B = List ℕ} entries (λ e. e.0))

  name_is : (k : ℕ) → k < length entries → IsName (name_at entries k)
  name_is k h = are.formed k [] (within_keys k h)

  number_is : (j k : ℕ) → j < length entries → k < length entries → name_at entries j ≡ name_at entries k → j ≡ k
  number_is j k hj hk same = by (cases_order j k)
    where
      by : (j ≡ k) ⊎ ((j < k) ⊎ (k < j)) → j ≡ k
      by (inl e) = e
      by (inr (inl lt)) = absurd (are.distinct j k [] lt (within_keys k hk) same)
      by (inr (inr gt)) = absurd (are.distinct k j [] gt (within_keys j hj) (sym same))

-- participants with one label are one
label_is : (plan : Contents) → IsWithinLimits plan → (p q : Participant) → IsKnown plan p → IsKnown plan q → participant_label plan (Some p) ≡ participant_label plan (Some q) → p ≡ q
label_is plan limits (Sending c m) (Sending d n) kp kq same =
    let words = λ (k : ℕ) (h : k < length plan.controllers). (name_word (name_at plan.controllers k) (name_is plan.controllers limits.controllers.names k h)).1 in
    let parts = parts_of_label (name_at plan.controllers c) (name_at plan.controllers d) (name_at plan.messages m) (name_at plan.messages n) (words c kp.0) (words d kq.0) same in
    λ i. Sending (number_is plan.controllers limits.controllers.names c d kp.0 kq.0 parts.0 i) (number_is plan.messages limits.messages.names m n kp.1 kq.1 parts.1 i)
label_is plan limits (Sending c m) (Interrupt k) kp kq same =
    absurd (no_mark (name_at plan.controllers c) (name_at plan.messages m) (name_at plan.interrupts k) (name_word (name_at plan.controllers c) (name_is plan.controllers limits.controllers.names c kp.0)).0 same)
label_is plan limits (Interrupt k) (Sending c m) kp kq same =
    absurd (no_mark (name_at plan.controllers c) (name_at plan.messages m) (name_at plan.interrupts k) (name_word (name_at plan.controllers c) (name_is plan.controllers limits.controllers.names c kq.0)).0 (sym same))
label_is plan limits (Interrupt j) (Interrupt k) kp kq same =
    let names : name_at plan.interrupts j ≡ name_at plan.interrupts k = cc in
    ap Interrupt (number_is plan.interrupts limits.interrupts.names j k kp kq names)

-- each participant stands once
controller_from : ℕ → Participant → Type 0
controller_from c (Sending d m) = c ≤ d
controller_from c (Interrupt k) = ⊥

sendings_above : (b c : ℕ) (controllers : List (List ℕ × List ℕ)) → b ≤ c → All (controller_from b) (sendings_from c controllers)
unfolding controller_from
sendings_above b c [] le = All-nil (controller_from b)
sendings_above b c (k ∷ ks) le =
    All-append (controller_from b) (map (Sending c) k.1) (sendings_from (c + 1) ks) (All-map (controller_from b) (Sending c) k.1 (λ j d h. le)) (sendings_above b (c + 1) ks (omega (arith, le)))

sendings_once : (c : ℕ) (controllers : List (List ℕ × List ℕ)) → All (λ (k : List ℕ × List ℕ). AllPairs ◌≢◌ k.1) controllers → AllPairs ◌≢◌ (sendings_from c controllers)
unfolding controller_from
sendings_once c [] once = λ i j d lt h. absurd (omega (arith, h))
sendings_once c (k ∷ ks) once =
    let own = All-head (λ (k : List ℕ × List ℕ). AllPairs ◌≢◌ k.1) k ks once in
    let later = sendings_from (c + 1) ks in
    AllPairs-append ◌≢◌ (map (Sending c) k.1) later
    (AllPairs-map ◌≢◌ (Sending c) k.1 (λ i j d lt h same. own i j d lt h (let e : get_or k.1 i d ≡ get_or k.1 j d = cc in e)))
    (sendings_once (c + 1) ks (All-tail (λ (k : List ℕ × List ℕ). AllPairs ◌≢◌ k.1) k ks once))
    (All-map (λ p. All (λ q. p ≢ q) later) (Sending c) k.1 (λ j d h. All-weaker (controller_from (c + 1)) (λ q. Sending c (get_or k.1 j d) ≢ q) (λ q above same. absurd (let f : controller_from (c + 1) (Sending c (get_or k.1 j d)) = subst (controller_from (c + 1)) (sym same) above in omega (arith, f))) later (sendings_above (c + 1) (c + 1) ks (omega arith))))

interrupts_once : (n : ℕ) → AllPairs ◌≢◌ (map Interrupt (range_with_len 0 n))
interrupts_once n = AllPairs-map ◌≢◌ Interrupt (range_with_len 0 n) (λ i j d lt h same. let e : get_or (range_with_len 0 n) i d ≡ get_or (range_with_len 0 n) j d = cc in omega (arith, e, range_rises 0 n i j d lt h))

participants_once : (plan : Contents) → IsWithinLimits plan → AllPairs ◌≢◌ (participants_of plan)
unfolding controller_from
participants_once plan limits =
    let interrupts = map Interrupt (range_with_len 0 (length plan.interrupts)) in
    AllPairs-append ◌≢◌ (sendings_from 0 plan.controllers) interrupts (sendings_once 0 plan.controllers limits.controllers.once) (interrupts_once (length plan.interrupts))
    (All-weaker (controller_from 0) (λ p. All (λ q. p ≢ q) interrupts)
    (λ p is. All-map (λ q. p ≢ q) Interrupt (range_with_len 0 (length plan.interrupts)) (λ k d h same. subst (controller_from 0) same is))
    (sendings_from 0 plan.controllers) (sendings_above 0 0 plan.controllers (omega arith)))

pub labels_differ_of : (plan : Contents) → IsWithinLimits plan → (i j : ℕ) → i < participant_count plan → j < participant_count plan → label_of plan i ≡ label_of plan j → i ≡ j
unfolding label_of
labels_differ_of plan limits i j hi hj same = by (cases_order i j)
  where
    d : Participant
    d = Interrupt 0

    p : ℕ → Participant
    p k = get_or (participants_of plan) k d

    at : (k : ℕ) → k < participant_count plan → slice_get (participants_of plan) k ≡ Some (p k)
    at k h = slice_get-get_or (participants_of plan) k d h

    one : p i ≡ p j
    one = label_is plan limits (p i) (p j) (participant_known plan limits i (p i) (at i hi)) (participant_known plan limits j (p j) (at j hj)) (ap (participant_label plan) (sym (at i hi)) ∙ same ∙ ap (participant_label plan) (at j hj))

    by : (i ≡ j) ⊎ ((i < j) ⊎ (j < i)) → i ≡ j
    by (inl e) = e
    by (inr (inl lt)) = absurd (participants_once plan limits i j d lt hj one)
    by (inr (inr gt)) = absurd (participants_once plan limits j i d gt hi (sym one))
