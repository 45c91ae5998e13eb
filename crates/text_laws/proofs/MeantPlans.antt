-- The controllers of a plan that is meant, its `never` items, and its limits.
use Rattle.std.proofs.Common.{◌≡◌, ℕ, suc, ◌+◌, ◌⊎◌, inl, inr, ◌||◌, ◌&&◌, ◌==◌, Bool, true, false, List, [], ◌∷◌, ◌++◌, map, length, Option, Some, None, is_some, slice_get, refl, ap, sym, ◌∙◌, subst, arith, ◌<◌, ◌≤◌}
use Rattle.std.specs.Prelude.{if◌then◌else◌, unwrap_or}
use Rattle.std.specs.List.{list_any, filter_map, range_with_len, sum_by}
use Rattle.std.specs.Str.{bytes_eq}
use Rattle.std.proofs.lemmas.Bool.{and_parts, eqb-true, eq-eqb, lt-leb}
use Rattle.std.proofs.lemmas.List.{append_assoc, append-nil, length_push}
use Rattle.std.proofs.lemmas.List.Folds.{list_any-append}
use Rattle.std.proofs.lemmas.Grind.{common_steps}
use Rattle.message_tree.specs.Trees.{FrameTree}
use Rattle.plan_core.specs.Building.{number_of, with_sender, with_controller, two_refusal, never_refusal, controller_number, with_never, numbers_of, controller_name_refusal, list_refusal}
use Rattle.plan_core.specs.Contents.{Contents}
use Rattle.plan_core.specs.Participants.{sendings_from, participants_of, names_both, is_never}
use Rattle.plan_core.specs.declared.builder.BuildError.{BuildError}
use Rattle.plan_core.specs.declared.builder.BuildError.TheVariants.{Twice}
use Rattle.plan_core.specs.declared.plans.Participant.TheVariants.{Sending, Interrupt}
use Rattle.plan_core.proofs.BuildingLemmas.{same-bytes_eq, NeverAllowed, never_allowed, controller_fits, limits-controller, limits-never, length-numbers_of}
use Rattle.brief_text.specs.Splitting.{Part, part_name, with_parts, with_pair, with_pairs, parts, pairs_apart, plan_meant}
use Rattle.text_laws.proofs.Membership.{In, in_either, from_map, or_either, or_first, or_second, is_false, Distinct, holds, holds_in}
use Rattle.text_laws.proofs.EntryNames.{two, slice_in, in_has_name, number_none, in_keys_either}
use Rattle.std.specs.Map.{keys_of}
use Rattle.std.proofs.lemmas.List.Sums.{sum_by-cons, sum_by_push}
use Rattle.plan_core.specs.Limits.{IsWithinLimits, sending_count}
use Rattle.plan_core.specs.Names.{IsName}
use Rattle.plan_core.specs.declared.limits.TheConstants.{MOST_CONTROLLERS, MOST_SENDINGS}
use Rattle.brief_text.specs.Drafts.{Draft}
use Rattle.text_laws.specs.Adding.{NoneIsRefused}
use Rattle.text_laws.proofs.PartLemmas.{part_names_once, part_named, part_listed, part_sums}
use Rattle.text_laws.proofs.SoundDrafts.{Sound, ListSound}

-- ---- controllers

-- a part as the plan has it
abbrev pub entry : List (List ℕ × FrameTree) → Part → List ℕ × List ℕ
entry messages part = (part_name part, filter_map (λ name. number_of name messages) part.messages)

pub parts_are : (ps : List Part) (plan : Contents) → with_parts plan ps ≡ record plan { controllers = plan.controllers ++ map (entry plan.messages) ps }
unfolding with_sender
parts_are [] plan = grind (arith, common_steps, append-nil)
parts_are (p ∷ ps) plan = grind (arith, common_steps, append_assoc, (parts_are ps (with_controller plan (part_name p) p.messages)))

-- ---- `never` items

module _ (plan : Contents) (pair : List ℕ × List ℕ) where
  pub pair_controllers : (with_pair plan pair).controllers ≡ plan.controllers
  unfolding with_never
  pair_controllers = grind (arith, common_steps)

  pub pair_messages : (with_pair plan pair).messages ≡ plan.messages
  unfolding with_never
  pair_messages = grind (arith, common_steps)

  pair_kept : (i j : ℕ) → is_never plan i j ≡ true → is_never (with_pair plan pair) i j ≡ true
  unfolding with_never
  pair_kept i j h = grind (arith, common_steps, list_any-append, or_first)

  -- the plan keeps these two apart from now on
  pair_added : (i j : ℕ) → number_of pair.0 plan.controllers ≡ Some i → number_of pair.1 plan.controllers ≡ Some j → (i ≡ j → ⊥) → is_never (with_pair plan pair) i j ≡ true
  unfolding with_never never_refusal
  pair_added i j first second differ = by (never_refusal plan pair.0 pair.1) refl
    where
      both : names_both i j (i, j) ≡ true
      both = or_first ((i == i) && (j == j)) ((i == j) && (j == i)) (rw (eq-eqb i i refl, eq-eqb j j refl) refl)

      is_first : controller_number plan pair.0 ≡ i
      is_first = ap (λ (o : Option ℕ). unwrap_or o 0) first

      is_second : controller_number plan pair.1 ≡ j
      is_second = ap (λ (o : Option ℕ). unwrap_or o 0) second

      two_names : bytes_eq pair.0 pair.1 ≡ false
      two_names = is_false (bytes_eq pair.0 pair.1) (λ h.
          let one : Some i ≡ Some j = sym first ∙ ap (λ (n : List ℕ). number_of n plan.controllers) (same-bytes_eq pair.0 pair.1 h) ∙ second in
          let same : i ≡ j = cc in
          differ same)

      refused : two_refusal plan (number_of pair.0 plan.controllers) (bytes_eq pair.0 pair.1) (number_of pair.1 plan.controllers) ≡ (if is_never plan i j then Some Twice else None)
      refused = rw (first, two_names, second) refl

      by : (o : Option BuildError) → never_refusal plan pair.0 pair.1 ≡ o → is_never (if is_some o then plan else with_never plan pair.0 pair.1) i j ≡ true
      by None e =
          list_any-append (names_both i j) plan.nevers ((controller_number plan pair.0, controller_number plan pair.1) ∷ [])
          ∙ or_second (list_any (names_both i j) plan.nevers) _ (or_first (names_both i j (controller_number plan pair.0, controller_number plan pair.1)) false
          (ap (λ (a : ℕ). names_both i j (a, controller_number plan pair.1)) is_first ∙ ap (λ (b : ℕ). names_both i j (i, b)) is_second ∙ both))
      by (Some cause) e = at (is_never plan i j) refl
        where
          at : (b : Bool) → is_never plan i j ≡ b → is_never plan i j ≡ true
          at true h = h
          at false h = let none = sym e ∙ refused ∙ ap (λ (b : Bool). if b then Some Twice else None) h in absurd cc

  -- the names are those of the controllers with these numbers
  abbrev pub Named : ℕ → ℕ → Type 0
  Named i j = (number_of pair.0 plan.controllers ≡ Some i) × (number_of pair.1 plan.controllers ≡ Some j)

  pair_from : (i j : ℕ) → is_never (with_pair plan pair) i j ≡ true → (is_never plan i j ≡ true) ⊎ (Named i j ⊎ Named j i)
  unfolding with_never
  pair_from i j h = by (never_refusal plan pair.0 pair.1) refl h
    where
      by : (o : Option BuildError) → never_refusal plan pair.0 pair.1 ≡ o → is_never (if is_some o then plan else with_never plan pair.0 pair.1) i j ≡ true → (is_never plan i j ≡ true) ⊎ (Named i j ⊎ Named j i)
      by (Some cause) e g = inl g
      by None e g = cases (or_either (list_any (names_both i j) plan.nevers) _ (sym (list_any-append (names_both i j) plan.nevers ((controller_number plan pair.0, controller_number plan pair.1) ∷ [])) ∙ g))
        where
          allowed : NeverAllowed plan pair.0 pair.1
          allowed = never_allowed plan pair.0 pair.1 e

          c_is : controller_number plan pair.0 ≡ allowed.c
          c_is = ap (λ (o : Option ℕ). unwrap_or o 0) allowed.at_first

          d_is : controller_number plan pair.1 ≡ allowed.d
          d_is = ap (λ (o : Option ℕ). unwrap_or o 0) allowed.at_second

          named : (a b : ℕ) → ((controller_number plan pair.0 == a) && (controller_number plan pair.1 == b)) ≡ true → Named a b
          named a b k =
              let parts = and_parts (controller_number plan pair.0 == a) (controller_number plan pair.1 == b) k in
              (allowed.at_first ∙ ap (λ (n : ℕ). Some n) (sym c_is ∙ eqb-true _ a parts.0), allowed.at_second ∙ ap (λ (n : ℕ). Some n) (sym d_is ∙ eqb-true _ b parts.1))

          last : (controller_number plan pair.0 == i && controller_number plan pair.1 == j) ≡ true ⊎ (controller_number plan pair.0 == j && controller_number plan pair.1 == i) ≡ true → Named i j ⊎ Named j i
          last e = grind (arith, common_steps, named)

          drop_false : (b : Bool) → (b || false) ≡ true → b ≡ true
          drop_false b e = grind (arith, common_steps)

          cases : (list_any (names_both i j) plan.nevers ≡ true) ⊎ ((names_both i j (controller_number plan pair.0, controller_number plan pair.1) || false) ≡ true) → (is_never plan i j ≡ true) ⊎ (Named i j ⊎ Named j i)
          cases e = grind (arith, common_steps, last, or_either, drop_false)

pub pairs_controllers : (pairs : List (List ℕ × List ℕ)) (plan : Contents) → (with_pairs plan pairs).controllers ≡ plan.controllers
pairs_controllers [] plan = refl
pairs_controllers (p ∷ pairs) plan = pairs_controllers pairs (with_pair plan p) ∙ pair_controllers plan p

pub pairs_messages : (pairs : List (List ℕ × List ℕ)) (plan : Contents) → (with_pairs plan pairs).messages ≡ plan.messages
pairs_messages [] plan = refl
pairs_messages (p ∷ pairs) plan = pairs_messages pairs (with_pair plan p) ∙ pair_messages plan p

pairs_kept : (pairs : List (List ℕ × List ℕ)) (plan : Contents) (i j : ℕ) → is_never plan i j ≡ true → is_never (with_pairs plan pairs) i j ≡ true
pairs_kept [] plan i j h = h
pairs_kept (p ∷ pairs) plan i j h = pairs_kept pairs (with_pair plan p) i j (pair_kept plan p i j h)

pub pairs_added : (pairs : List (List ℕ × List ℕ)) (plan : Contents) (a b : List ℕ) (i j : ℕ) → In (two a b) pairs → number_of a plan.controllers ≡ Some i → number_of b plan.controllers ≡ Some j → (i ≡ j → ⊥)
    → is_never (with_pairs plan pairs) i j ≡ true
pairs_added [] plan a b i j h first second differ = absurd h
pairs_added (p ∷ pairs) plan a b i j (inl e) first second differ = grind (arith, common_steps, pairs_kept, pair_added)
pairs_added (p ∷ pairs) plan a b i j (inr h) first second differ = grind (arith, common_steps, pair_controllers, (pairs_added pairs (with_pair plan p) a b i j h))

-- a pair with these names
abbrev pub Asked : Contents → List (List ℕ × List ℕ) → ℕ → ℕ → Type 0
Asked plan pairs i j = (pair : List ℕ × List ℕ) × In pair pairs × (Named plan pair i j ⊎ Named plan pair j i)

pub pairs_from : (pairs : List (List ℕ × List ℕ)) (plan : Contents) (i j : ℕ) → is_never (with_pairs plan pairs) i j ≡ true → (is_never plan i j ≡ true) ⊎ Asked plan pairs i j
pairs_from [] plan i j h = inl h
pairs_from (p ∷ pairs) plan i j h = grind (arith, common_steps, pair_controllers, pair_from, (pairs_from pairs (with_pair plan p) i j h))

pub never_turned : (plan : Contents) (i j : ℕ) → is_never plan i j ≡ is_never plan j i
never_turned plan i j = grind (arith, common_steps)

-- ---- participants

pub record SendingAt (cs : List (List ℕ × List ℕ)) (c k : ℕ) : Type 0 where
  pub entry : List ℕ × List ℕ
  pub at : slice_get cs c ≡ Some entry
  pub sends : In k entry.1

from_sendings : (a : ℕ) (cs : List (List ℕ × List ℕ)) (c k : ℕ) → In (Sending c k) (sendings_from a cs) → (j : ℕ) × (c ≡ a + j) × SendingAt cs j k
from_sendings a [] c k h = absurd h
from_sendings a (e ∷ cs) c k h = by (in_either (Sending c k) (map (Sending a) e.1) (sendings_from (a + 1) cs) h) (from_sendings (a + 1) cs c k)
  where
    by : In (Sending c k) (map (Sending a) e.1) ⊎ In (Sending c k) (sendings_from (a + 1) cs) → (In (Sending c k) (sendings_from (a + 1) cs) → (j : ℕ) × (c ≡ a + 1 + j) × SendingAt cs j k)
        → (j : ℕ) × (c ≡ a + j) × SendingAt (e ∷ cs) j k
    by (inl here) later =
        let f = from_map (Sending a) e.1 (Sending c k) here in
        let one : c ≡ a = cc in
        let other : k ≡ f.0 = cc in
        (0, omega (arith, one), record { entry = e; at = refl; sends = subst (λ (n : ℕ). In n e.1) (sym other) f.1 })
    by (inr there) later =
        let r = later there in
        (suc r.0, omega (arith, r.1), record { entry = r.2.entry; at = r.2.at; sends = r.2.sends })

pub sending_at : (plan : Contents) (p c k : ℕ) → slice_get (participants_of plan) p ≡ Some (Sending c k) → SendingAt plan.controllers c k
sending_at plan p c k at = by (in_either (Sending c k) (sendings_from 0 plan.controllers) (map Interrupt (range_with_len 0 (length plan.interrupts))) (slice_in (participants_of plan) p (Sending c k) at))
  where
    by : In (Sending c k) (sendings_from 0 plan.controllers) ⊎ In (Sending c k) (map Interrupt (range_with_len 0 (length plan.interrupts))) → SendingAt plan.controllers c k
    by (inl h) =
        let f = from_sendings 0 plan.controllers c k h in
        let same : f.0 ≡ c = omega (arith, f.1) in
        subst (λ (n : ℕ). SendingAt plan.controllers n k) same f.2
    by (inr h) = let f = from_map Interrupt (range_with_len 0 (length plan.interrupts)) (Sending c k) h in let none : Sending c k ≡ Interrupt f.0 = f.2 in absurd cc

pub from_numbers : (messages : List (List ℕ × FrameTree)) (names : List (List ℕ)) (k : ℕ) → In k (filter_map (λ name. number_of name messages) names) → (name : List ℕ) × In name names × (number_of name messages ≡ Some k)
from_numbers messages [] k h = absurd h
from_numbers messages (n ∷ names) k h = grind (arith, common_steps, (from_numbers messages names k))

-- ---- the plan is within the limits, and a builder refuses none of its controllers

controller_free : (plan : Contents) (name : List ℕ) → number_of name plan.controllers ≡ None → length plan.controllers < MOST_CONTROLLERS → controller_name_refusal plan name ≡ None
unfolding controller_name_refusal
controller_free plan name new few = rw (new, lt-leb MOST_CONTROLLERS (length plan.controllers) few) refl

list_free : (plan : Contents) (before names : List (List ℕ)) → ((m : List ℕ) → In m names → In m (keys_of plan.messages)) → Distinct names → ((m : List ℕ) → In m before → In m names → ⊥)
    → sending_count plan.controllers + length before + length names ≤ MOST_SENDINGS → list_refusal plan before names ≡ None
list_free plan before [] known once apart room = refl
list_free plan before (n ∷ names) known once apart room =
    let has = in_has_name n plan.messages (known n (inl refl)) in
    let new = is_false (holds n before) (λ h. apart n (holds_in n before h) (inl refl)) in
    let few = lt-leb MOST_SENDINGS (sending_count plan.controllers + length before) (omega (arith, room)) in
    let size = length_push before n in
    rw (has, new, few) (list_free plan (before ++ n ∷ []) names (λ m h. known m (inr h)) once.1 still (omega (arith, size, room)))
  where
    still : (m : List ℕ) → In m (before ++ n ∷ []) → In m names → ⊥
    still m h g = by (in_either m before (n ∷ []) h)
      where
        by : In m before ⊎ In m (n ∷ []) → ⊥
        by e = grind (arith, common_steps)

parts_fit : (ps : List Part) (plan : Contents) → IsWithinLimits plan → Distinct (map part_name ps) → ((p : Part) → In p ps → IsName (part_name p)) → ((p : Part) → In p ps → ListSound plan.messages p.messages)
    → ((p : Part) → In p ps → In (part_name p) (keys_of plan.controllers) → ⊥) → length plan.controllers + length ps ≤ MOST_CONTROLLERS
    → sending_count plan.controllers + sum_by (λ (p : Part). length p.messages) ps ≤ MOST_SENDINGS → NoneIsRefused plan ps × IsWithinLimits (with_parts plan ps)
unfolding with_sender
parts_fit [] plan limits once named listed new few room = (tt, limits)
parts_fit (p ∷ ps) plan limits once named listed new few room =
    let n = part_name p in
    let numbers = numbers_of plan p.messages in
    let one = listed p (inl refl) in
    let total = sum_by-cons (λ (q : Part). length q.messages) p ps in
    let names = list_free plan [] p.messages one.known one.once (λ m h g. h) (omega (arith, room, total)) in
    let fits = controller_fits plan n p.messages (controller_free plan n (number_none n plan.controllers (new p (inl refl))) (omega (arith, few))) names in
    let next = limits-controller plan n p.messages limits (named p (inl refl)) fits in
    let size = length_push plan.controllers (n, numbers) in
    let sent = sum_by_push (λ (c : List ℕ × List ℕ). length c.1) plan.controllers (n, numbers) in
    let less = length-numbers_of plan p.messages in
    let rest = parts_fit ps (with_controller plan n p.messages) next once.1 (λ q h. named q (inr h)) (λ q h. record { once = (listed q (inr h)).once; known = (listed q (inr h)).known }) later (omega (arith, size, few)) (omega (arith, sent, less, room, total)) in
    ((fits, rest.0), rest.1)
  where
    later : (q : Part) → In q ps → In (part_name q) (keys_of (with_controller plan (part_name p) p.messages).controllers) → ⊥
    later q h g = by (in_keys_either (part_name q) plan.controllers ((part_name p, numbers_of plan p.messages) ∷ []) g)
      where
        by : In (part_name q) (keys_of plan.controllers) ⊎ In (part_name q) (part_name p ∷ []) → ⊥
        by (inl a) = new q (inr h) a
        by (inr (inl e)) = once.0 (subst (λ (x : List ℕ). In x (map part_name ps)) e (there ps h))
          where
            there : (qs : List Part) → In q qs → In (part_name q) (map part_name qs)
            there [] k = k
            there (r ∷ qs) (inl same) = inl (ap part_name same)
            there (r ∷ qs) (inr k) = inr (there qs k)
        by (inr (inr b)) = b

pub pairs_fit : (pairs : List (List ℕ × List ℕ)) (plan : Contents) → IsWithinLimits plan → IsWithinLimits (with_pairs plan pairs)
pairs_fit [] plan limits = limits
pairs_fit (p ∷ pairs) plan limits = grind (arith, common_steps, limits-never, (pairs_fit pairs (with_pair plan p)))

module _ (draft : Draft) (sound : Sound draft) where
  pub parts_added : NoneIsRefused draft.plan (parts draft) × IsWithinLimits (with_parts draft.plan (parts draft))
  parts_added =
      let none = sound.no_controllers in
      let size = ap length none in
      let sent = ap sending_count none in
      let sums = part_sums draft sound in
      parts_fit (parts draft) draft.plan sound.limits (part_names_once draft sound) (part_named draft sound) (part_listed draft sound)
      (λ p h g. subst (λ (cs : List (List ℕ × List ℕ)). In (part_name p) (keys_of cs)) none g)
      (omega (arith, size, sound.few_parts)) (omega (arith, sent, sums, sound.controllers.few))

  pub meant_within : IsWithinLimits (plan_meant draft)
  unfolding plan_meant
  meant_within = pairs_fit (pairs_apart draft) (with_parts draft.plan (parts draft)) parts_added.1
