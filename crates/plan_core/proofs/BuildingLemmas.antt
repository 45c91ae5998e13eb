-- What a call of a builder leaves within the limits.
use Rattle.std.proofs.Common.{◌≡◌, ◌≢◌, ◌⊎◌, inl, inr, ℕ, zero, suc, ◌+◌, ◌<◌, ◌≤◌, ◌||◌, Bool, true, false, not, cond, List, [], ◌∷◌, ◌++◌, length, get_or, position, Option, Some, None, is_some, unwrap_or, Result, Ok, Err, refl, sym, ◌∙◌, ap, subst, arith, true≢false}
use Rattle.std.specs.Prelude.{nat_lt, nat_le, if◌then◌else◌, All, AllPairs}
use Rattle.std.specs.List.{list_any, cons_option, position_or_len}
use Rattle.std.specs.Map.{keys_of}
use Rattle.std.specs.Result.{OnOk, OnErr}
use Rattle.std.specs.Str.{bytes_eq}
use Rattle.std.proofs.lemmas.Bool.{leb-false, ltb-false, le-ltb, or_cases, cases_Bool}
use Rattle.std.proofs.lemmas.Bool.Decides.{nat_tests}
use Rattle.std.proofs.lemmas.List.{length_push, length-map, map_push}
use Rattle.std.proofs.lemmas.List.Elements.{All-push, All-nil, All-cons}
use Rattle.std.proofs.lemmas.List.Kept.{AllPairs-cons}
use Rattle.std.proofs.lemmas.List.Quantifiers.{all_pairs_push, position-Some}
use Rattle.std.proofs.lemmas.List.Sums.{fails_before_first, sum_by_push}
use Rattle.std.proofs.lemmas.Slice.Eq.{bytes_eq-Decides}
use Rattle.message_tree.specs.Sizes.{frame_bytes, frame_nodes}
use Rattle.message_tree.specs.Trees.{FrameTree}
use Rattle.plan_core.specs.Building.{RefusesExactly, or_else, number_of, has_name, message_name_refusal, size_refusal, controller_name_refusal, message_refusal, with_message, interrupt_refusal, with_interrupt, controller_refusal, with_controller, with_sender, list_refusal, numbers_of, never_refusal, with_never, two_refusal, controller_number}
use Rattle.plan_core.specs.declared.limits.TheConstants.{MOST_MESSAGES, MOST_CONTROLLERS, MOST_INTERRUPTS, MOST_SENDINGS, MOST_BYTES, MOST_NODES, ADDRESSES}
use Rattle.plan_core.specs.Contents.{Contents}
use Rattle.plan_core.specs.Limits.{AreNames, IsWithinLimits, sending_count}
use Rattle.plan_core.specs.Names.{IsName}
use Rattle.plan_core.specs.Participants.{is_never, names_both}
use Rattle.plan_core.specs.declared.builder.BuildError.{BuildError}
use Rattle.plan_core.specs.declared.builder.BuildError.TheVariants.{Twice, Unknown, TooMany, TooLong}

-- a refusal that is not due
pub passes : (b : Bool) (e : BuildError) (rest : Option BuildError) → (if b then Some e else rest) ≡ None → (b ≡ false) × (rest ≡ None)
passes true e rest h = cc
passes false e rest h = (refl, h)

pub none_from_is_some : {X : Type 0} (o : Option X) → is_some o ≡ false → o ≡ None
none_from_is_some None h = refl
none_from_is_some (Some x) h = absurd (true≢false h)

pub some_from_is_some : {X : Type 0} (o : Option X) → not (is_some o) ≡ false → (x : X) × (o ≡ Some x)
some_from_is_some None h = absurd (true≢false h)
some_from_is_some (Some x) h = (x, refl)

neither : (a b : Bool) → (a || b) ≡ false → (a ≡ false) × (b ≡ false)
neither true b h = absurd (true≢false h)
neither false b h = (refl, h)

-- where the position is `None`, no element passes
pub position-None : {X : Type 0} (p : X → Bool) (xs : List X) → position p xs ≡ None → (k : ℕ) (d : X) → k < length xs → p (get_or xs k d) ≡ false
position-None p xs none k d within = by (cases_Bool (nat_lt (position_or_len p xs) (length xs)))
  where
    by : (nat_lt (position_or_len p xs) (length xs) ≡ true) ⊎ (nat_lt (position_or_len p xs) (length xs) ≡ false) → p (get_or xs k d) ≡ false
    by (inl found) = absurd (let e : Some (position_or_len p xs) ≡ None = ap (λ b. cond b (Some (position_or_len p xs)) None) (sym found) ∙ none in cc)
    by (inr past) = fails_before_first p xs k d (omega (arith, ltb-false (position_or_len p xs) (length xs) past))

pub bytes_eq-same : (xs ys : List ℕ) → xs ≡ ys → bytes_eq xs ys ≡ true
bytes_eq-same xs ys same = (bytes_eq-Decides xs ys).1 same

pub same-bytes_eq : (xs ys : List ℕ) → bytes_eq xs ys ≡ true → xs ≡ ys
same-bytes_eq xs ys same = (bytes_eq-Decides xs ys).0 same

-- one name more
pub AreNames-push : (names : List (List ℕ)) (name : List ℕ) → AreNames names → IsName name → position (bytes_eq name) names ≡ None → AreNames (names ++ name ∷ [])
AreNames-push names name are is none = record {
  formed = All-push IsName names name are.formed is;
  distinct = all_pairs_push ◌≢◌ names name are.distinct (λ k d h same. true≢false (sym (bytes_eq-same name (get_or names k d) (sym same)) ∙ position-None (bytes_eq name) names none k d h));
}

AreNames-keys : {X : Type 0} (entries : List (List ℕ × X)) (name : List ℕ) (x : X) → AreNames (keys_of entries) → IsName name → number_of name entries ≡ None → AreNames (keys_of (entries ++ (name, x) ∷ []))
AreNames-keys entries name x are is none = subst AreNames (sym (map_push (λ e. e.0) entries (name, x))) (AreNames-push (keys_of entries) name are is none)

-- where neither refuses
or_else_none : (first later : Option BuildError) → or_else first later ≡ None → (first ≡ None) × (later ≡ None)
or_else_none (Some e) later h = absurd cc
or_else_none None later h = (refl, h)

pub message_name_allowed : (plan : Contents) (name : List ℕ) → message_name_refusal plan name ≡ None → (number_of name plan.messages ≡ None) × (length plan.messages < MOST_MESSAGES)
unfolding message_name_refusal
message_name_allowed plan name none =
    let first = passes (has_name name plan.messages) Twice _ none in
    let second = passes (nat_le MOST_MESSAGES (length plan.messages)) TooMany _ first.1 in
    (none_from_is_some (number_of name plan.messages) first.0, leb-false MOST_MESSAGES (length plan.messages) second.0)

pub size_allowed : (frame : FrameTree) → size_refusal frame ≡ None → (frame_bytes frame ≤ MOST_BYTES) × (frame_nodes frame ≤ MOST_NODES)
unfolding size_refusal
size_allowed frame none =
    let sizes = neither (nat_lt MOST_NODES (frame_nodes frame)) (nat_lt MOST_BYTES (frame_bytes frame)) (passes (nat_lt MOST_NODES (frame_nodes frame) || nat_lt MOST_BYTES (frame_bytes frame)) TooLong _ none).0 in
    (ltb-false MOST_BYTES (frame_bytes frame) sizes.1, ltb-false MOST_NODES (frame_nodes frame) sizes.0)

-- a frame within its bounds is not refused
pub size_fits : (frame : FrameTree) → frame_bytes frame ≤ MOST_BYTES → frame_nodes frame ≤ MOST_NODES → size_refusal frame ≡ None
unfolding size_refusal
size_fits frame bytes nodes = rw (le-ltb _ _ nodes, le-ltb _ _ bytes) refl

-- a message whose name and whose frame are not refused is not refused, and the other way round
pub message_fits : (plan : Contents) (name : List ℕ) (frame : FrameTree) → message_name_refusal plan name ≡ None → frame_bytes frame ≤ MOST_BYTES → frame_nodes frame ≤ MOST_NODES → message_refusal plan name frame ≡ None
unfolding message_refusal
message_fits plan name frame allowed bytes nodes = rw (allowed, size_fits frame bytes nodes) refl

pub message_parts : (plan : Contents) (name : List ℕ) (frame : FrameTree) → message_refusal plan name frame ≡ None → (message_name_refusal plan name ≡ None) × (size_refusal frame ≡ None)
unfolding message_refusal
message_parts plan name frame none = or_else_none (message_name_refusal plan name) (size_refusal frame) none

pub message_allowed : (plan : Contents) (name : List ℕ) (frame : FrameTree) → message_refusal plan name frame ≡ None → (number_of name plan.messages ≡ None) × (length plan.messages < MOST_MESSAGES) × (frame_bytes frame ≤ MOST_BYTES) × (frame_nodes frame ≤ MOST_NODES)
message_allowed plan name frame none =
    let parts = message_parts plan name frame none in
    let named = message_name_allowed plan name parts.0 in
    let sized = size_allowed frame parts.1 in
    (named.0, named.1, sized.0, sized.1)

pub limits-message : (plan : Contents) (name : List ℕ) (frame : FrameTree) → IsWithinLimits plan → IsName name → message_refusal plan name frame ≡ None → IsWithinLimits (with_message plan name frame)
unfolding with_message
limits-message plan name frame limits is none =
    let allowed = message_allowed plan name frame none in
    let size = length_push plan.messages (name, frame) in
    record {
      messages = record {
        names = AreNames-keys plan.messages name frame limits.messages.names is allowed.0;
        count = omega (arith, size, allowed.1);
        bytes = All-push (λ (m : List ℕ × FrameTree). frame_bytes m.1 ≤ MOST_BYTES) plan.messages (name, frame) limits.messages.bytes allowed.2;
        nodes = All-push (λ (m : List ℕ × FrameTree). frame_nodes m.1 ≤ MOST_NODES) plan.messages (name, frame) limits.messages.nodes allowed.3;
      };
      controllers = record {
        names = limits.controllers.names;
        count = limits.controllers.count;
        sendings = limits.controllers.sendings;
        known = λ c d h k e g. omega (arith, size, limits.controllers.known c d h k e g);
        once = limits.controllers.once;
      };
      interrupts = limits.interrupts;
      nevers = limits.nevers;
    }

pub interrupt_allowed : (plan : Contents) (name : List ℕ) → interrupt_refusal plan name ≡ None → (number_of name plan.interrupts ≡ None) × (length plan.interrupts < MOST_INTERRUPTS)
unfolding interrupt_refusal
interrupt_allowed plan name none =
    let first = passes (has_name name plan.interrupts) Twice _ none in
    let second = passes (nat_le MOST_INTERRUPTS (length plan.interrupts)) TooMany _ first.1 in
    (none_from_is_some (number_of name plan.interrupts) first.0, leb-false MOST_INTERRUPTS (length plan.interrupts) second.0)

pub limits-interrupt : (plan : Contents) (name : List ℕ) (address : ℕ) → IsWithinLimits plan → IsName name → address < ADDRESSES → interrupt_refusal plan name ≡ None → IsWithinLimits (with_interrupt plan name address)
unfolding with_interrupt
limits-interrupt plan name address limits is small none =
    let allowed = interrupt_allowed plan name none in
    let size = length_push plan.interrupts (name, address) in
    record {
      messages = limits.messages;
      controllers = limits.controllers;
      interrupts = record {
        names = AreNames-keys plan.interrupts name address limits.interrupts.names is allowed.0;
        count = omega (arith, size, allowed.1);
        addresses = All-push (λ (t : List ℕ × ℕ). t.1 < ADDRESSES) plan.interrupts (name, address) limits.interrupts.addresses small;
      };
      nevers = limits.nevers;
    }

-- the call that answers a refusal
pub RefusesExactly-due : (T : Type 0) (due : Option BuildError) (e : BuildError) → due ≡ Some e → RefusesExactly {T = T} due (Err e)
RefusesExactly-due T due e is = subst (λ d. RefusesExactly {T = T} d (Err e)) (sym is) refl

-- what holds in both outcomes
pub either : {T E P Q : Type 0} (r : Result T E) → OnOk r P → OnErr r Q → P ⊎ Q
either (Ok x) p q = inl p
either (Err e) p q = inr q

-- a controller whose name and whose list are not refused is not refused, and the other way round
pub controller_fits : (plan : Contents) (name : List ℕ) (names : List (List ℕ)) → controller_name_refusal plan name ≡ None → list_refusal plan [] names ≡ None → controller_refusal plan name names ≡ None
unfolding controller_refusal
controller_fits plan name names allowed known = rw (allowed, known) refl

pub controller_parts : (plan : Contents) (name : List ℕ) (names : List (List ℕ)) → controller_refusal plan name names ≡ None → (controller_name_refusal plan name ≡ None) × (list_refusal plan [] names ≡ None)
unfolding controller_refusal
controller_parts plan name names none = or_else_none (controller_name_refusal plan name) (list_refusal plan [] names) none

controller_name_allowed : (plan : Contents) (name : List ℕ) → controller_name_refusal plan name ≡ None → (number_of name plan.controllers ≡ None) × (length plan.controllers < MOST_CONTROLLERS)
unfolding controller_name_refusal
controller_name_allowed plan name none =
    let first = passes (has_name name plan.controllers) Twice _ none in
    let second = passes (nat_le MOST_CONTROLLERS (length plan.controllers)) TooMany _ first.1 in
    (none_from_is_some (number_of name plan.controllers) first.0, leb-false MOST_CONTROLLERS (length plan.controllers) second.0)

pub controller_allowed : (plan : Contents) (name : List ℕ) (names : List (List ℕ)) → controller_refusal plan name names ≡ None → (number_of name plan.controllers ≡ None) × (length plan.controllers < MOST_CONTROLLERS) × (list_refusal plan [] names ≡ None)
controller_allowed plan name names none =
    let parts = controller_parts plan name names none in
    let named = controller_name_allowed plan name parts.0 in
    (named.0, named.1, parts.1)

-- what one name of a list is allowed by
pub name_allowed : (plan : Contents) (before : List (List ℕ)) (name : List ℕ) (names : List (List ℕ)) → list_refusal plan before (name ∷ names) ≡ None → ((k : ℕ) × (number_of name plan.messages ≡ Some k)) × (list_any (λ other. bytes_eq other name) before ≡ false) × (sending_count plan.controllers + length before < MOST_SENDINGS) × (list_refusal plan (before ++ name ∷ []) names ≡ None)
name_allowed plan before name names none =
    let first = passes (not (has_name name plan.messages)) Unknown _ none in
    let second = passes (list_any (λ other. bytes_eq other name) before) Twice _ first.1 in
    let third = passes (nat_le MOST_SENDINGS (sending_count plan.controllers + length before)) TooMany _ second.1 in
    (some_from_is_some (number_of name plan.messages) first.0, second.0, leb-false MOST_SENDINGS (sending_count plan.controllers + length before) third.0, third.1)

-- the sendings fit
pub list_fits : (plan : Contents) (before names : List (List ℕ)) → list_refusal plan before names ≡ None → sending_count plan.controllers + length before ≤ MOST_SENDINGS → sending_count plan.controllers + length before + length names ≤ MOST_SENDINGS
list_fits plan before [] none fits = omega (arith, fits)
list_fits plan before (name ∷ names) none fits =
    let allowed = name_allowed plan before name names none in
    let size = length_push before name in
    omega (arith, size, list_fits plan (before ++ name ∷ []) names allowed.3 (omega (arith, size, allowed.2)))

length-cons_option : {X : Type 0} (o : Option X) (xs : List X) → length (cons_option o xs) ≤ length xs + 1
length-cons_option None xs = omega arith
length-cons_option (Some x) xs = omega arith

pub length-numbers_of : (plan : Contents) (names : List (List ℕ)) → length (numbers_of plan names) ≤ length names
length-numbers_of plan [] = omega arith
length-numbers_of plan (name ∷ names) = omega (arith, length-numbers_of plan names, length-cons_option (number_of name plan.messages) (numbers_of plan names))

-- each number is that of a message
pub numbers_known : (plan : Contents) (names : List (List ℕ)) → All (λ k. k < length plan.messages) (numbers_of plan names)
numbers_known plan [] = All-nil (λ k. k < length plan.messages)
numbers_known plan (name ∷ names) = by (number_of name plan.messages) refl (numbers_known plan names)
  where
    by : (o : Option ℕ) → number_of name plan.messages ≡ o → All (λ k. k < length plan.messages) (numbers_of plan names) → All (λ k. k < length plan.messages) (cons_option (number_of name plan.messages) (numbers_of plan names))
    by None is rest = subst (λ o. All (λ k. k < length plan.messages) (cons_option o (numbers_of plan names))) (sym is) rest
    by (Some k) is rest =
        let found = position-Some (bytes_eq name) (keys_of plan.messages) k [] is in
        let within : k < length plan.messages = omega (arith, found.0, length-map {B = List ℕ} plan.messages (λ e. e.0)) in
        subst (λ o. All (λ k. k < length plan.messages) (cons_option o (numbers_of plan names))) (sym is) (All-cons (λ k. k < length plan.messages) k (numbers_of plan names) within rest)

-- two names with one number are one name
pub number_of-same : {X : Type 0} (entries : List (List ℕ × X)) (x y : List ℕ) (k : ℕ) → number_of x entries ≡ Some k → number_of y entries ≡ Some k → x ≡ y
number_of-same entries x y k at_x at_y =
    let first = position-Some (bytes_eq x) (keys_of entries) k [] at_x in
    let second = position-Some (bytes_eq y) (keys_of entries) k [] at_y in
    same-bytes_eq x (get_or (keys_of entries) k []) first.1 ∙ sym (same-bytes_eq y (get_or (keys_of entries) k []) second.1)

-- a name that is among others
Among : List ℕ → List (List ℕ) → Type 0
Among name names = list_any (bytes_eq name) names ≡ true

Among-left : (name : List ℕ) (xs ys : List (List ℕ)) → Among name xs → Among name (xs ++ ys)
unfolding Among
Among-left name [] ys among = absurd (true≢false (sym among))
Among-left name (x ∷ xs) ys among = by (or_cases (bytes_eq name x) (list_any (bytes_eq name) xs) among) (Among-left name xs ys)
  where
    by : (bytes_eq name x ≡ true) ⊎ (list_any (bytes_eq name) xs ≡ true) → (list_any (bytes_eq name) xs ≡ true → list_any (bytes_eq name) (xs ++ ys) ≡ true) → (bytes_eq name x || list_any (bytes_eq name) (xs ++ ys)) ≡ true
    by (inl here) rest = ap (λ b. b || list_any (bytes_eq name) (xs ++ ys)) here
    by (inr later) rest = ap (λ b. bytes_eq name x || b) (rest later) ∙ or_true (bytes_eq name x)
      where
        or_true : (b : Bool) → (b || true) ≡ true
        or_true true = refl
        or_true false = refl

Among-last : (name : List ℕ) (xs : List (List ℕ)) → Among name (xs ++ name ∷ [])
unfolding Among
Among-last name [] = ap (λ b. b || false) (bytes_eq-same name name refl)
Among-last name (x ∷ xs) = ap (λ b. bytes_eq name x || b) (Among-last name xs) ∙ or_true (bytes_eq name x)
  where
    or_true : (b : Bool) → (b || true) ≡ true
    or_true true = refl
    or_true false = refl

-- a name that differs from all of those differs from it
Among-differs : (x name : List ℕ) (before : List (List ℕ)) → Among x before → list_any (λ other. bytes_eq other name) before ≡ false → x ≢ name
unfolding Among
Among-differs x name [] among none same = absurd (true≢false (sym among))
Among-differs x name (b ∷ before) among none same = by (or_cases (bytes_eq x b) (list_any (bytes_eq x) before) among) (neither (bytes_eq b name) (list_any (λ other. bytes_eq other name) before) none) (λ later rest. Among-differs x name before later rest same)
  where
    by : (bytes_eq x b ≡ true) ⊎ (list_any (bytes_eq x) before ≡ true) → (bytes_eq b name ≡ false) × (list_any (λ other. bytes_eq other name) before ≡ false) → (list_any (bytes_eq x) before ≡ true → list_any (λ other. bytes_eq other name) before ≡ false → ⊥) → ⊥
    by (inl here) differ rest = true≢false (sym (bytes_eq-same b name (sym (same-bytes_eq x b here) ∙ same)) ∙ differ.0)
    by (inr later) differ rest = rest later differ.1

-- a name's number does not come again
numbers_differ : (plan : Contents) (x : List ℕ) (k : ℕ) → number_of x plan.messages ≡ Some k → (before names : List (List ℕ)) → Among x before → list_refusal plan before names ≡ None → All (λ j. k ≢ j) (numbers_of plan names)
numbers_differ plan x k at before [] among none = All-nil (λ j. k ≢ j)
numbers_differ plan x k at before (name ∷ names) among none =
    let allowed = name_allowed plan before name names none in
    let rest = numbers_differ plan x k at (before ++ name ∷ []) names (Among-left x before (name ∷ []) among) allowed.3 in
    let j = allowed.0.0 in
    let fresh : k ≢ j = λ same. Among-differs x name before among allowed.1 (number_of-same plan.messages x name k at (allowed.0.1 ∙ ap Some (sym same))) in
    subst (λ o. All (λ j. k ≢ j) (cons_option o (numbers_of plan names))) (sym allowed.0.1) (All-cons (λ j. k ≢ j) j (numbers_of plan names) fresh rest)

-- so no number comes twice
pub numbers_once : (plan : Contents) (before names : List (List ℕ)) → list_refusal plan before names ≡ None → AllPairs ◌≢◌ (numbers_of plan names)
numbers_once plan before [] none = λ i j d lt h. absurd (omega (arith, h))
numbers_once plan before (name ∷ names) none =
    let allowed = name_allowed plan before name names none in
    let rest = numbers_once plan (before ++ name ∷ []) names allowed.3 in
    let k = allowed.0.0 in
    subst (λ o. AllPairs ◌≢◌ (cons_option o (numbers_of plan names))) (sym allowed.0.1)
    (AllPairs-cons ◌≢◌ k (numbers_of plan names) (numbers_differ plan name k allowed.0.1 (before ++ name ∷ []) names (Among-last name before) allowed.3) rest)

pub limits-controller : (plan : Contents) (name : List ℕ) (names : List (List ℕ)) → IsWithinLimits plan → IsName name → controller_refusal plan name names ≡ None → IsWithinLimits (with_controller plan name names)
unfolding with_sender
limits-controller plan name names limits is none =
    let allowed = controller_allowed plan name names none in
    let numbers = numbers_of plan names in
    let size = length_push plan.controllers (name, numbers) in
    let sendings = sum_by_push (λ (c : List ℕ × List ℕ). length c.1) plan.controllers (name, numbers) in
    let fits = list_fits plan [] names allowed.2 (omega (arith, limits.controllers.sendings)) in
    record {
      messages = limits.messages;
      controllers = record {
        names = AreNames-keys plan.controllers name numbers limits.controllers.names is allowed.0;
        count = omega (arith, size, allowed.1);
        sendings = omega (arith, sendings, fits, length-numbers_of plan names);
        known = All-push (λ (c : List ℕ × List ℕ). All (λ k. k < length plan.messages) c.1) plan.controllers (name, numbers) limits.controllers.known (numbers_known plan names);
        once = All-push (λ (c : List ℕ × List ℕ). AllPairs ◌≢◌ c.1) plan.controllers (name, numbers) limits.controllers.once (numbers_once plan [] names allowed.2);
      };
      interrupts = limits.interrupts;
      nevers = record {
        known = λ n d h. (omega (arith, size, (limits.nevers.known n d h).0), omega (arith, size, (limits.nevers.known n d h).1));
        two = limits.nevers.two;
        once = limits.nevers.once;
      };
    }

-- why a `never` is allowed
pub record NeverAllowed (plan : Contents) (first second : List ℕ) : Type 0 where
  pub c : ℕ
  pub d : ℕ
  pub at_first : number_of first plan.controllers ≡ Some c
  pub at_second : number_of second plan.controllers ≡ Some d
  pub two : c ≢ d
  pub new : is_never plan c d ≡ false

pub never_allowed : (plan : Contents) (first second : List ℕ) → never_refusal plan first second ≡ None → NeverAllowed plan first second
unfolding never_refusal
never_allowed plan first second none = by (number_of first plan.controllers) (bytes_eq first second) (number_of second plan.controllers) refl refl refl none
  where
    by : (o : Option ℕ) (same : Bool) (p : Option ℕ) → number_of first plan.controllers ≡ o → bytes_eq first second ≡ same → number_of second plan.controllers ≡ p → two_refusal plan o same p ≡ None → NeverAllowed plan first second
    by None same p at_first is at_second none = cc
    by (Some c) true p at_first is at_second none = cc
    by (Some c) false None at_first is at_second none = cc
    by (Some c) false (Some d) at_first is at_second none = record {
      c = c;
      d = d;
      at_first = at_first;
      at_second = at_second;
      two = λ one. true≢false (sym (bytes_eq-same first second (number_of-same plan.controllers first second c at_first (at_second ∙ ap Some (sym one)))) ∙ is);
      new = (passes (is_never plan c d) Twice None none).0;
    }

number_within : {X : Type 0} (name : List ℕ) (entries : List (List ℕ × X)) (k : ℕ) → number_of name entries ≡ Some k → k < length entries
number_within name entries k at = omega (arith, (position-Some (bytes_eq name) (keys_of entries) k [] at).0, length-map {B = List ℕ} entries (λ e. e.0))

none_names : (c d : ℕ) (nevers : List (ℕ × ℕ)) → list_any (names_both c d) nevers ≡ false → (k : ℕ) (e : ℕ × ℕ) → k < length nevers → names_both c d (get_or nevers k e) ≡ false
none_names c d [] none k e h = absurd (omega (arith, h))
none_names c d (n ∷ nevers) none zero e h = (neither (names_both c d n) (list_any (names_both c d) nevers) none).0
none_names c d (n ∷ nevers) none (suc k) e h = none_names c d nevers (neither (names_both c d n) (list_any (names_both c d) nevers) none).1 k e (omega (arith, h))

names_both-turned : (c d a b : ℕ) → names_both c d (a, b) ≡ false → names_both a b (c, d) ≡ false
names_both-turned c d a b h = grind (arith, nat_tests)

pub limits-never : (plan : Contents) (first second : List ℕ) → IsWithinLimits plan → never_refusal plan first second ≡ None → IsWithinLimits (with_never plan first second)
unfolding with_never
limits-never plan first second limits none =
    let allowed = never_allowed plan first second none in
    let never : ℕ × ℕ = (controller_number plan first, controller_number plan second) in
    let is_c : controller_number plan first ≡ allowed.c = ap (λ o. unwrap_or o 0) allowed.at_first in
    let is_d : controller_number plan second ≡ allowed.d = ap (λ o. unwrap_or o 0) allowed.at_second in
    record {
      messages = limits.messages;
      controllers = limits.controllers;
      interrupts = limits.interrupts;
      nevers = record {
        known = All-push (λ (n : ℕ × ℕ). (n.0 < length plan.controllers) × (n.1 < length plan.controllers)) plan.nevers never limits.nevers.known
            (omega (arith, is_c, number_within first plan.controllers allowed.c allowed.at_first), omega (arith, is_d, number_within second plan.controllers allowed.d allowed.at_second));
        two = All-push (λ (n : ℕ × ℕ). n.0 ≢ n.1) plan.nevers never limits.nevers.two (λ same. allowed.two (sym is_c ∙ same ∙ is_d));
        once = all_pairs_push (λ (m n : ℕ × ℕ). names_both m.0 m.1 n ≡ false) plan.nevers never limits.nevers.once
            (λ k e h. names_both-turned (controller_number plan first) (controller_number plan second) (get_or plan.nevers k e).0 (get_or plan.nevers k e).1
            (ap (λ c. names_both c (controller_number plan second) (get_or plan.nevers k e)) is_c ∙ ap (λ d. names_both allowed.c d (get_or plan.nevers k e)) is_d ∙ none_names allowed.c allowed.d plan.nevers allowed.new k e h));
      };
    }
