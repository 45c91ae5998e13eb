-- The items of a canonical spelling fit the plan one after the other.
use Rattle.std.proofs.Common.{◌≡◌, ◌≢◌, ◌<◌, ◌≤◌, ◌+◌, ℕ, Bool, true, false, not, cond, List, [], ◌∷◌, ◌++◌, length, get_or, map, position, Option, Some, None, is_some, unwrap_or, refl, ap, sym, ◌∙◌, subst, arith, append_assoc, length-append}
use Rattle.std.specs.Prelude.{All, AllPairs, nat_lt, nat_le, if◌then◌else◌}
use Rattle.std.specs.List.{list_any, cons_option, position_or_len}
use Rattle.std.specs.Map.{keys_of}
use Rattle.std.specs.Str.{bytes_eq}
use Rattle.std.proofs.lemmas.Bool.{false_from_ne_true, lt-leb, lt-ltb, le-ltb}
use Rattle.std.proofs.lemmas.List.Folds.{list_any_none}
use Rattle.std.proofs.lemmas.List.{get_or_at, get_or_append_left, length-map, map-append}
use Rattle.std.proofs.lemmas.Bool.Decides.{nat_tests}
use Rattle.std.proofs.lemmas.List.Elements.{All-head, All-tail, All-map}
use Rattle.std.proofs.lemmas.List.Sums.{position_or_len_is, sum_by-append, sum_by-cons}
use Rattle.message_tree.specs.Sizes.{frame_bytes, frame_nodes}
use Rattle.message_tree.specs.Trees.{FrameTree}
use Rattle.plan_core.proofs.BuildingLemmas as building
use Rattle.plan_core.proofs.BuildingLemmas.{bytes_eq-same, same-bytes_eq}
use Rattle.plan_core.specs.declared.limits.TheConstants.{MOST_MESSAGES, MOST_CONTROLLERS, MOST_BYTES, MOST_NODES}
use Rattle.plan_core.specs.Building.{number_of, has_name, message_name_refusal, message_refusal, with_message, controller_name_refusal, controller_refusal, list_refusal, numbers_of, with_controller, with_sender, interrupt_refusal, with_interrupt, never_refusal, with_never}
use Rattle.plan_core.specs.Contents.{Contents}
use Rattle.plan_core.specs.Labels.{name_at}
use Rattle.plan_core.specs.Limits.{AreNames, IsWithinLimits, sending_count}
use Rattle.plan_core.specs.Names.{IsName}
use Rattle.plan_core.specs.Participants.{names_both, is_never}
use Rattle.plan_core.specs.declared.builder.BuildError.{BuildError}
use Rattle.plan_core.specs.declared.builder.BuildError.TheVariants.{Twice, TooMany}

-- ---- a list around one of its elements

module _ {X : Type 0} (before : List X) (x : X) (after whole : List X) (split : before ++ (x ∷ after) ≡ whole) where
  within : length before < length whole
  within = omega (arith, length-append before (x ∷ after), ap length split)

  here_is : (d : X) → get_or whole (length before) d ≡ x
  here_is d = ap (λ l. get_or l (length before) d) (sym split) ∙ get_or_at before x after d (length before) refl

  pub All-here : (P : X → Type 0) → All P whole → P x
  All-here P all = subst P (here_is x) (all (length before) x within)

  pub AllPairs-here : (R : X → X → Type 0) → AllPairs R whole → All (λ y. R y x) before
  AllPairs-here R pairs k d h =
      let there : get_or whole k d ≡ get_or before k d = ap (λ l. get_or l k d) (sym split) ∙ get_or_append_left before (x ∷ after) d k h in
      subst (R (get_or before k d)) (here_is d) (subst (λ y. R y (get_or whole (length before) d)) there (pairs k (length before) d h within))

  pub All-before : (P : X → Type 0) → All P whole → All P before
  All-before P all k d h =
      let there : get_or whole k d ≡ get_or before k d = ap (λ l. get_or l k d) (sym split) ∙ get_or_append_left before (x ∷ after) d k h in
      subst P there (all k d (omega (arith, within)))

-- a pair is named by the same pairs as it names
pub turned : (m n : ℕ × ℕ) → names_both m.0 m.1 n ≡ false → names_both n.0 n.1 m ≡ false
turned m n h = grind (arith, nat_tests)

-- ---- names and numbers

position_absent : (test : List ℕ → Bool) (names : List (List ℕ)) → All (λ name. test name ≡ false) names → position test names ≡ None
position_absent test names none =
    let n = length names in
    let e : position_or_len test names ≡ n = position_or_len_is test names n [] (omega arith) (λ k h. none k [] h) (λ h. absurd (omega arith)) in
    ap (λ m. cond (nat_lt m n) (Some m) None) e ∙ ap (λ t. cond t (Some n) None) (le-ltb n n (omega arith))

position_found : (test : List ℕ → Bool) (names : List (List ℕ)) (k : ℕ) → k < length names → ((j : ℕ) → j < k → test (get_or names j []) ≡ false) → test (get_or names k []) ≡ true → position test names ≡ Some k
position_found test names k h before here =
    let n = length names in
    let e : position_or_len test names ≡ k = position_or_len_is test names k [] (omega arith) before (λ h. here) in
    ap (λ m. cond (nat_lt m n) (Some m) None) e ∙ ap (λ t. cond t (Some k) None) (lt-ltb k n h)

pub not_equal : (x y : List ℕ) → x ≢ y → bytes_eq x y ≡ false
not_equal x y differ = false_from_ne_true (bytes_eq x y) (λ e. differ (same-bytes_eq x y e))

module _ {X : Type 0} where
  -- a name that differs from those before
  new_name : (before : List (List ℕ × X)) (x : List ℕ × X) (after whole : List (List ℕ × X)) → before ++ (x ∷ after) ≡ whole → AreNames (keys_of whole) → number_of x.0 before ≡ None
  new_name before x after whole split are =
      let names : keys_of before ++ (x.0 ∷ keys_of after) ≡ keys_of whole = sym (map-append (λ e. e.0) before (x ∷ after)) ∙ ap keys_of split in
      let others = AllPairs-here (keys_of before) x.0 (keys_of after) (keys_of whole) names ◌≢◌ are.distinct in
      position_absent (bytes_eq x.0) (keys_of before) (λ k d h. not_equal x.0 (get_or (keys_of before) k d) (λ e. others k d h (sym e)))

  named : (before : List (List ℕ × X)) (x : List ℕ × X) (after whole : List (List ℕ × X)) → before ++ (x ∷ after) ≡ whole → AreNames (keys_of whole) → IsName x.0
  named before x after whole split are =
      let names : keys_of before ++ (x.0 ∷ keys_of after) ≡ keys_of whole = sym (map-append (λ e. e.0) before (x ∷ after)) ∙ ap keys_of split in
      All-here (keys_of before) x.0 (keys_of after) (keys_of whole) names IsName are.formed

  -- the name of a number has that number
  pub number_at : (entries : List (List ℕ × X)) (k : ℕ) → AreNames (keys_of entries) → k < length entries → number_of (name_at entries k) entries ≡ Some k
  number_at entries k are h =
      let names = keys_of entries in
      let same : length names ≡ length entries = length-map entries (λ e. e.0) in
      position_found (bytes_eq (name_at entries k)) names k (omega arith)
      (λ j lt. not_equal (name_at entries k) (get_or names j []) (λ e. are.distinct j k [] lt (omega arith) (sym e)))
      (bytes_eq-same (name_at entries k) (get_or names k []) refl)

  pub name_at-is : (entries : List (List ℕ × X)) (k : ℕ) → AreNames (keys_of entries) → k < length entries → IsName (name_at entries k)
  name_at-is entries k are h = are.formed k [] (omega (arith, length-map entries (λ e. e.0)))

  -- two numbers have two names
  pub names_differ : (entries : List (List ℕ × X)) (j k : ℕ) → AreNames (keys_of entries) → j < length entries → k < length entries → j ≢ k → name_at entries j ≢ name_at entries k
  names_differ entries j k are within_j within_k differ e =
      let one : Some j ≡ Some k = sym (number_at entries j are within_j) ∙ ap (λ name. number_of name entries) e ∙ number_at entries k are within_k in
      let same : j ≡ k = cc in
      differ same

-- ---- what is not refused

passed : (o : Option ℕ) (n m : ℕ) (rest : Option BuildError) → o ≡ None → m < n → rest ≡ None → (if is_some o then Some Twice else if nat_le n m then Some TooMany else rest) ≡ None
passed o n m rest none few passes = rw (none, lt-leb n m few, passes) refl

-- the plan's parts up to one of them
abbrev pub up_to_messages : List (List ℕ × FrameTree) → Contents
up_to_messages messages = record { messages = messages; controllers = []; interrupts = []; nevers = [] }

abbrev pub up_to_controllers : Contents → List (List ℕ × List ℕ) → Contents
up_to_controllers plan controllers = record { messages = plan.messages; controllers = controllers; interrupts = []; nevers = [] }

abbrev pub up_to_interrupts : Contents → List (List ℕ × ℕ) → Contents
up_to_interrupts plan interrupts = record { messages = plan.messages; controllers = plan.controllers; interrupts = interrupts; nevers = [] }

abbrev pub up_to_nevers : Contents → List (ℕ × ℕ) → Contents
up_to_nevers plan nevers = record { messages = plan.messages; controllers = plan.controllers; interrupts = plan.interrupts; nevers = nevers }

module _ (plan : Contents) (limits : IsWithinLimits plan) where
  -- messages
  module _ (before : List (List ℕ × FrameTree)) (x : List ℕ × FrameTree) (after : List (List ℕ × FrameTree)) (split : before ++ (x ∷ after) ≡ plan.messages) where
    message_name_fits : message_name_refusal (up_to_messages before) x.0 ≡ None
    unfolding message_name_refusal
    message_name_fits = passed (number_of x.0 before) MOST_MESSAGES (length before) None (new_name before x after plan.messages split limits.messages.names) (omega (arith, within before x after plan.messages split, limits.messages.count)) refl

    pub message_fits : message_refusal (up_to_messages before) x.0 x.1 ≡ None
    message_fits =
        let bytes : frame_bytes x.1 ≤ MOST_BYTES = All-here before x after plan.messages split (λ m. frame_bytes m.1 ≤ MOST_BYTES) limits.messages.bytes in
        let nodes : frame_nodes x.1 ≤ MOST_NODES = All-here before x after plan.messages split (λ m. frame_nodes m.1 ≤ MOST_NODES) limits.messages.nodes in
        building.message_fits (up_to_messages before) x.0 x.1 message_name_fits bytes nodes

    pub message_adds : up_to_messages (before ++ (x ∷ [])) ≡ with_message (up_to_messages before) x.0 x.1
    unfolding with_message
    message_adds = refl

    pub message_named : IsName x.0
    message_named = named before x after plan.messages split limits.messages.names

  -- interrupts
  module _ (before : List (List ℕ × ℕ)) (x : List ℕ × ℕ) (after : List (List ℕ × ℕ)) (split : before ++ (x ∷ after) ≡ plan.interrupts) where
    pub interrupt_fits : (interrupt_refusal (up_to_interrupts plan before) x.0 ≡ None) × (x.1 < 128)
    unfolding interrupt_refusal
    interrupt_fits = (
      passed (number_of x.0 before) 32 (length before) None (new_name before x after plan.interrupts split limits.interrupts.names) (omega (arith, within before x after plan.interrupts split, limits.interrupts.count)) refl,
      All-here before x after plan.interrupts split (λ t. t.1 < 128) limits.interrupts.addresses,
    )

    pub interrupt_adds : up_to_interrupts plan (before ++ (x ∷ [])) ≡ with_interrupt (up_to_interrupts plan before) x.0 x.1
    unfolding with_interrupt
    interrupt_adds = refl

    pub interrupt_named : IsName x.0
    interrupt_named = named before x after plan.interrupts split limits.interrupts.names

  -- controllers
  module _ (before : List (List ℕ × List ℕ)) (x : List ℕ × List ℕ) (after : List (List ℕ × List ℕ)) (split : before ++ (x ∷ after) ≡ plan.controllers) where
    known : All (λ k. k < length plan.messages) x.1
    known = All-here before x after plan.controllers split (λ c. All (λ k. k < length plan.messages) c.1) limits.controllers.known

    list_passes : (done todo : List ℕ) → done ++ todo ≡ x.1 → list_refusal (up_to_controllers plan before) (map (name_at plan.messages) done) (map (name_at plan.messages) todo) ≡ None
    list_passes done [] e = refl
    list_passes done (k ∷ ks) e =
        let name = name_at plan.messages k in
        let names = map (name_at plan.messages) done in
        let is_known : k < length plan.messages = All-here done k ks x.1 e (λ n. n < length plan.messages) known in
        let old : not (has_name name plan.messages) ≡ false = ap (λ o. not (is_some o)) (number_at plan.messages k limits.messages.names is_known) in
        let before_known = All-before done k ks x.1 e (λ n. n < length plan.messages) known in
        let others = AllPairs-here done k ks x.1 e ◌≢◌ (All-here before x after plan.controllers split (λ c. AllPairs ◌≢◌ c.1) limits.controllers.once) in
        let new : list_any (λ other. bytes_eq other name) names ≡ false =
        list_any_none (λ other. bytes_eq other name) names (All-map (λ other. bytes_eq other name ≡ false) (name_at plan.messages) done
        (λ j d h. not_equal (name_at plan.messages (get_or done j d)) name (names_differ plan.messages (get_or done j d) k limits.messages.names (before_known j d h) is_known (others j d h)))) in
        let sends : sending_count plan.controllers ≡ sending_count before + (length x.1 + sending_count after) = sym (ap sending_count split) ∙ sum_by-append (λ c. length c.1) before (x ∷ after) ∙ ap (λ n. sending_count before + n) (sum_by-cons (λ c. length c.1) x after) in
        let few : nat_le 512 (sending_count before + length names) ≡ false =
        lt-leb 512 (sending_count before + length names) (omega (arith, sends, limits.controllers.sendings, length-map done (name_at plan.messages), length-append done (k ∷ ks), ap length e)) in
        let more = list_passes (done ++ (k ∷ [])) ks (append_assoc done (k ∷ []) ks ∙ e) in
        rw (old, new, few) (subst (λ l. list_refusal (up_to_controllers plan before) l (map (name_at plan.messages) ks) ≡ None) (map-append (name_at plan.messages) done (k ∷ [])) more)

    controller_name_fits : controller_name_refusal (up_to_controllers plan before) x.0 ≡ None
    unfolding controller_name_refusal
    controller_name_fits =
        passed (number_of x.0 before) MOST_CONTROLLERS (length before) None (new_name before x after plan.controllers split limits.controllers.names) (omega (arith, within before x after plan.controllers split, limits.controllers.count)) refl

    pub controller_fits : controller_refusal (up_to_controllers plan before) x.0 (map (name_at plan.messages) x.1) ≡ None
    controller_fits = building.controller_fits (up_to_controllers plan before) x.0 (map (name_at plan.messages) x.1) controller_name_fits (list_passes [] x.1 refl)

    numbers_same : (numbers : List ℕ) → All (λ k. k < length plan.messages) numbers → numbers_of (up_to_controllers plan before) (map (name_at plan.messages) numbers) ≡ numbers
    numbers_same [] all = refl
    numbers_same (k ∷ ks) all =
        let here = number_at plan.messages k limits.messages.names (All-head (λ n. n < length plan.messages) k ks all) in
        ap (λ o. cons_option o (numbers_of (up_to_controllers plan before) (map (name_at plan.messages) ks))) here
        ∙ ap (λ l. k ∷ l) (numbers_same ks (All-tail (λ n. n < length plan.messages) k ks all))

    pub controller_adds : up_to_controllers plan (before ++ (x ∷ [])) ≡ with_controller (up_to_controllers plan before) x.0 (map (name_at plan.messages) x.1)
    unfolding with_sender
    controller_adds = ap (λ numbers. up_to_controllers plan (before ++ ((x.0, numbers) ∷ []))) (sym (numbers_same x.1 known))

    pub controller_named : IsName x.0
    controller_named = named before x after plan.controllers split limits.controllers.names

    pub sent_named : All IsName (map (name_at plan.messages) x.1)
    sent_named = All-map IsName (name_at plan.messages) x.1 (λ j d h. name_at-is plan.messages (get_or x.1 j d) limits.messages.names (known j d h))

  -- nevers
  module _ (before : List (ℕ × ℕ)) (x : ℕ × ℕ) (after : List (ℕ × ℕ)) (split : before ++ (x ∷ after) ≡ plan.nevers) where
    both_known : (x.0 < length plan.controllers) × (x.1 < length plan.controllers)
    both_known = All-here before x after plan.nevers split (λ n. (n.0 < length plan.controllers) × (n.1 < length plan.controllers)) limits.nevers.known

    first_number : number_of (name_at plan.controllers x.0) plan.controllers ≡ Some x.0
    first_number = number_at plan.controllers x.0 limits.controllers.names both_known.0

    second_number : number_of (name_at plan.controllers x.1) plan.controllers ≡ Some x.1
    second_number = number_at plan.controllers x.1 limits.controllers.names both_known.1

    pub never_fits : never_refusal (up_to_nevers plan before) (name_at plan.controllers x.0) (name_at plan.controllers x.1) ≡ None
    unfolding never_refusal
    never_fits =
        let two = All-here before x after plan.nevers split (λ n. n.0 ≢ n.1) limits.nevers.two in
        let differ = not_equal (name_at plan.controllers x.0) (name_at plan.controllers x.1) (names_differ plan.controllers x.0 x.1 limits.controllers.names both_known.0 both_known.1 two) in
        let others = AllPairs-here before x after plan.nevers split (λ m n. names_both m.0 m.1 n ≡ false) limits.nevers.once in
        let new : is_never (up_to_nevers plan before) x.0 x.1 ≡ false = list_any_none (names_both x.0 x.1) before (λ j d h. turned (get_or before j d) x (others j d h)) in
        rw (first_number, differ, second_number, new) refl

    pub never_adds : up_to_nevers plan (before ++ (x ∷ [])) ≡ with_never (up_to_nevers plan before) (name_at plan.controllers x.0) (name_at plan.controllers x.1)
    unfolding with_never
    never_adds = λ i. up_to_nevers plan (before ++ ((unwrap_or (sym first_number i) 0, unwrap_or (sym second_number i) 0) ∷ []))

    pub both_named : IsName (name_at plan.controllers x.0) × IsName (name_at plan.controllers x.1)
    both_named = (name_at-is plan.controllers x.0 limits.controllers.names both_known.0, name_at-is plan.controllers x.1 limits.controllers.names both_known.1)
