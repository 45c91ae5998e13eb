-- The canonical spelling of a plan, from item to item.
use Rattle.std.proofs.Common.{◌≡◌, ◌+◌, ℕ, Bool, true, false, List, [], ◌∷◌, ◌++◌, length, map, refl, ap, sym, ◌∙◌, subst, codes, arith, true≢false, append-nil, append_assoc}
use Rattle.std.specs.Prelude.{nat_lt, if◌then◌else◌, Result, Ok, Err, IfOk}
use Rattle.std.specs.declared.vec.Vec.{Vec}
use Rattle.plan_core.specs.PlanContents.{plan_contents}
use Rattle.plan_core.specs.declared.plans.Plan.{Plan}
use Rattle.std.specs.List.{list_any, flat_map}
use Rattle.std.proofs.lemmas.Bool.{or_left, or_right, or_parts, ltb-false}
use Rattle.lexer.specs.Lexemes.{Alphabet, no_dots, dots_after, letters, later, lexemes_of, text_end}
use Rattle.message_tree.specs.Trees.{FrameTree}
use Rattle.plan_core.specs.Contents.{Contents, empty}
use Rattle.plan_core.specs.Labels.{name_at}
use Rattle.plan_core.specs.Limits.{IsWithinLimits}
use Rattle.plan_text.specs.Reader.{version_of}
use Rattle.spellings.specs.Canonical.{frame_has_range, message_line, controller_line, interrupt_line, never_line, needs_second, plan_text}
use Rattle.plan_text.specs.Grammar.{Item, message, controller, interrupt, never_both, SpellsItem, SpellsItems, Spells, Fits, with_item, Begins}
use Rattle.plan_text.specs.Tokens.{Tokens, last, tokens_of, token_of_word}
use Rattle.spellings.proofs.CanonicalItems.{up_to_messages, up_to_controllers, up_to_interrupts, up_to_nevers, message_fits, message_adds, message_named, controller_fits, controller_adds, controller_named, sent_named, interrupt_fits, interrupt_adds, interrupt_named, never_fits, never_adds, both_named}
use Rattle.spellings.proofs.CanonicalWords.{HasDots}
use Rattle.spellings.proofs.CanonicalPhrases.{the, message_said, controller_said, interrupt_said, never_said}
use Rattle.plan_text.proofs.TokenLemmas.{ends_here}

-- these bytes are the items up to the end of a text
abbrev UpToEnd : Alphabet → (List Item → Contents → Tokens → Contents → Tokens → Type 0) → List Item → Contents → Contents → List ℕ → Type 0
UpToEnd d spells items plan whole bytes = (line : ℕ) → (last_line : ℕ) × spells items plan (tokens_of d line bytes) whole (last text_end last_line)

-- an item for each of these entries, where each fits the plan of those before it, and then others
module _ {X : Type 0} (d : Alphabet) (v : _) (item : X → Item) (line_of : X → List ℕ) (plan_of : List X → Contents) (all : List X)
    (fits : (before : List X) (x : X) (after : List X) → before ++ (x ∷ after) ≡ all → Fits (plan_of before) (item x))
    (adds : (before : List X) (x : X) (after : List X) → before ++ (x ∷ after) ≡ all → plan_of (before ++ (x ∷ [])) ≡ with_item (plan_of before) (item x))
    (said : (before : List X) (x : X) (after : List X) → before ++ (x ∷ after) ≡ all → (line : ℕ) (rest : List ℕ) → SpellsItem v (item x) (tokens_of d line (line_of x ++ rest)) (tokens_of d (line + 1) rest)) where
  items_from : (before xs : List X) → before ++ xs ≡ all → (others : List Item) (whole : Contents) (rest : List ℕ) → UpToEnd d (SpellsItems v) others (plan_of all) whole rest → UpToEnd d (SpellsItems v) (map item xs ++ others) (plan_of before) whole (flat_map line_of xs ++ rest)
  items_from before [] e others whole rest more = subst (λ l. UpToEnd d (SpellsItems v) others (plan_of l) whole rest) (sym e ∙ append-nil before) more
  items_from before (x ∷ xs) e others whole rest more = λ line.
      let after : List ℕ = flat_map line_of xs ++ rest in
      let later = items_from (before ++ (x ∷ [])) xs (append_assoc before (x ∷ []) xs ∙ e) others whole rest more (line + 1) in
      let front = ap (tokens_of d line) (append_assoc (line_of x) (flat_map line_of xs) rest) in
      let first = subst (λ from. SpellsItem v (item x) from (tokens_of d (line + 1) after)) (sym front) (said before x xs e line after) in
      (later.0, (fits before x xs e, (tokens_of d (line + 1) after, first, subst (λ p. SpellsItems v (map item xs ++ others) p (tokens_of d (line + 1) after) whole (last text_end later.0)) (adds before x xs e) later.1)))

any_from_element : {X : Type 0} (test : X → Bool) (before : List X) (x : X) (after whole : List X) → before ++ (x ∷ after) ≡ whole → test x ≡ true → list_any test whole ≡ true
any_from_element test [] x after whole split passes = sym (ap (list_any test) split) ∙ or_left _ _ passes
any_from_element test (b ∷ before) x after whole split passes =
    sym (ap (list_any test) split) ∙ or_right (test b) _ (any_from_element test before x after (before ++ (x ∷ after)) refl passes)

-- all but the first line
abbrev lines : Contents → List ℕ
lines plan =
    flat_map message_line plan.messages ++ (flat_map (controller_line plan) plan.controllers ++ (flat_map interrupt_line plan.interrupts ++ flat_map (never_line plan) plan.nevers))

module _ (plan : Contents) (limits : IsWithinLimits plan) (d : Alphabet) (steady : later d ≡ d) (ranges : list_any (λ m. frame_has_range m.1) plan.messages ≡ true → HasDots (letters d)) where
  abbrev message_of : List ℕ × FrameTree → Item
  message_of m = message m.0 m.1

  abbrev controller_of : List ℕ × List ℕ → Item
  controller_of c = controller c.0 (map (name_at plan.messages) c.1)

  abbrev interrupt_of : List ℕ × ℕ → Item
  interrupt_of i = interrupt i.0 i.1

  abbrev never_of : ℕ × ℕ → Item
  never_of n = never_both (name_at plan.controllers n.0) (name_at plan.controllers n.1)

  abbrev items : List Item
  items = map message_of plan.messages ++ (map controller_of plan.controllers ++ (map interrupt_of plan.interrupts ++ map never_of plan.nevers))

  no_items : (v : _) (p : Contents) → UpToEnd d (SpellsItems v) [] p p []
  no_items v p line = (line, (refl, sym (ends_here d line [] refl)))

  nevers_said : (v : _) → v ≡ the (version_of (codes "2")) refl → UpToEnd d (SpellsItems v) (map never_of plan.nevers) (up_to_nevers plan []) plan (flat_map (never_line plan) plan.nevers)
  nevers_said v two =
      let said : (before : List (ℕ × ℕ)) (x : ℕ × ℕ) (after : List (ℕ × ℕ)) → before ++ (x ∷ after) ≡ plan.nevers → (line : ℕ) (rest : List ℕ) → SpellsItem v (never_of x) (tokens_of d line (never_line plan x ++ rest)) (tokens_of d (line + 1) rest) =
      λ before x after e line rest. let are = both_named plan limits before x after e in
      subst (λ w. SpellsItem w (never_of x) (tokens_of d line (never_line plan x ++ rest)) (tokens_of d (line + 1) rest)) (sym two) (never_said d steady (name_at plan.controllers x.0) (name_at plan.controllers x.1) are.0 are.1 line rest) in
      let lasts = items_from d v never_of (never_line plan) (up_to_nevers plan) plan.nevers (never_fits plan limits) (never_adds plan limits) said [] plan.nevers refl [] plan [] (no_items v plan) in
      subst (λ l. UpToEnd d (SpellsItems v) l (up_to_nevers plan []) plan (flat_map (never_line plan) plan.nevers)) (append-nil (map never_of plan.nevers))
      (subst (λ l. UpToEnd d (SpellsItems v) (map never_of plan.nevers ++ []) (up_to_nevers plan []) plan l) (append-nil (flat_map (never_line plan) plan.nevers)) lasts)

  -- the first version has none
  no_nevers : (v : _) → plan.nevers ≡ [] → UpToEnd d (SpellsItems v) (map never_of plan.nevers) (up_to_nevers plan []) plan (flat_map (never_line plan) plan.nevers)
  no_nevers v none = subst (λ ns. UpToEnd d (SpellsItems v) (map never_of ns) (up_to_nevers plan []) (up_to_nevers plan ns) (flat_map (never_line plan) ns)) (sym none) (no_items v (up_to_nevers plan []))

  -- a text of this version, by its first line
  text_said : (v : _) → UpToEnd d (SpellsItems v) (map never_of plan.nevers) (up_to_nevers plan []) plan (flat_map (never_line plan) plan.nevers)
      → (first : List ℕ) → ((rest : List ℕ) → Begins (first ++ rest) v (tokens_of d 2 rest)) → Spells (first ++ lines plan) plan
  text_said v nevers first begins =
      let said : UpToEnd d (SpellsItems v) items empty plan (lines plan) =
      items_from d v message_of message_line up_to_messages plan.messages (message_fits plan limits) (message_adds plan limits)
      (λ before x after e. message_said d steady v x.0 x.1 (message_named plan limits before x after e) (λ h. ranges (any_from_element (λ m. frame_has_range m.1) before x after plan.messages e h))) [] plan.messages refl _ plan _
      (items_from d v controller_of (controller_line plan) (up_to_controllers plan) plan.controllers (controller_fits plan limits) (controller_adds plan limits)
      (λ before x after e. controller_said d steady v x.0 (map (name_at plan.messages) x.1) (controller_named plan limits before x after e) (sent_named plan limits before x after e)) [] plan.controllers refl _ plan _
      (items_from d v interrupt_of interrupt_line (up_to_interrupts plan) plan.interrupts (interrupt_fits plan limits) (interrupt_adds plan limits)
      (λ before x after e. interrupt_said d steady v x.0 x.1 (interrupt_named plan limits before x after e)) [] plan.interrupts refl _ plan _ nevers)) in
      let whole = said 2 in
      record {
        version = v;
        line = whole.0;
        whole = record { items = items; start = tokens_of d 2 (lines plan); begins = begins (lines plan); spelled = whole.1 };
      }

-- the first line
begins_one : (rest : List ℕ) → Begins (codes "plan 1\n" ++ rest) (the (version_of (codes "1")) refl) (tokens_of no_dots 2 rest)
unfolding tokens_of token_of_word lexemes_of
begins_one rest = (tokens_of no_dots 1 (codes " 1\n" ++ rest), (1, refl), (1, refl))

begins_two : (rest : List ℕ) → Begins (codes "plan 2\n" ++ rest) (the (version_of (codes "2")) refl) (tokens_of (dots_after 0) 2 rest)
unfolding tokens_of token_of_word lexemes_of
begins_two rest = (tokens_of (dots_after 1) 1 (codes " 2\n" ++ rest), (1, refl), (1, refl))

none_from_length : {X : Type 0} (xs : List X) → nat_lt 0 (length xs) ≡ false → xs ≡ []
none_from_length [] h = refl
none_from_length (x ∷ xs) h = absurd (omega (arith, ltb-false 0 (length (x ∷ xs)) h))

spelled_by : (plan : Contents) (second : Bool) → needs_second plan ≡ second → IsWithinLimits plan → Spells ((if second then codes "plan 2\n" else codes "plan 1\n") ++ lines plan) plan
spelled_by plan true second limits =
    let two = the (version_of (codes "2")) refl in
    text_said plan limits (dots_after 0) refl (λ h. refl) two (nevers_said plan limits (dots_after 0) refl (λ h. refl) two refl) (codes "plan 2\n") begins_two
spelled_by plan false second limits =
    let first = the (version_of (codes "1")) refl in
    let neither = or_parts (nat_lt 0 (length plan.nevers)) (list_any (λ m. frame_has_range m.1) plan.messages) second in
    let ranges : list_any (λ m. frame_has_range m.1) plan.messages ≡ true → HasDots (letters no_dots) = λ h. absurd (true≢false (sym h ∙ neither.1)) in
    text_said plan limits no_dots refl ranges first (no_nevers plan limits no_dots refl ranges first (none_from_length plan.nevers neither.0)) (codes "plan 1\n") begins_one

pub spelled : (plan : Contents) → IsWithinLimits plan → Spells (plan_text plan) plan
unfolding plan_text
spelled plan limits = spelled_by plan (needs_second plan) refl limits

-- what was written spells the plan that it was written for
pub read_back : {A E : Type 0} (r : Result (Vec ℕ A) E) (plan : Plan) → IsWithinLimits (plan_contents plan) → IfOk r (λ text. text.items ≡ plan_text (plan_contents plan)) → IfOk r (λ text. Spells text.items (plan_contents plan))
read_back (Ok text) plan limits written = subst (λ (bytes : List ℕ). Spells bytes (plan_contents plan)) (sym written) (spelled (plan_contents plan) limits)
read_back (Err e) plan limits written = tt
