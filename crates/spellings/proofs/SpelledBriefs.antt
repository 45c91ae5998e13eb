-- A brief that is written for a plan spells its items, and means it.
use Rattle.std.proofs.Common.{◌≡◌, ℕ, zero, suc, ◌+◌, ◌<◌, Bool, true, false, cond, List, [], ◌∷◌, ◌++◌, length, get_or, map, take, drop, Some, None, refl, ap, sym, ◌∙◌, subst, arith, codes, append-nil, append_assoc, one-add}
use Rattle.std.specs.Prelude.{All, ◌||◌, if◌then◌else◌}
use Rattle.std.specs.List.{flat_map, list_any, list_all, prefix_len}
use Rattle.std.specs.Map.{keys_of}
use Rattle.std.proofs.lemmas.Bool.{and_parts, or_parts, le-ltb}
use Rattle.std.proofs.lemmas.Bool.Decides.{nat_tests}
use Rattle.std.proofs.lemmas.List.{length-map}
use Rattle.std.proofs.lemmas.List.Elements.{All-map}
use Rattle.message_tree.specs.Trees.{FrameTree}
use Rattle.plan_core.specs.Contents.{Contents}
use Rattle.plan_core.specs.Labels.{name_at}
use Rattle.plan_core.specs.Limits.{IsWithinLimits}
use Rattle.plan_core.specs.Names.{IsName, is_name, is_name_byte}
use Rattle.spellings.specs.Canonical.{controller_line, never_line}
use Rattle.lexer.specs.Lexemes.{text_end}
use Rattle.plan_text.specs.Values.{address_by}
use Rattle.spellings.proofs.CanonicalItems.{All-here, message_named, controller_named, sent_named, interrupt_named, both_named}
use Rattle.lexer.specs.Lexemes.{lexemes_of}
use Rattle.lexer.specs.declared.lexemes.Letters.TheVariants.{Brief}
use Rattle.brief_tokens.specs.Heads.{begun, opened}
use Rattle.brief_text.specs.Briefs.{Means}
use Rattle.brief_text.specs.Grammar.{one, SpellsAs, SpellsItem, SpellsItems, Spells}
use Rattle.brief_tokens.specs.Names.{is_brief_word, has_brief_word}
use Rattle.spellings.specs.Spelling.{message_line, interrupt_line, brief_spelled}
use Rattle.brief_text.specs.Splitting.{whole}
use Rattle.brief_tokens.specs.Tokens.{tokens_of, token_of_word}
use Rattle.brief_tokens.specs.Tokens as tokens
use Rattle.brief_text.specs.Trees.{BriefItem}
use Rattle.brief_text.specs.Words.{side_by, around_slash, halves_at, is_no_slash}
use Rattle.spellings.specs.Writing.{message_brief, controller_brief, interrupt_brief, never_brief, brief_items}
use Rattle.brief_text.proofs.SaidLemmas.{said_meant}
use Rattle.plan_text.proofs.WholeWords.{is_word}
use Rattle.spellings.proofs.CanonicalWords.{none_at}
use Rattle.spellings.proofs.Saying.{Spelled, ended_last, ended_then, item_said}
use Rattle.spellings.proofs.SpelledPhrases.{Says, end, said_as, said_name, said_names, said_frame}
use Rattle.spellings.proofs.SpelledWords.{spelled_one, target_said}
use Rattle.brief_tokens.proofs.TokenLemmas.{ends_here}
use Rattle.spellings.proofs.WrittenPlans.{plan_said}

pub keyword : (w : List ℕ) → is_word Brief w ≡ true → Spelled tokens_of Brief w (one (token_of_word w))
keyword w is = spelled_one w (token_of_word w) is refl

-- ---- what a `never` names

no_slash : (byte : ℕ) → is_name_byte byte ≡ true → is_no_slash byte ≡ true
no_slash byte h = grind (arith, nat_tests)

all_before : (name : List ℕ) → list_all is_name_byte name ≡ true → prefix_len is_no_slash name ≡ length name
all_before [] h = refl
all_before (b ∷ name) h =
    let parts = and_parts _ _ h in
    ap (λ t. cond t (1 + prefix_len is_no_slash name) 0) (no_slash b parts.0) ∙ one-add (prefix_len is_no_slash name) ∙ ap suc (all_before name parts.1)

name_bytes_all : (name : List ℕ) → IsName name → list_all is_name_byte name ≡ true
unfolding is_name
name_bytes_all name is = (and_parts _ _ (and_parts _ _ (and_parts _ _ is).0).0).1

no_halves : (name : List ℕ) → IsName name → around_slash name ≡ None
unfolding around_slash
no_halves name is =
    ap (λ n. halves_at n name) (all_before name (name_bytes_all name is))
    ∙ ap (λ (t : Bool). if t then Some (take (length name) name, drop (length name + 1) name) else None) (le-ltb (length name) (length name) (omega arith))

side_read : (name : List ℕ) → IsName name → side_by Brief name ≡ Some (whole name)
unfolding side_by
side_read name is = rw (no_halves name is, is) refl

said_side : (name : List ℕ) → IsName name → is_brief_word name ≡ false → Says (name ∷ []) (SpellsAs (side_by Brief) (whole name))
said_side name is free = record { says = λ line rest apart. (name, ((said_name name is free).says line rest apart).0, side_read name is) }

-- ---- items one by one

abbrev IsFree : List ℕ → Type 0
IsFree name = is_brief_word name ≡ false

message_said : (name : List ℕ) (f : FrameTree) → IsName name → IsFree name → (line : ℕ) (rest : List ℕ) → SpellsItem Brief (message_brief (name, f)) (tokens_of line (message_line (name, f) ++ rest)) (tokens_of (line + 1) rest)
unfolding token_of_word
message_said name f is free line rest = item_said (keyword (codes "message") refl) (ended_then (said_name name is free) (ended_last (said_frame f) end)) line rest

controller_said : (plan : Contents) (c : List ℕ × List ℕ) → IsName c.0 → IsFree c.0 → All IsName (map (name_at plan.messages) c.1) → All IsFree (map (name_at plan.messages) c.1)
    → (line : ℕ) (rest : List ℕ) → SpellsItem Brief (controller_brief plan c) (tokens_of line (controller_line plan c ++ rest)) (tokens_of (line + 1) rest)
unfolding token_of_word
controller_said plan c is free are all_free line rest = item_said (keyword (codes "controller") refl) (ended_then (said_name c.0 is free) (ended_last (said_names (map (name_at plan.messages) c.1) are all_free) end)) line rest

interrupt_said : (i : List ℕ × ℕ) → IsName i.0 → IsFree i.0 → (line : ℕ) (rest : List ℕ) → SpellsItem Brief (interrupt_brief i) (tokens_of line (interrupt_line i ++ rest)) (tokens_of (line + 1) rest)
unfolding token_of_word
interrupt_said i is free line rest = item_said (keyword (codes "interrupt") refl) (ended_then (said_name i.0 is free) (ended_last (said_as (target_said (address_by 127 i.1))) end)) line rest

never_said : (plan : Contents) (n : ℕ × ℕ) → IsName (name_at plan.controllers n.0) × IsName (name_at plan.controllers n.1) → IsFree (name_at plan.controllers n.0) → IsFree (name_at plan.controllers n.1)
    → (line : ℕ) (rest : List ℕ) → SpellsItem Brief (never_brief plan n) (tokens_of line (never_line plan n ++ rest)) (tokens_of (line + 1) rest)
unfolding token_of_word
never_said plan n are one_free other_free line rest = item_said (keyword (codes "never") refl) (ended_then (said_side _ are.0 one_free) (ended_last (said_side _ are.1 other_free) end)) line rest

-- ---- items up to the end of a text

abbrev UpToEnd : List BriefItem → List ℕ → Type 0
UpToEnd items bytes = (line : ℕ) → (last_line : ℕ) × SpellsItems Brief items (tokens_of line bytes) (tokens.last text_end last_line)

module _ {X : Type 0} (item : X → BriefItem) (line_of : X → List ℕ) (all : List X)
    (said : (before : List X) (x : X) (after : List X) → before ++ (x ∷ after) ≡ all → (line : ℕ) (rest : List ℕ) → SpellsItem Brief (item x) (tokens_of line (line_of x ++ rest)) (tokens_of (line + 1) rest)) where
  spelled_from : (before xs : List X) → before ++ xs ≡ all → (others : List BriefItem) (rest : List ℕ) → UpToEnd others rest → UpToEnd (map item xs ++ others) (flat_map line_of xs ++ rest)
  spelled_from before [] e others rest ending line = ending line
  spelled_from before (x ∷ xs) e others rest ending line =
      let after : List ℕ = flat_map line_of xs ++ rest in
      let more = spelled_from (before ++ (x ∷ [])) xs (append_assoc before (x ∷ []) xs ∙ e) others rest ending (line + 1) in
      let front = ap (tokens_of line) (append_assoc (line_of x) (flat_map line_of xs) rest) in
      (more.0, (tokens_of (line + 1) after, subst (λ from. SpellsItem Brief (item x) from (tokens_of (line + 1) after)) (sym front) (said before x xs e line after), more.1))

-- ---- the whole text

free_entries : {X : Type 0} (entries : List (List ℕ × X)) → list_any is_brief_word (keys_of entries) ≡ false → All (λ e. IsFree e.0) entries
free_entries [] none k d within = absurd (omega arith)
free_entries (e ∷ entries) none zero d within = (or_parts (is_brief_word e.0) (list_any is_brief_word (keys_of entries)) none).0
free_entries (e ∷ entries) none (suc k) d within = free_entries entries (or_parts (is_brief_word e.0) (list_any is_brief_word (keys_of entries)) none).1 k d (omega arith)

free_at : {X : Type 0} (entries : List (List ℕ × X)) (k : ℕ) → list_any is_brief_word (keys_of entries) ≡ false → k < length entries → IsFree (name_at entries k)
free_at entries k none within = none_at is_brief_word (keys_of entries) none k [] (omega (arith, length-map entries (λ e. e.0)))

module _ (plan : Contents) (limits : IsWithinLimits plan) (free : has_brief_word plan ≡ false) where
  free_two : (list_any is_brief_word (keys_of plan.messages) || list_any is_brief_word (keys_of plan.controllers) ≡ false) × (list_any is_brief_word (keys_of plan.interrupts) ≡ false)
  free_two = or_parts _ _ free

  messages_free : list_any is_brief_word (keys_of plan.messages) ≡ false
  messages_free = (or_parts _ _ free_two.0).0

  controllers_free : list_any is_brief_word (keys_of plan.controllers) ≡ false
  controllers_free = (or_parts _ _ free_two.0).1

  sent_free : (before : List (List ℕ × List ℕ)) (x : List ℕ × List ℕ) (after : List (List ℕ × List ℕ)) → before ++ (x ∷ after) ≡ plan.controllers → All IsFree (map (name_at plan.messages) x.1)
  sent_free before x after split =
      let known = All-here before x after plan.controllers split (λ c. All (λ k. k < length plan.messages) c.1) limits.controllers.known in
      All-map IsFree (name_at plan.messages) x.1 (λ j d h. free_at plan.messages (get_or x.1 j d) messages_free (known j d h))

  items_said : UpToEnd (brief_items plan) (flat_map message_line plan.messages ++ (flat_map (controller_line plan) plan.controllers ++ (flat_map interrupt_line plan.interrupts ++ flat_map (never_line plan) plan.nevers)))
  unfolding brief_items
  items_said =
      let m = plan.messages in
      let c = plan.controllers in
      let t = plan.interrupts in
      let n = plan.nevers in
      let none_left : UpToEnd [] [] = λ line. (line, sym (ends_here line [] refl)) in
      let lasts = spelled_from (never_brief plan) (never_line plan) n
      (λ before x after e. let known = All-here before x after n e (λ k. (k.0 < length c) × (k.1 < length c)) limits.nevers.known in
      never_said plan x (both_named plan limits before x after e) (free_at c x.0 controllers_free known.0) (free_at c x.1 controllers_free known.1))
      [] n refl [] [] none_left in
      let nevers : UpToEnd (map (never_brief plan) n) (flat_map (never_line plan) n) =
      subst (λ items. UpToEnd items (flat_map (never_line plan) n)) (append-nil (map (never_brief plan) n)) (subst (λ l. UpToEnd (map (never_brief plan) n ++ []) l) (append-nil (flat_map (never_line plan) n)) lasts) in
      spelled_from message_brief message_line m (λ before x after e. message_said x.0 x.1 (message_named plan limits before x after e) (All-here before x after m e (λ y. IsFree y.0) (free_entries m messages_free))) [] m refl _ _
      (spelled_from (controller_brief plan) (controller_line plan) c
      (λ before x after e. controller_said plan x (controller_named plan limits before x after e) (All-here before x after c e (λ y. IsFree y.0) (free_entries c controllers_free)) (sent_named plan limits before x after e) (sent_free before x after e)) [] c refl _ _
      (spelled_from interrupt_brief interrupt_line t (λ before x after e. interrupt_said x (interrupt_named plan limits before x after e) (All-here before x after t e (λ y. IsFree y.0) (free_entries t free_two.1))) [] t refl _ _ nevers))

  spelled : Spells (brief_spelled plan) (brief_items plan)
  unfolding brief_spelled opened begun tokens_of token_of_word lexemes_of
  spelled =
      let lines : List ℕ = flat_map message_line plan.messages ++ (flat_map (controller_line plan) plan.controllers ++ (flat_map interrupt_line plan.interrupts ++ flat_map (never_line plan) plan.nevers)) in
      let items = items_said 2 in
      record { letters = Brief; rest = tokens_of 2 lines; line = items.0; head = refl; whole = items.1 }

pub written_means : (plan : Contents) → IsWithinLimits plan → has_brief_word plan ≡ false → Means (brief_spelled plan) plan
written_means plan limits free =
    let items = plan_said plan limits in
    subst (Means (brief_spelled plan)) items.2 (said_meant (brief_spelled plan) items.0 (record { items = brief_items plan; spelled = spelled plan limits free; made = items.1 }))
