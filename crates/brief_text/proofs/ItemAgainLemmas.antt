-- Each item that is spelled so, and fits, is read again; and so is a text.
use Rattle.std.proofs.Common.{◌≡◌, ℕ, ◌+◌, ◌*◌, ◌≤◌, true, List, [], ◌∷◌, ◌++◌, Option, Some, None, is_some, refl, ap, sym, ◌∙◌, subst, arith, append-nil, append_assoc}
use Rattle.std.specs.Prelude.{Bool, false, not, nat_lt, length, Ok, Err, if◌then◌else◌}
use Rattle.std.specs.List.{list_any}
use Rattle.std.specs.Str.{bytes_eq}
use Rattle.message_tree.specs.Patterns.{address_bits}
use Rattle.message_tree.specs.Sizes.{frame_nodes}
use Rattle.plan_core.specs.Building.{interrupt_refusal}
use Rattle.plan_core.specs.declared.limits.TheConstants.{MOST_BYTES, MOST_NODES, MOST_MESSAGES}
use Rattle.plan_core.proofs.BuildingLemmas.{size_allowed}
use Rattle.plan_core.specs.declared.builder.BuildError.{BuildError}
use Rattle.plan_text.specs.declared.errors.PlanError.TheVariants.{Unexpected}
use Rattle.plan_text.specs.declared.errors.PlanError.TheVariants as errors
use Rattle.plan_text.specs.Reader.{◌>>=◌}
use Rattle.lexer.specs.declared.lexemes.Letters.{Letters}
use Rattle.brief_tokens.specs.declared.symbols.Keyword.TheVariants as keywords
use Rattle.brief_tokens.specs.declared.symbols.Sign.TheVariants as signs
use Rattle.brief_text.specs.declared.syntax.Lengths.{Lengths}
use Rattle.brief_text.specs.Drafts.{Draft, address_said, frame_meant, frame_groups, devices_of, device_names}
use Rattle.brief_text.specs.Fitting.{Fits, ListFits, MessageFits, range_count, frame_ranges}
use Rattle.brief_text.specs.Frames.{Around, frames_at}
use Rattle.brief_text.specs.Grammar.{one, SpellsNames, SpellsItem}
use Rattle.brief_text.specs.Items.{address_in, pattern_in, device_at, byte_at, message_at, group_at, names_from, listed_refusal, controller_at, extend_at, interrupt_at, side_in, never_at, item_in, item_at}
use Rattle.brief_text.specs.Judging.{named_refusal, device_refusal, is_message, how_many, is_long, further_names, repeats, grouped_by, grouped_refusal, message_refusal_of, controller_refusal_of, extend_refusal_of, listed_by}
use Rattle.brief_text.specs.Places.{Place, Reads, token_as, end_in}
use Rattle.brief_tokens.specs.Tokens.{keyword, word, sign, Tokens}
use Rattle.brief_text.specs.Trees.{BriefFrame, BriefItem, device, byte, device_group, message, controller, extend, interrupt, never_both}
use Rattle.brief_text.specs.Words.{known_number}
use Rattle.brief_text.proofs.AgainLemmas.{spot, token_again, past_again, name_again, to_again}
use Rattle.brief_text.proofs.FollowLemmas.{closes}
use Rattle.brief_text.proofs.FrameAgainLemmas.{frame_again}
use Rattle.brief_text.proofs.GrowLemmas.{longest_within}
use Rattle.brief_text.proofs.PartLemmas.{most_often, Agrees}
use Rattle.brief_text.proofs.TakesLemmas.{done}

-- ---- what a controller lists, and the devices of a group

names_again : (names : List (List ℕ)) (refusal : List (List ℕ) → List ℕ → Option BuildError) (before : List (List ℕ)) (nodes : ℕ) (p : Option Lengths) (from between to : Tokens) → ListFits refusal before names → SpellsNames names from between → one (sign signs.Semicolon) between to → names_from refusal before from (spot from nodes p) ≡ Ok (before ++ names, spot to nodes p)
names_again [] refusal before nodes p from between to fits s e = rw (sym s ∙ e.1, append-nil before) refl
names_again (n ∷ names) refusal before nodes p from between to fits s e =
    rw (s.1.0.1, s.1.1, fits.0) (names_again names refusal (before ++ n ∷ []) nodes p s.0 between to fits.1 s.2 e ∙ ap (λ (ns : List (List ℕ)). Ok (ns, spot to nodes p)) (append_assoc before (n ∷ []) names))

-- ---- messages

-- the range that was read is the message's
same_range : (range q : Option Lengths) → Agrees q range → range_count q ≡ range_count range → q ≡ range
same_range range (Some other) agrees count = sym agrees
same_range None None agrees count = refl
same_range (Some range) None agrees count = absurd (omega arith)

-- the end of a message whose frames have been read
abbrev message_end : Draft → List ℕ → Reads BriefFrame → Reads BriefItem
message_end draft name given = given >>= λ frames. token_as end_in frames.1 >>= λ end. grouped_refusal draft name end.2.range frames.0 end.1 end.2 >>= λ after. Ok (message name after.range frames.0, after)

-- no name that is made is refused
grouped_again : (draft : Draft) (name : List ℕ) (range : Option Lengths) (groups : List (List ℕ)) (line : ℕ) (x : Place) → grouped_by draft name range groups 0 range ≡ Ok range → grouped_by draft name range groups line x ≡ Ok x
grouped_again draft name range [] line x e = refl
grouped_again draft name range (group ∷ others) line x e =
    by_tests (list_any (λ other. not (bytes_eq other group)) others) (nat_lt MOST_MESSAGES (length (devices_of draft group)))
    (nat_lt MOST_MESSAGES (length draft.plan.messages + length (devices_of draft group) * how_many range)) (list_any (is_long range) (device_names draft name group))
    (list_any (is_message draft) (further_names range (device_names draft name group))) (repeats (further_names range (device_names draft name group))) e
  where
    by_tests : (a b c d k m : Bool) → (if a then Err (Unexpected 0) else if b then Err (errors.TooMany 0) else if c then Err (errors.TooMany 0) else if d then Err (Unexpected 0) else if k then Err (errors.Twice 0) else if m then Err (errors.Twice 0) else Ok range) ≡ done range
        → (if a then Err (Unexpected line) else if b then Err (errors.TooMany line) else if c then Err (errors.TooMany line) else if d then Err (Unexpected line) else if k then Err (errors.Twice line) else if m then Err (errors.Twice line) else Ok x) ≡ done x
    by_tests false false false false false false h = refl
    by_tests true b c d k m h = absurd cc
    by_tests false true c d k m h = absurd cc
    by_tests false false true d k m h = absurd cc
    by_tests false false false true k m h = absurd cc
    by_tests false false false false true m h = absurd cc
    by_tests false false false false false true h = absurd cc

known_is : (o : Option ℕ) → is_some o ≡ true → (x : ℕ) × (o ≡ Some x)
known_is (Some x) e = (x, refl)
known_is None e = absurd cc

-- ---- items

-- an item is read again, whatever the messages before it had
pub record ItemAgain (l : Letters) (draft : Draft) (item : BriefItem) (nodes : ℕ) (p : Option Lengths) (from to : Tokens) : Type 0 where
  pub later : ℕ
  pub range : Option Lengths
  pub is : item_at l draft (spot from nodes p) ≡ Ok (item, spot to later range)

module _ (l : Letters) (draft : Draft) (nodes : ℕ) (p : Option Lengths) (from to : Tokens) where
  message_again : (name : List ℕ) (range : Option Lengths) (f : BriefFrame) → MessageFits draft name range f → SpellsItem l (message name range f) from to → ItemAgain l draft (message name range f) nodes p from to
  unfolding item_at message_at
  message_again name range f fits s =
      let g : Around = record { draft = draft; name = name } in
      let start = token_again nodes p (item_in l) (keyword keywords.Message) message_at from s.0 s.1 refl in
      let named = name_again nodes p (message_refusal_of draft) name s.0 s.2.0 s.2.1 fits.new in
      let sized = size_allowed (frame_meant draft (most_often range) f) (longest_within draft name range f s.2.0 s.2.2.0 s.2.2.1 fits.ranges fits.each) in
      let nodes_now : ℕ = 0 + 1 * frame_nodes (frame_meant draft (most_often range) f) in
      let small : 0 + 1 * frame_nodes (frame_meant draft (most_often range) f) ≤ MOST_NODES = (let h = sized.1 in omega (arith, h)) in
      let whole = frame_again g range fits.members f MOST_BYTES 1 0 None s.2.0 s.2.2.0 s.2.2.1 (ap closes s.2.2.2.1) fits.knows sized.0 small tt (fewer range fits.ranges) in
      let same = same_range range whole.range whole.agrees (omega (arith, whole.count, fits.ranges)) in
      record { later = nodes_now; range = whole.range; is = rw (start, named) (ended whole.range nodes_now whole.is same) }
    where
      fewer : (o : Option Lengths) → frame_ranges f ≡ range_count o → range_count None + frame_ranges f ≤ 1
      fewer None h = omega arith
      fewer (Some range) h = omega arith

      ended : (q : Option Lengths) (k : ℕ) → frames_at (record { draft = draft; name = name }) MOST_BYTES 1 (spot s.2.0 0 None) ≡ Ok (f, spot s.2.2.0 k q) → q ≡ range
          → message_end draft name (frames_at (record { draft = draft; name = name }) MOST_BYTES 1 (spot s.2.0 0 None)) ≡ Ok (message name range f, spot to k q)
      ended q k is same = rw (is, token_again k q end_in (sign signs.Semicolon) tt s.2.2.0 to s.2.2.2 refl, grouped_again draft name q (frame_groups draft f) s.2.2.2.0 (spot to k q) (subst (λ (o : Option Lengths). grouped_by draft name o (frame_groups draft f) 0 o ≡ Ok o) (sym same) fits.grouped)) (ap (λ (r : Option Lengths). done (message name r f, spot to k q)) same)

  pub item_again : (item : BriefItem) → Fits draft item → SpellsItem l item from to → ItemAgain l draft item nodes p from to
  unfolding item_at device_at byte_at controller_at extend_at interrupt_at never_at group_at
  item_again (device name address) fits s =
      let start = token_again nodes p (item_in l) (keyword keywords.Device) device_at from s.0 s.1 refl in
      let named = name_again nodes p (named_refusal draft.devices) name s.0 s.2.0 s.2.1 fits in
      let said = token_again nodes p address_in (word s.2.2.1.0) address s.2.0 s.2.2.0 s.2.2.1.1 s.2.2.1.2 in
      record { later = nodes; range = p; is = rw (start, named, said, past_again nodes p end_in (sign signs.Semicolon) s.2.2.0 to s.2.2.2 refl) refl }
  item_again (byte name bits) fits s =
      let start = token_again nodes p (item_in l) (keyword keywords.Byte) byte_at from s.0 s.1 refl in
      let named = name_again nodes p (named_refusal draft.bytes) name s.0 s.2.0 s.2.1 fits in
      let said = token_again nodes p pattern_in (word s.2.2.1.0) bits s.2.0 s.2.2.0 s.2.2.1.1 s.2.2.1.2 in
      record { later = nodes; range = p; is = rw (start, named, said, past_again nodes p end_in (sign signs.Semicolon) s.2.2.0 to s.2.2.2 refl) refl }
  item_again (device_group name []) fits s = absurd s.2.2.1
  item_again (device_group name (first ∷ others)) fits s =
      let start = token_again nodes p (item_in l) (keyword keywords.Group) group_at from s.0 s.1 refl in
      let named = name_again nodes p (named_refusal draft.devices) name s.0 s.2.0 s.2.1 fits.0 in
      let one_device = name_again nodes p (device_refusal draft []) first s.2.0 s.2.2.1.0 s.2.2.1.1 fits.1.0 in
      record { later = nodes; range = p; is = rw (start, named, one_device, names_again others (device_refusal draft) (first ∷ []) nodes p s.2.2.1.0 s.2.2.0 to fits.1.1 s.2.2.1.2 s.2.2.2) refl }
  item_again (message name range frame) fits s = message_again name range frame fits s
  item_again (controller name names) fits s =
      let start = token_again nodes p (item_in l) (keyword keywords.Controller) controller_at from s.0 s.1 refl in
      let named = name_again nodes p (controller_refusal_of draft) name s.0 s.2.0 s.2.1 fits.0 in
      record { later = nodes; range = p; is = rw (start, named, names_again names (listed_refusal draft []) [] nodes p s.2.0 s.2.2.0 to fits.1 s.2.2.1 s.2.2.2) refl }
  item_again (extend name names) fits s =
      let start = token_again nodes p (item_in l) (keyword keywords.Extend) extend_at from s.0 s.1 refl in
      let named = name_again nodes p (extend_refusal_of draft) name s.0 s.2.0 s.2.1 fits.0 in
      record { later = nodes; range = p; is = rw (start, named, names_again names (listed_refusal draft (listed_by draft name)) [] nodes p s.2.0 s.2.2.0 to fits.1 s.2.2.1 s.2.2.2) refl }
  item_again (interrupt name target) fits s =
      let start = token_again nodes p (item_in l) (keyword keywords.Interrupt) interrupt_at from s.0 s.1 refl in
      let named = name_again nodes p (interrupt_refusal draft.plan) name s.0 s.2.0 s.2.1 fits.0 in
      let said = to_again nodes p draft target s.2.0 s.2.2.0 s.2.2.1 fits.1 in
      let known = known_is (known_number 0 (address_bits (address_said draft target))) fits.2 in
      record { later = nodes; range = p; is = rw (start, named, said.1, known.1, past_again nodes p end_in (sign signs.Semicolon) s.2.2.0 to s.2.2.2 refl) refl }
  item_again (never_both first second) fits s =
      let start = token_again nodes p (item_in l) (keyword keywords.Never) (never_at l) from s.0 s.1 refl in
      let one_side = token_again nodes p (side_in l) (word s.2.1.0) first s.0 s.2.0 s.2.1.1 s.2.1.2 in
      let other = token_again nodes p (side_in l) (word s.2.2.1.0) second s.2.0 s.2.2.0 s.2.2.1.1 s.2.2.1.2 in
      record { later = nodes; range = p; is = rw (start, one_side, fits.0, other, fits.1, past_again nodes p end_in (sign signs.Semicolon) s.2.2.0 to s.2.2.2 refl) refl }
