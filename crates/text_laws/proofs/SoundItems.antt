-- Each item that fits leaves a sound draft sound, so every draft that was read is.
use Rattle.std.proofs.Common.{◌≡◌, ℕ, suc, ◌+◌, ◌*◌, ◌^◌, ◌<◌, ◌≤◌, ◌⊎◌, inl, inr, ◌&&◌, ◌||◌, Bool, true, false, not, cond, List, [], ◌∷◌, ◌++◌, map, length, Option, Some, None, is_some, refl, ap, sym, ◌∙◌, subst, arith, true≢false, take, drop, codes}
use Rattle.std.specs.Prelude.{if◌then◌else◌, nat_lt, nat_le, unwrap_or}
use Rattle.std.specs.List.{list_any, filter, flat_map, prefix_len}
use Rattle.std.specs.Map.{lookup, keys_of}
use Rattle.std.specs.Str.{bytes_eq}
use Rattle.std.proofs.lemmas.Bool.{and_parts, leb-false, ltb-false, ltb-true}
use Rattle.std.proofs.lemmas.List.{append_assoc, length-append, append-nil, map-append, length-take, length-drop}
use Rattle.std.proofs.lemmas.List.Concat.{flat_map-append}
use Rattle.std.proofs.lemmas.List.Sums.{sum_by_push}
use Rattle.std.proofs.lemmas.Grind.{common_steps}
use Rattle.message_tree.specs.Patterns.{address_bits}
use Rattle.message_tree.specs.declared.bits.Address.{Address}
use Rattle.message_tree.specs.declared.bits.Bit.{Bit}
use Rattle.message_tree.specs.declared.bits.Bit.TheVariants.{Zero, One, Either}
use Rattle.message_tree.specs.declared.bits.Pattern.{Pattern}
use Rattle.plan_core.specs.Building.{has_name, with_interrupt}
use Rattle.plan_core.specs.Names.{IsName, is_name}
use Rattle.plan_core.specs.declared.builder.BuildError.TheVariants.{Twice, Unknown, TooMany}
use Rattle.plan_core.specs.declared.limits.TheConstants.{MOST_CONTROLLERS, MOST_SENDINGS}
use Rattle.plan_core.proofs.BuildingLemmas.{passes, same-bytes_eq, limits-interrupt}
use Rattle.brief_text.specs.declared.syntax.Lengths.{Lengths}
use Rattle.brief_text.specs.Drafts.{Draft, stands_for, extended, address_said, number_said, same_label, same_side, is_new_label, with_label, with_item, no_items}
use Rattle.brief_text.specs.Fitting.{ListFits, Fits, MakeUp, frame_ranges, bytes_ranges, tail_ranges, often_ranges, made_ranges}
use Rattle.brief_text.specs.Items.{listed_refusal}
use Rattle.brief_text.specs.Judging.{is_family, is_message, taken_names, is_taken, controller_refusal_of, extend_refusal_of, is_labelled, is_side_of, listed_by, all_of, have_one_of, sendings, listing_refusal, is_side, part_refusal, first_refusal, second_refusal}
use Rattle.brief_text.specs.Splitting.{side_name, labels_of, parts_of, parts}
use Rattle.brief_text.specs.Trees.{Side, device, byte, device_group, controller, extend, interrupt, never_both, Said, Times, BriefFrame, write_to, read_from, BriefBytes, data_byte, made_byte, no_more, BriefTail, stop_here, go_on, Made, header, packet_code, checksum, chosen, BriefItem, message}
use Rattle.brief_text.specs.Words.{known_number, is_range, is_further_word, is_brief_name, is_no_slash, halves_at, around_slash, whole_side, label_side, side_from, side_by}
use Rattle.text_laws.proofs.EntryNames.{has_name_in, keys_both, in_keys_left, in_keys_either, lookup_in, lookup_last}
use Rattle.text_laws.proofs.Membership.{In, Distinct, in_left, in_right, in_either, in_last, distinct_both, distinct_push, in_map, any_in, in_any, is_false, not_both, true_or_false, or_either, or_neither, in_among, holds, holds_in, in_holds}
use Rattle.text_laws.proofs.Extensions.{extended_keys, extended_in, extended_sum, extended_parts, same_parts_of, none_where, one_part_of}
use Rattle.text_laws.proofs.SoundDrafts.{Listings, family_of, grouped_of, Labels, ListSound, LabelSound, SideSound, Sound}
use Rattle.text_laws.proofs.Standings.{Alone, alone_cases, made_by, Stands, stands_cases, stands_once, stands_known}
use Rattle.text_laws.proofs.PartLemmas.{one_side}
use Rattle.plan_core.proofs.ContentsLemmas.{empty_within}
use Rattle.brief_text.specs.Grammar.{SpellsFrame, SpellsBytes, SpellsNext, SpellsRefused, SpellsMade, SpellsOften, SpellsNames, SpellsSome, SpellsItem, SpellsItems}
use Rattle.brief_text.proofs.BlockLemmas.{choice_range}
use Rattle.brief_text.proofs.TakesLemmas.{le_from}
use Rattle.lexer.specs.declared.lexemes.Letters.{Letters}
use Rattle.brief_tokens.specs.Names.{is_brief_word}
use Rattle.brief_tokens.specs.Tokens.{Tokens}
use Rattle.text_laws.specs.Several.{EachSpells, all_items, WasRead}
use Rattle.text_laws.proofs.Families.{sound_message}
use Rattle.text_laws.proofs.JoinedNames.{name_parts, is_joined}
use Rattle.text_laws.proofs.SeveralLemmas.{texts_take, make_up_split}

-- ---- interrupts

doubled : (n p q k : ℕ) → q ≡ 2 * p → k < (n * 2 + 2) * p → k < (n + 1) * q
doubled n p q k twice less = let e : (n + 1) * q ≡ (n + 1) * (2 * p) = ap (λ x. (n + 1) * x) twice in omega (arith, e, less)

known_below : (bits : List Bit) (n k : ℕ) → known_number n bits ≡ Some k → k < (n + 1) * 2 ^ length bits
known_below [] n k e = let same : n ≡ k = cc in omega (arith, same)
known_below (Zero ∷ bits) n k e =
    let rest = known_below bits (n * 2) k e in
    let size : 2 ^ suc (length bits) ≡ 2 * 2 ^ length bits = omega arith in
    doubled n (2 ^ length bits) (2 ^ suc (length bits)) k size (omega (arith, rest))
known_below (One ∷ bits) n k e =
    let rest = known_below bits (n * 2 + 1) k e in
    let size : 2 ^ suc (length bits) ≡ 2 * 2 ^ length bits = omega arith in
    doubled n (2 ^ length bits) (2 ^ suc (length bits)) k size (omega (arith, rest))
known_below (Either ∷ bits) n k e = absurd cc

seven : (a : Address) → length (address_bits a) ≡ 7
unfolding address_bits
seven a = refl

number_small : (draft : Draft) (to : Said Address) → is_some (known_number 0 (address_bits (address_said draft to))) ≡ true → number_said draft to < 128
number_small draft to some = grind (arith, common_steps, known_below, seven)

pub sound_interrupt : (draft : Draft) (name : List ℕ) (to : Said Address) → Sound draft → IsName name → Fits draft (interrupt name to) → Sound (with_item draft (interrupt name to))
unfolding with_item with_interrupt parts
sound_interrupt draft name to sound is fits = grind (arith, common_steps, limits-interrupt, number_small)

-- ---- devices and bytes

pub sound_device : (draft : Draft) (name : List ℕ) (address : Address) → Sound draft → Sound (with_item draft (device name address))
unfolding with_item parts
sound_device draft name address sound = grind (arith, common_steps)

pub sound_byte : (draft : Draft) (name : List ℕ) (bits : Pattern) → Sound draft → Sound (with_item draft (byte name bits))
unfolding with_item parts
sound_byte draft name bits sound = grind (arith, common_steps)

all_named : (names : List (List ℕ)) (from to : Tokens) → SpellsNames names from to → (d : List ℕ) → In d names → IsName d
all_named [] from to s d h = absurd h
all_named (n ∷ names) from to s d (inl e) = subst IsName (sym e) s.1.1
all_named (n ∷ names) from to s d (inr h) = all_named names s.0 to s.2 d h

some_named : (names : List (List ℕ)) (from to : Tokens) → SpellsSome names from to → (d : List ℕ) → In d names → IsName d
some_named [] from to s d h = absurd s
some_named (n ∷ names) from to s d (inl e) = subst IsName (sym e) s.1.1
some_named (n ∷ names) from to s d (inr h) = all_named names s.0 to s.2 d h

pub sound_group : (draft : Draft) (name : List ℕ) (devices : List (List ℕ)) → Sound draft → ((d : List ℕ) → In d devices → IsName d) → Sound (with_item draft (device_group name devices))
unfolding with_item parts
sound_group draft name devices sound named = record {
  limits = sound.limits;
  no_controllers = sound.no_controllers;
  no_nevers = sound.no_nevers;
  families = sound.families;
  grouped = sound.grouped;
  devices = λ a d names e h. elim (lookup_last a draft.groups name devices names e) [ inl f ↦ sound.devices a d names f h | inr f ↦ named d (subst (λ (them : List (List ℕ)). In d them) (sym f.1) h) ];
  controllers = sound.controllers;
  labels = sound.labels;
  few_parts = sound.few_parts;
  nevers = sound.nevers;
}

-- ---- controllers

module _ (draft : Draft) (sound : Sound draft) where
  -- what is a message or a family stands for messages
  listed_known : (name : List ℕ) → is_message draft name ≡ true → Labels draft.plan.messages draft.families draft.grouped name
  listed_known name known = by (or_either (is_family draft name) (has_name name draft.plan.messages) known)
    where
      family : (o : Option Lengths) (p : Option (List (List ℕ))) → family_of name draft.families ≡ o → grouped_of name draft.grouped ≡ p → (is_some o || is_some p) ≡ true → Labels draft.plan.messages draft.families draft.grouped name
      family (Some r) p e f g = inr (inl (r, e))
      family None (Some names) e f g = inl (names, f)
      family None None e f g = absurd (true≢false (sym g))

      by : (is_family draft name ≡ true) ⊎ (has_name name draft.plan.messages ≡ true) → Labels draft.plan.messages draft.families draft.grouped name
      by (inl f) = family (family_of name draft.families) (grouped_of name draft.grouped) refl refl f
      by (inr g) = inr (inr (has_name_in name draft.plan.messages g))

  -- these are listed after those that the controller has already
  record Listing (has names : List (List ℕ)) : Type 0 where
    whole : ListSound draft.plan.messages (has ++ names)
    room : sendings draft + length names ≤ MOST_SENDINGS

  listed_on : (has before names : List (List ℕ)) → ListFits (listed_refusal draft has) before names → Listing has (all_of draft before) → Listing has (all_of draft (before ++ names))
  unfolding listing_refusal
  listed_on has before [] fits so_far = subst (λ (ns : List (List ℕ)). Listing has (all_of draft ns)) (sym (append-nil before)) so_far
  listed_on has before (name ∷ names) fits so_far =
      let listed = all_of draft before in
      let first = passes (not (is_message draft name)) Unknown _ fits.0 in
      let second = passes (have_one_of has (stands_for draft name) || have_one_of listed (stands_for draft name)) Twice _ first.1 in
      let neither = or_neither (have_one_of has (stands_for draft name)) (have_one_of listed (stands_for draft name)) second.0 in
      let third = passes (nat_lt MOST_SENDINGS (sendings draft + length listed + length (stands_for draft name))) TooMany _ second.1 in
      let known = is_true (is_message draft name) first.0 in
      let split : all_of draft (before ++ name ∷ []) ≡ listed ++ stands_for draft name = flat_map-append (stands_for draft) before (name ∷ []) ∙ ap (λ (ns : List (List ℕ)). listed ++ ns) (append-nil (stands_for draft name)) in
      let fresh_of : (those : List (List ℕ)) (m : List ℕ) → have_one_of those (stands_for draft name) ≡ false → In m those → In m (stands_for draft name) → ⊥ = λ those m none h g.
      not_both (have_one_of those (stands_for draft name)) (in_any (λ n. holds n those) (stands_for draft name) m g (in_holds m those h)) none in
      let fresh : (m : List ℕ) → In m (has ++ listed) → In m (stands_for draft name) → ⊥ = λ m h g.
      elim (in_either m has listed h) [ inl a ↦ fresh_of has m neither.0 a g | inr b ↦ fresh_of listed m neither.1 b g ] in
      let both : ListSound draft.plan.messages ((has ++ listed) ++ stands_for draft name) = record {
        once = distinct_both (has ++ listed) (stands_for draft name) so_far.whole.once (stands_once draft sound name) fresh;
        known = λ m h. elim (in_either m (has ++ listed) (stands_for draft name) h) [ inl a ↦ so_far.whole.known m a | inr b ↦ stands_known draft sound name (listed_known name known) m b ];
      } in
      let all : ListSound draft.plan.messages (has ++ (listed ++ stands_for draft name)) = subst (ListSound draft.plan.messages) (append_assoc has listed (stands_for draft name)) both in
      let size = length-append listed (stands_for draft name) in
      let few = ltb-false MOST_SENDINGS (sendings draft + length listed + length (stands_for draft name)) third.0 in
      let next : Listing has (listed ++ stands_for draft name) = record { whole = all; room = omega (arith, size, few) } in
      subst (λ (ns : List (List ℕ)). Listing has (all_of draft ns)) (append_assoc before (name ∷ []) names)
      (listed_on has (before ++ name ∷ []) names fits.1 (subst (Listing has) (sym split) next))
    where
      is_true : (b : Bool) → not b ≡ false → b ≡ true
      is_true true e = refl
      is_true false e = absurd (true≢false e)

  module _ (name : List ℕ) (messages : List (List ℕ)) (is : IsName name) (fits : Fits draft (controller name messages)) where
    abbrev listed : List (List ℕ)
    listed = flat_map (stands_for draft) messages

    abbrev with_new : Draft
    with_new = record draft { controllers = draft.controllers ++ (name, listed) ∷ [] }

    free : (is_taken draft name ≡ false) × (length (parts draft) < MOST_CONTROLLERS)
    unfolding controller_refusal_of
    free = grind (arith, common_steps, passes, leb-false)

    no_key : In name (keys_of draft.controllers) → ⊥
    no_key h = not_both (is_taken draft name) (in_among name (taken_names draft) (in_left name (keys_of draft.controllers) (map side_name draft.labels) h)) free.0

    no_label : In name (map side_name draft.labels) → ⊥
    no_label h = not_both (is_taken draft name) (in_among name (taken_names draft) (in_right name (keys_of draft.controllers) (map side_name draft.labels) h)) free.0

    all : Listing [] listed
    all = listed_on [] [] messages fits.1 (record { whole = record { once = tt; known = λ m h. absurd h }; room = omega (arith, sound.controllers.few) })

    -- no label is of this controller
    unlabelled : labels_of draft name ≡ []
    unlabelled = by draft.labels (λ s h. h)
      where
        by : (sides : List Side) → ((s : Side) → In s sides → In s draft.labels) → filter (λ (side : Side). bytes_eq side.controller name) sides ≡ []
        by [] within = refl
        by (s ∷ sides) within =
            let other : bytes_eq s.controller name ≡ false = is_false (bytes_eq s.controller name) (λ h. no_key (subst (λ (x : List ℕ). In x (keys_of draft.controllers)) (same-bytes_eq s.controller name h) (sound.labels.each s (within s (inl refl))).owned)) in
            ap (λ (b : Bool). cond b (s ∷ filter (λ (side : Side). bytes_eq side.controller name) sides) (filter (λ (side : Side). bytes_eq side.controller name) sides)) other
            ∙ by sides (λ t h. within t (inr h))

    one_part : length (parts with_new) ≡ length (parts draft) + 1
    unfolding parts
    one_part = grind (arith, common_steps, flat_map-append, unlabelled, length-append)

    keys_are : keys_of with_new.controllers ≡ keys_of draft.controllers ++ name ∷ []
    keys_are = keys_both draft.controllers ((name, listed) ∷ [])

    key_kept : (n : List ℕ) → In n (keys_of draft.controllers) → In n (keys_of with_new.controllers)
    key_kept n h = in_keys_left n draft.controllers ((name, listed) ∷ []) h

    key_cases : (n : List ℕ) → In n (keys_of with_new.controllers) → In n (keys_of draft.controllers) ⊎ (n ≡ name)
    key_cases n h = elim (in_keys_either n draft.controllers ((name, listed) ∷ []) h) [ inl a ↦ inl a | inr b ↦ elim b [ inl e ↦ inr e | inr k ↦ absurd k ] ]

    sound_extended : Sound with_new
    sound_extended = record {
      limits = sound.limits;
      no_controllers = sound.no_controllers;
      no_nevers = sound.no_nevers;
      families = sound.families;
      grouped = sound.grouped;
      devices = sound.devices;
      controllers = record {
        keys = subst Distinct (sym keys_are) (distinct_push (keys_of draft.controllers) name sound.controllers.keys no_key);
        named = λ n h. elim (key_cases n h) [ inl a ↦ sound.controllers.named n a | inr e ↦ subst IsName (sym e) is ];
        listed = lists;
        few = let sums = sum_by_push (λ (c : List ℕ × List (List ℕ)). length c.1) draft.controllers (name, listed) in omega (arith, sums, all.room);
      };
      labels = record {
        once = sound.labels.once;
        each = λ s h. let l = sound.labels.each s h in record {
          named = l.named;
          label = l.label;
          is = l.is;
          known = l.known;
          owned = key_kept s.controller l.owned;
          new = λ g. elim (key_cases (side_name s) g) [ inl a ↦ l.new a | inr e ↦ no_label (subst (λ (x : List ℕ). In x (map side_name draft.labels)) e (in_map side_name draft.labels s h)) ];
        };
      };
      few_parts = omega (arith, one_part, free.1);
      nevers = λ n h. let two = sound.nevers n h in ((key_kept n.0.controller two.0.0, two.0.1), (key_kept n.1.controller two.1.0, two.1.1));
    }
      where
        lists : (c : List ℕ × List (List ℕ)) → In c with_new.controllers → ListSound draft.plan.messages c.1
        lists c h = by (in_either c draft.controllers ((name, listed) ∷ []) h)
          where
            by : In c draft.controllers ⊎ In c ((name, listed) ∷ []) → ListSound draft.plan.messages c.1
            by (inl a) = sound.controllers.listed c a
            by (inr (inl e)) = subst (λ (d : List ℕ × List (List ℕ)). ListSound draft.plan.messages d.1) (sym e) all.whole
            by (inr (inr k)) = absurd k

  pub sound_controller : (name : List ℕ) (messages : List (List ℕ)) → IsName name → Fits draft (controller name messages) → Sound (with_item draft (controller name messages))
  unfolding with_item
  sound_controller name messages is fits = sound_extended name messages is fits

  -- ---- what adds to a controller

  module _ (name : List ℕ) (messages : List (List ℕ)) (fits : Fits draft (extend name messages)) where
    abbrev added : List (List ℕ)
    added = flat_map (stands_for draft) messages

    abbrev already : List (List ℕ)
    already = listed_by draft name

    abbrev longer : Listings
    longer = extended name added draft.controllers

    may_extend : (is_some (lookup (bytes_eq name) draft.controllers) ≡ true) × (is_labelled draft name ≡ false)
    unfolding extend_refusal_of
    may_extend =
        let first = passes (not (is_some (lookup (bytes_eq name) draft.controllers))) Unknown _ fits.0 in
        let second = passes (is_labelled draft name || list_any (is_side_of name) draft.nevers) Twice None first.1 in
        let neither = or_neither (is_labelled draft name) (list_any (is_side_of name) draft.nevers) second.0 in
        (by (is_some (lookup (bytes_eq name) draft.controllers)) first.0, neither.0)
      where
        by : (b : Bool) → not b ≡ false → b ≡ true
        by true e = refl
        by false e = absurd (true≢false e)

    stood : lookup (bytes_eq name) draft.controllers ≡ Some already
    stood = by (lookup (bytes_eq name) draft.controllers) may_extend.0
      where
        by : (o : Option (List (List ℕ))) → is_some o ≡ true → o ≡ Some (unwrap_or o [])
        by (Some x) e = refl
        by None e = absurd (true≢false (sym e))

    sound_already : ListSound draft.plan.messages already
    sound_already = sound.controllers.listed (name, already) (lookup_in name draft.controllers already stood)

    all_added : Listing already added
    all_added = listed_on already [] messages fits.1 (record { whole = subst (ListSound draft.plan.messages) (sym (append-nil already)) sound_already; room = omega (arith, sound.controllers.few) })

    longer_kept : (n : List ℕ) → In n (keys_of draft.controllers) → In n (keys_of longer)
    longer_kept n h = subst (λ (keys : List (List ℕ)). In n keys) (sym (extended_keys name added draft.controllers)) h

    longer_back : (n : List ℕ) → In n (keys_of longer) → In n (keys_of draft.controllers)
    longer_back n h = subst (λ (keys : List (List ℕ)). In n keys) (extended_keys name added draft.controllers) h

    same_parts : length (parts (record draft { controllers = longer })) ≡ length (parts draft)
    unfolding parts
    same_parts =
        extended_parts (parts_of (record draft { controllers = longer })) (parts_of draft) (same_parts_of draft longer) name added
        (λ listed. one_part_of draft name listed (none_where (λ (label : Side). bytes_eq label.controller name) draft.labels may_extend.1)) draft.controllers

    sound_longer : Sound (record draft { controllers = longer })
    sound_longer = record {
      limits = sound.limits;
      no_controllers = sound.no_controllers;
      no_nevers = sound.no_nevers;
      families = sound.families;
      grouped = sound.grouped;
      devices = sound.devices;
      controllers = record {
        keys = subst Distinct (sym (extended_keys name added draft.controllers)) sound.controllers.keys;
        named = λ n h. sound.controllers.named n (longer_back n h);
        listed = λ c h. elim (extended_in name added already c draft.controllers stood h) [ inl a ↦ sound.controllers.listed c a | inr e ↦ subst (ListSound draft.plan.messages) (sym e) all_added.whole ];
        few = let sums = extended_sum name added already draft.controllers stood in omega (arith, sums, all_added.room);
      };
      labels = record {
        once = sound.labels.once;
        each = λ s h. let l = sound.labels.each s h in record {
          named = l.named;
          label = l.label;
          is = l.is;
          known = l.known;
          owned = longer_kept s.controller l.owned;
          new = λ g. l.new (longer_back (side_name s) g);
        };
      };
      few_parts = omega (arith, same_parts, sound.few_parts);
      nevers = λ n h. let two = sound.nevers n h in ((longer_kept n.0.controller two.0.0, two.0.1), (longer_kept n.1.controller two.1.0, two.1.1));
    }

  pub sound_extension : (name : List ℕ) (messages : List (List ℕ)) → Fits draft (extend name messages) → Sound (with_item draft (extend name messages))
  unfolding with_item
  sound_extension name messages fits = sound_longer name messages fits

  -- ---- `never`

  -- what a word says as a side
  abbrev pub Formed : Side → Type 0
  Formed side = (label : List ℕ) → side.label ≡ Some label → IsName (side_name side)

  abbrev some : List ℕ → Option (List ℕ)
  some name = Some name

  -- one controller or part of it that a label names
  module _ (side : Side) (formed : Formed side) (stands : is_side draft side ≡ true) where
    -- the controller lists one of the messages of the label
    found : (listed : List (List ℕ)) × (lookup (bytes_eq side.controller) draft.controllers ≡ Some listed) × ((label : List ℕ) → side.label ≡ Some label → have_one_of listed (stands_for draft label) ≡ true)
    found = grind (arith, common_steps)

    owner : In side.controller (keys_of draft.controllers)
    owner = in_map (λ (c : List ℕ × List (List ℕ)). c.0) draft.controllers (side.controller, found.0) (lookup_in side.controller draft.controllers found.0 found.1)

    label_known : (label : List ℕ) → side.label ≡ Some label → Labels draft.plan.messages draft.families draft.grouped label
    label_known label is =
        let m = any_in (λ n. holds n found.0) (stands_for draft label) (found.2 label is) in
        let at = lookup_in side.controller draft.controllers found.0 found.1 in
        by m.0 ((sound.controllers.listed (side.controller, found.0) at).known m.0 (holds_in m.0 found.0 m.2)) (stands_cases draft sound m.0 label m.1)
      where
        alone : (m : List ℕ) → In m (keys_of draft.plan.messages) → Alone draft sound m label → Labels draft.plan.messages draft.families draft.grouped label
        alone m known (inl e) = inr (inr (subst (λ (x : List ℕ). In x (keys_of draft.plan.messages)) e known))
        alone m known (inr r) = inr (inl (r.0, r.1))

        by : (m : List ℕ) → In m (keys_of draft.plan.messages) → Stands draft sound m label → Labels draft.plan.messages draft.families draft.grouped label
        by m known (inl x) = alone m known (alone_cases draft sound m label x.1)
        by m known (inr k) = let f = made_by draft sound label k.0 k.1 in inl (f.0, f.1)

    module _ (free : part_refusal draft side ≡ None) where
      sound_labelled : Sound (with_label draft side)
      sound_labelled = by (is_new_label draft side) refl free
        where
          labels : List Side
          labels = draft.labels ++ side ∷ []

          by : (b : Bool) → is_new_label draft side ≡ b
              → (if not b then None else if is_taken draft (side_name side) then Some Twice else if nat_lt MOST_CONTROLLERS (length (parts (if b then record draft { labels = draft.labels ++ side ∷ [] } else draft))) then Some TooMany else None) ≡ None
              → Sound (if b then record draft { labels = draft.labels ++ side ∷ [] } else draft)
          by false e h = sound
          by true e h =
              let first = passes (is_taken draft (side_name side)) Twice _ h in
              let second = passes (nat_lt MOST_CONTROLLERS (length (parts (record draft { labels = draft.labels ++ side ∷ [] })))) TooMany None first.1 in
              let is = label_of side.label refl (and_parts (is_some side.label) (not (list_any (λ other. same_side other side) draft.labels)) e).0 in
              let taken = λ (h : In (side_name side) (taken_names draft)). not_both (is_taken draft (side_name side)) (in_among (side_name side) (taken_names draft) h) first.0 in
              record {
                limits = sound.limits;
                no_controllers = sound.no_controllers;
                no_nevers = sound.no_nevers;
                families = sound.families;
                grouped = sound.grouped;
                devices = sound.devices;
                controllers = sound.controllers;
                labels = record {
                  once = subst Distinct (sym (map-append side_name draft.labels (side ∷ []))) (distinct_push (map side_name draft.labels) (side_name side) sound.labels.once (λ g. taken (in_right (side_name side) (keys_of draft.controllers) (map side_name draft.labels) g)));
                  each = λ s g. each s (in_either s draft.labels (side ∷ []) g) is (λ k. taken (in_left (side_name side) (keys_of draft.controllers) (map side_name draft.labels) k));
                };
                few_parts = ltb-false MOST_CONTROLLERS (length (parts (record draft { labels = draft.labels ++ side ∷ [] }))) second.0;
                nevers = λ n g. let two = sound.nevers n g in ((two.0.0, kept n.0 two.0.1), (two.1.0, kept n.1 two.1.1));
              }
            where
              label_of : (o : Option (List ℕ)) → side.label ≡ o → is_some o ≡ true → (label : List ℕ) × (side.label ≡ Some label)
              label_of o e f = grind (arith, common_steps)

              kept : (s : Side) → (s.label ≡ None) ⊎ In s draft.labels → (s.label ≡ None) ⊎ In s (draft.labels ++ side ∷ [])
              kept s e = grind (arith, common_steps, in_left)

              each : (s : Side) → In s draft.labels ⊎ In s (side ∷ []) → ((label : List ℕ) × (side.label ≡ Some label)) → (In (side_name side) (keys_of draft.controllers) → ⊥) → LabelSound draft.plan.messages draft.families draft.grouped (keys_of draft.controllers) s
              each s (inl g) is new = sound.labels.each s g
              each s (inr (inl same)) is new = subst (LabelSound draft.plan.messages draft.families draft.grouped (keys_of draft.controllers)) (sym same)
                  (record { named = formed is.0 is.1; new = new; label = is.0; is = is.1; known = label_known is.0 is.1; owned = owner })
              each s (inr (inr k)) is new = absurd k

      -- it was named before, or it is now
      side_named : SideSound (keys_of draft.controllers) (with_label draft side).labels side
      side_named = (owner, by side.label (is_new_label draft side) refl refl)
        where
          by : (o : Option (List ℕ)) (b : Bool) → side.label ≡ o → is_new_label draft side ≡ b → (side.label ≡ None) ⊎ In side (if b then record draft { labels = draft.labels ++ side ∷ [] } else draft).labels
          by None b e f = inl e
          by (Some label) true e f = inr (in_last side draft.labels)
          by (Some label) false e f = inr (stood (true_or_false (list_any (λ other. same_side other side) draft.labels)))
            where
              stood : (list_any (λ other. same_side other side) draft.labels ≡ true) ⊎ (list_any (λ other. same_side other side) draft.labels ≡ false) → In side draft.labels
              stood (inr none) = absurd (true≢false (sym (new_is (is_some side.label) (list_any (λ other. same_side other side) draft.labels) (ap is_some e) none) ∙ f))
                where
                  new_is : (a c : Bool) → a ≡ true → c ≡ false → (a && not c) ≡ true
                  new_is a c g h = rw (g, h) refl
              stood (inl before) =
                  let m = any_in (λ other. same_side other side) draft.labels before in
                  subst (λ (x : Side). In x draft.labels) (same_is m.0 side m.2) m.1
                where
                  labels_same : (x y : Option (List ℕ)) → same_label x y ≡ true → x ≡ y
                  labels_same None None h = refl
                  labels_same (Some x) (Some y) h = ap (λ (l : List ℕ). Some l) (same-bytes_eq x y h)
                  labels_same None (Some y) h = absurd (true≢false (sym h))
                  labels_same (Some x) None h = absurd (true≢false (sym h))

                  same_is : (s t : Side) → same_side s t ≡ true → s ≡ t
                  same_is s t h =
                      let p = and_parts (bytes_eq s.controller t.controller) (same_label s.label t.label) h in
                      one_side s t (same-bytes_eq s.controller t.controller p.0) (labels_same s.label t.label p.1)

-- ---- the whole item

-- where a side stays known
labels_more : (draft : Draft) (side other : Side) → SideSound (keys_of draft.controllers) draft.labels other → SideSound (keys_of (with_label draft side).controllers) (with_label draft side).labels other
labels_more draft side other known = grind (arith, common_steps, in_left)

same_keys : (draft : Draft) (side : Side) → keys_of (with_label draft side).controllers ≡ keys_of draft.controllers
same_keys draft side = grind (arith, common_steps)

sound_nevers : (draft : Draft) (nevers : List (Side × Side)) → Sound draft
    → ((never : Side × Side) → In never nevers → SideSound (keys_of draft.controllers) draft.labels never.0 × SideSound (keys_of draft.controllers) draft.labels never.1) → Sound (record draft { nevers = nevers })
unfolding parts
sound_nevers draft nevers sound each = grind (arith, common_steps)

-- why a side is not refused
first_free : (draft : Draft) (first : Side) → first_refusal draft first ≡ None → (is_side draft first ≡ true) × (part_refusal draft first ≡ None)
unfolding first_refusal
first_free draft first e = grind (arith, common_steps)

second_free : (draft : Draft) (first second : Side) → second_refusal draft first second ≡ None → (is_side draft second ≡ true) × (part_refusal draft second ≡ None)
unfolding second_refusal
second_free draft first second e = grind (arith, common_steps, passes)

pub sound_never : (draft : Draft) (first second : Side) → Sound draft → ((label : List ℕ) → first.label ≡ Some label → IsName (side_name first)) → ((label : List ℕ) → second.label ≡ Some label → IsName (side_name second))
    → Fits draft (never_both first second) → Sound (with_item draft (never_both first second))
unfolding with_item
sound_never draft first second sound formed also fits =
    let one = first_free draft first fits.0 in
    let middle = with_label draft first in
    let two = second_free middle first second fits.1 in
    let labelled = sound_labelled draft sound first formed one.0 one.1 in
    let all = sound_labelled middle labelled second also two.0 two.1 in
    let here = labels_more middle second first (subst (λ (keys : List (List ℕ)). SideSound keys middle.labels first) (sym (same_keys draft first)) (side_named draft sound first formed one.0 one.1)) in
    let there = subst (λ (keys : List (List ℕ)). SideSound keys (with_label middle second).labels second) (sym (same_keys middle second)) (side_named middle labelled second also two.0 two.1) in
    sound_nevers (with_label middle second) (draft.nevers ++ (first, second) ∷ []) all (each here there)
  where
    each : SideSound (keys_of (with_label (with_label draft first) second).controllers) (with_label (with_label draft first) second).labels first
        → SideSound (keys_of (with_label (with_label draft first) second).controllers) (with_label (with_label draft first) second).labels second
        → (never : Side × Side) → In never (draft.nevers ++ (first, second) ∷ [])
        → SideSound (keys_of (with_label (with_label draft first) second).controllers) (with_label (with_label draft first) second).labels never.0
        × SideSound (keys_of (with_label (with_label draft first) second).controllers) (with_label (with_label draft first) second).labels never.1
    each here there never h = by (in_either never draft.nevers ((first, second) ∷ []) h)
      where
        by : In never draft.nevers ⊎ In never ((first, second) ∷ [])
            → SideSound (keys_of (with_label (with_label draft first) second).controllers) (with_label (with_label draft first) second).labels never.0
            × SideSound (keys_of (with_label (with_label draft first) second).controllers) (with_label (with_label draft first) second).labels never.1
        by (inl a) = let k = sound.nevers never a in (labels_more (with_label draft first) second never.0 (labels_more draft first never.0 k.0), labels_more (with_label draft first) second never.1 (labels_more draft first never.1 k.1))
        by (inr (inl e)) =
            subst (λ (n : Side × Side). SideSound (keys_of (with_label (with_label draft first) second).controllers) (with_label (with_label draft first) second).labels n.0
            × SideSound (keys_of (with_label (with_label draft first) second).controllers) (with_label (with_label draft first) second).labels n.1) (sym e) (here, there)
        by (inr (inr k)) = absurd k

-- ---- every draft that was read is sound

-- ---- labels

abbrev some_side : Side → Option Side
some_side side = Some side

-- the halves of a word
halves_are : (slash : ℕ) (word : List ℕ) (halves : List ℕ × List ℕ) → halves_at slash word ≡ Some halves → (slash < length word) × (take slash word ≡ halves.0) × (drop (slash + 1) word ≡ halves.1)
halves_are slash word halves e = grind (arith, common_steps, ltb-true)

-- what a name of briefs is among others
plain_name : (letters : Letters) (bytes : List ℕ) → is_brief_name letters bytes ≡ true → is_name bytes ≡ true
plain_name letters bytes is =
    (and_parts (is_name bytes) (not (is_brief_word bytes)) (and_parts (is_name bytes && not (is_brief_word bytes)) (not (is_further_word letters bytes)) is).0).0

label_named : (word first second : List ℕ) → around_slash word ≡ Some (first, second) → length word ≤ 32 → is_name first ≡ true → is_name second ≡ true → IsName (first ++ codes "_" ++ second)
unfolding around_slash
label_named word first second e short front back =
    let at = halves_are (prefix_len is_no_slash word) word (first, second) e in
    let taken = length-take (prefix_len is_no_slash word) word in
    let dropped = length-drop (prefix_len is_no_slash word + 1) word in
    let one = ap length at.1 in
    let two = ap length at.2 in
    let whole = length-append (first ++ codes "_") second in
    let start = length-append first (codes "_") in
    is_joined first second front (name_parts second back).all (omega (arith, taken, dropped, one, two, whole, start, at.0, short))

side_formed : (letters : Letters) (word : List ℕ) (side : Side) → side_by letters word ≡ Some side → (label : List ℕ) → side.label ≡ Some label → IsName (side_name side)
unfolding side_by
side_formed letters word side e label is = by_halves (around_slash word) refl e
  where
    by_halves : (o : Option (List ℕ × List ℕ)) → around_slash word ≡ o → side_from letters o word ≡ Some side → IsName (side_name side)
    by_halves None at h = by_name (is_name word) h
      where
        by_name : (t : Bool) → whole_side t word ≡ some_side side → IsName (side_name side)
        by_name true g =
            let whole : record { controller = word; label = None } ≡ side = cc in
            let none : None ≡ Some label = ap (λ (s : Side). s.label) whole ∙ is in
            absurd cc
        by_name false g = absurd cc
    by_halves (Some halves) at h = by_test (nat_le (length word) 32 && is_brief_name letters halves.0 && is_brief_name letters halves.1) refl h
      where
        by_test : (t : Bool) → (nat_le (length word) 32 && is_brief_name letters halves.0 && is_brief_name letters halves.1) ≡ t → label_side t halves ≡ some_side side → IsName (side_name side)
        by_test true p g =
            let two = and_parts (nat_le (length word) 32 && is_brief_name letters halves.0) (is_brief_name letters halves.1) p in
            let one = and_parts (nat_le (length word) 32) (is_brief_name letters halves.0) two.0 in
            let same : record { controller = halves.0; label = Some halves.1 } ≡ side = cc in
            subst (λ (s : Side). IsName (side_name s)) same (label_named word halves.0 halves.1 at (le_from (length word) 32 one.0) (plain_name letters halves.0 one.1) (plain_name letters halves.1 two.1))
        by_test false p g = absurd cc

-- ---- a range that is spelled

-- where it is no range no byte stands in it
module _ (range : Lengths) (none : is_range range.least range.greatest ≡ false) where
  abbrev R : Option Lengths
  R = Some range

  often_range : (often : Times) (from to : Tokens) → SpellsOften R often from to → often_ranges often ≡ 0
  often_range often from to e = grind (arith, common_steps)

  made_range : (made : Made) (from to : Tokens) → SpellsMade R made from to → made_ranges made ≡ 0
  made_range (header reads target) from to s = refl
  made_range packet_code from to s = refl
  made_range checksum from to s = refl
  made_range (chosen choice) from to s = let is = choice_range choice range s.1 s.2 in absurd (true≢false (sym is ∙ none))

  mutual
    frame_range : (f : BriefFrame) (from to : Tokens) → SpellsFrame R f from to → frame_ranges f ≡ 0
    frame_range (write_to target refused acked) from to s = omega (arith, refused_range refused s.2.0 s.2.2.0 s.2.2.1, bytes_range acked s.2.2.0 to s.2.2.2)
    frame_range (read_from target count refused after) from to s = omega (arith, refused_range refused s.2.2.0 s.2.2.2.0 s.2.2.2.1, next_range after s.2.2.2.0 to s.2.2.2.2)

    bytes_range : (b : BriefBytes) (from to : Tokens) → SpellsBytes R b from to → bytes_ranges b ≡ 0
    bytes_range (data_byte bits often refused acked) from to s =
        omega (arith, often_range often s.0 s.2.0 s.2.1, refused_range refused s.2.0 s.2.2.0 s.2.2.1, bytes_range acked s.2.2.0 to s.2.2.2)
    bytes_range (made_byte made refused acked) from to s = omega (arith, made_range made from s.0 s.1, refused_range refused s.0 s.2.0 s.2.1, bytes_range acked s.2.0 to s.2.2)
    bytes_range (no_more tail) from to s = next_range tail from to s

    next_range : (t : BriefTail) (from to : Tokens) → SpellsNext R t from to → tail_ranges t ≡ 0
    next_range stop_here from to s = refl
    next_range (go_on frame) from to s = frame_range frame from to s

    refused_range : (t : BriefTail) (from to : Tokens) → SpellsRefused R t from to → tail_ranges t ≡ 0
    refused_range stop_here from to s = refl
    refused_range (go_on frame) from to s = frame_range frame s.2.0 s.2.2.0 s.2.2.1

range_small : (range : Lengths) (f : BriefFrame) (from to : Tokens) → SpellsFrame (Some range) f from to → frame_ranges f ≡ 1 → range.greatest ≤ 255
range_small range f from to s one = let none = λ (is : is_range range.least range.greatest ≡ false). frame_range range is f from to s in grind (arith, common_steps, and_parts, le_from, none)

-- ---- items

sound_item : (letters : Letters) (draft : Draft) (item : BriefItem) (from to : Tokens) → Sound draft → Fits draft item → SpellsItem letters item from to → Sound (with_item draft item)
sound_item letters draft (device name address) from to sound fits s = sound_device draft name address sound
sound_item letters draft (byte name bits) from to sound fits s = sound_byte draft name bits sound
sound_item letters draft (device_group name devices) from to sound fits s = sound_group draft name devices sound (some_named devices s.2.0 s.2.2.0 s.2.2.1)
sound_item letters draft (message name None frame) from to sound fits s = sound_message draft name None frame sound s.2.1.1 (λ r e. absurd cc) fits
sound_item letters draft (message name (Some range) frame) from to sound fits s =
    let small = range_small range frame s.2.0 s.2.2.0 s.2.2.1 fits.ranges in
    sound_message draft name (Some range) frame sound s.2.1.1 (λ r e. let same : range ≡ r = cc in subst (λ (l : Lengths). l.greatest ≤ 255) same small) fits
sound_item letters draft (controller name messages) from to sound fits s = sound_controller draft sound name messages s.2.1.1 fits
sound_item letters draft (extend name messages) from to sound fits s = sound_extension draft sound name messages fits
sound_item letters draft (interrupt name target) from to sound fits s = sound_interrupt draft name target sound s.2.1.1 fits
sound_item letters draft (never_both first second) from to sound fits s = sound_never draft first second sound (side_formed letters s.2.1.0 first s.2.1.2) (side_formed letters s.2.2.1.0 second s.2.2.1.2) fits

sound_items : (letters : Letters) (items : List BriefItem) (draft after : Draft) (from to : Tokens) → Sound draft → SpellsItems letters items from to → MakeUp draft items after → Sound after
sound_items letters [] draft after from to sound s made = subst Sound (sym made) sound
sound_items letters (item ∷ items) draft after from to sound s made =
    sound_items letters items (with_item draft item) after s.0 to (sound_item letters draft item from s.0 sound made.0 s.1) s.2 made.1

sound_texts : (texts : List (List ℕ)) (lists : List (List BriefItem)) (draft after : Draft) → Sound draft → EachSpells texts lists → MakeUp draft (all_items lists) after → Sound after
sound_texts [] [] draft after sound spelled made = subst Sound (sym made) sound
sound_texts (text ∷ texts) (items ∷ lists) draft after sound spelled made =
    let two = make_up_split items (all_items lists) draft after made in
    let s = spelled.0 in
    sound_texts texts lists two.0 after (sound_items s.letters items draft two.0 s.rest _ sound s.whole two.1) spelled.1 two.2
sound_texts [] (items ∷ lists) draft after sound spelled made = absurd spelled
sound_texts (text ∷ texts) [] draft after sound spelled made = absurd spelled

nothing_sound : Sound no_items
unfolding parts
nothing_sound = grind (arith, common_steps, empty_within)

pub read_sound : (draft : Draft) → WasRead draft → Sound draft
read_sound draft read =
    let found = texts_take read.0 0 no_items draft read.1 in
    sound_texts read.0 found.0 no_items draft nothing_sound found.1 found.2
