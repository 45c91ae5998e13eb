-- What a message adds to a sound draft.
use Rattle.std.proofs.Common.{◌≡◌, ℕ, zero, suc, ◌+◌, ◌-◌, ◌*◌, ◌<◌, ◌≤◌, ◌⊎◌, inl, inr, ◌||◌, ◌&&◌, Bool, true, false, not, cond, List, [], ◌∷◌, ◌++◌, map, length, codes, Option, Some, None, is_some, refl, ap, sym, ◌∙◌, subst, arith}
use Rattle.std.specs.Prelude.{nat_lt, All, Ok, Err, unwrap_or, if◌then◌else◌}
use Rattle.std.specs.Fmt.{decimal}
use Rattle.std.specs.List.{list_any, filter, flat_map, range_with_len}
use Rattle.std.specs.Map.{keys_of, lookup}
use Rattle.std.specs.Str.{bytes_eq}
use Rattle.std.proofs.lemmas.Bool.{lt-leb, ltb-false}
use Rattle.std.proofs.lemmas.Fmt.{decimal_injective}
use Rattle.std.proofs.lemmas.List.{append_assoc, length-append, append-nil, append_cancel_left, length_push, length-map}
use Rattle.std.proofs.lemmas.List.Elements.{All-head, All-tail}
use Rattle.std.proofs.lemmas.Grind.{common_steps}
use Rattle.message_tree.specs.Sizes.{frame_bytes, payload_bytes, tail_bytes, frame_nodes, payload_nodes, tail_nodes}
use Rattle.message_tree.specs.Trees.{FrameTree, PayloadTree, TailTree}
use Rattle.message_tree.specs.declared.bits.Address.{Address}
use Rattle.message_tree.specs.declared.bits.Pattern.{Pattern}
use Rattle.plan_core.specs.Building.{number_of, has_name, message_name_refusal, size_refusal, with_message}
use Rattle.plan_core.specs.declared.builder.BuildError.TheVariants.{Twice}
use Rattle.plan_core.specs.Contents.{Contents}
use Rattle.plan_core.specs.Limits.{IsWithinLimits}
use Rattle.plan_core.specs.Names.{IsName}
use Rattle.plan_core.specs.declared.limits.TheConstants.{MOST_MESSAGES, MOST_CONTROLLERS, MOST_BYTES, MOST_NODES}
use Rattle.plan_core.proofs.BuildingLemmas.{passes, message_name_allowed, size_allowed, size_fits, message_fits, limits-message, same-bytes_eq, bytes_eq-same}
use Rattle.brief_text.specs.declared.syntax.Lengths.{Lengths}
use Rattle.brief_text.specs.Codes.{at_start}
use Rattle.brief_text.specs.Drafts.{Draft, member_name, members, members_or, lengths, stands_alone_for, all_or, stands_for, names_made, device_name, device_names, devices_of, standing, address_said, frame_meant, frame_on, bytes_meant, tail_meant, bits_said, how_often, repeated, frame_groups, member_meant, messages_meant, device_meant, grouped_meant, with_messages, with_family, families_of, with_made, with_item}
use Rattle.brief_text.specs.Fitting.{IsWithin, MessageFits}
use Rattle.brief_text.specs.Judging.{is_family, is_message, message_refusal_of, range_refusal, how_many, is_long, further_names, repeats, grouped_by}
use Rattle.brief_text.specs.Splitting.{Part, label_messages, label_names, is_label, is_own_or_free, is_of_labelled, is_of_device, is_in_part, label_part, rest_part, split_by, parts, sends_any}
use Rattle.brief_text.proofs.PathLemmas.{on_outline, outline_of}
use Rattle.plan_text.specs.declared.errors.PlanError.TheVariants as errors
use Rattle.brief_text.specs.Trees.{Side, named, BriefFrame, write_to, read_from, BriefBytes, data_byte, made_byte, no_more, BriefTail, stop_here, go_on, message}
use Rattle.text_laws.proofs.EntryNames.{number_none, none_number, in_has_name, in_keys_either, in_keys_left, in_keys_right, keys_both, lookup_kept}
use Rattle.text_laws.proofs.JoinedNames.{name_parts, is_joined, decimal_bytes, decimal_shorter}
use Rattle.text_laws.proofs.Membership.{In, Distinct, in_left, in_right, from_filter, in_map, from_map, in_flat, from_flat, distinct_map, in_any, is_false, not_both, or_neither, holds, in_holds}
use Rattle.text_laws.proofs.SoundDrafts.{Messages, FamilyList, Listings, family_of, grouped_of, Known, Labels, FamiliesSound, GroupedSound, ControllersSound, LabelsSound, Sound}
use Rattle.text_laws.proofs.Standings.{known_plain}

-- ---- names of members

range_bound : (a n x : ℕ) → In x (range_with_len a n) → (a ≤ x) × (x < a + n)
range_bound a zero x h = absurd h
range_bound a (suc n) x (inl e) = (omega (arith, e), omega (arith, e))
range_bound a (suc n) x (inr h) = let r = range_bound (a + 1) n x h in (omega (arith, r.0), omega (arith, r.1))

range_once : (a n : ℕ) → Distinct (range_with_len a n)
range_once a zero = tt
range_once a (suc n) = ((λ h. absurd (let r = range_bound (a + 1) n a h in omega (arith, r.0))), range_once (a + 1) n)

longer : (name : List ℕ) (n : ℕ) → length (member_name name n) ≡ length name + 1 + length (decimal n)
longer name n = grind (arith, common_steps, length-append)

module _ (name : List ℕ) (range : Lengths) (bound : range.greatest ≤ 255) where
  within : (n : ℕ) → In n (lengths range) → n ≤ range.greatest
  within n h = let r = range_bound range.least (suc range.greatest - range.least) n h in omega (arith, r.0, r.1)

  pub members_once : Distinct (members name range)
  members_once = distinct_map (member_name name) (lengths range) same (range_once range.least (suc range.greatest - range.least))
    where
      same : (m n : ℕ) → In m (lengths range) → In n (lengths range) → member_name name m ≡ member_name name n → m ≡ n
      same m n h g e = decimal_injective m n (let b = within m h in omega (arith, b, bound)) (let b = within n g in omega (arith, b, bound)) (append_cancel_left (name ++ codes "_") (decimal m) (decimal n) e)

  -- a member is longer than its family
  pub no_member : In name (members name range) → ⊥
  no_member h = grind (arith, common_steps, from_map, longer)

  pub members_named : IsName name → length (member_name name range.greatest) ≤ 32 → (m : List ℕ) → In m (members name range) → IsName m
  members_named is short m h = grind (arith, common_steps, from_map, within, decimal_shorter, longer, is_joined, decimal_bytes)

-- ---- messages one after another

messages_are : (made : Messages) (plan : Contents) → with_messages plan made ≡ record plan { messages = plan.messages ++ made }
unfolding with_message
messages_are [] plan = grind (arith, common_steps, append-nil)
messages_are (m ∷ made) plan = grind (arith, common_steps, append_assoc, (messages_are made (with_message plan m.0 m.1)))

name_free : (plan : Contents) (name : List ℕ) → number_of name plan.messages ≡ None → length plan.messages < MOST_MESSAGES → message_name_refusal plan name ≡ None
unfolding message_name_refusal
name_free plan name new few = rw (new, lt-leb MOST_MESSAGES (length plan.messages) few) refl

messages_within : (made : Messages) (plan : Contents) → IsWithinLimits plan → ((m : List ℕ) → In m (keys_of made) → IsName m) → Distinct (keys_of made) → ((m : List ℕ) → In m (keys_of made) → In m (keys_of plan.messages) → ⊥)
    → length plan.messages + length made ≤ MOST_MESSAGES → ((x : List ℕ × FrameTree) → In x made → IsWithin x) → IsWithinLimits (with_messages plan made)
unfolding with_message
messages_within [] plan limits names_of once new room each = limits
messages_within (m ∷ made) plan limits names_of once new room each =
    let sized = size_allowed m.1 (each m (inl refl)) in
    let free = name_free plan m.0 (number_none m.0 plan.messages (new m.0 (inl refl))) (omega (arith, room)) in
    let next = limits-message plan m.0 m.1 limits (names_of m.0 (inl refl)) (message_fits plan m.0 m.1 free sized.0 sized.1) in
    let size = length_push plan.messages (m.0, m.1) in
    messages_within made (with_message plan m.0 m.1) next (λ n h. names_of n (inr h)) once.1 later (omega (arith, size, room)) (λ x h. each x (inr h))
  where
    later : (n : List ℕ) → In n (keys_of made) → In n (keys_of (plan.messages ++ (m.0, m.1) ∷ [])) → ⊥
    later n h g = by (in_keys_either n plan.messages ((m.0, m.1) ∷ []) g)
      where
        by : In n (keys_of plan.messages) ⊎ In n (m.0 ∷ []) → ⊥
        by (inl a) = new n (inr h) a
        by (inr (inl e)) = once.0 (subst (λ (x : List ℕ). In x (keys_of made)) e h)
        by (inr (inr b)) = b

each_in : (made : Messages) → All IsWithin made → (x : List ℕ × FrameTree) → In x made → IsWithin x
each_in [] all x h = absurd h
each_in (m ∷ made) all x (inl e) = subst IsWithin (sym e) (All-head IsWithin m made all)
each_in (m ∷ made) all x (inr h) = each_in made (All-tail IsWithin m made all) x h

-- ---- lists

distinct_right : (xs ys : List (List ℕ)) → Distinct (xs ++ ys) → Distinct ys
distinct_right [] ys one = one
distinct_right (x ∷ xs) ys one = distinct_right xs ys one.1

distinct_left : (xs ys : List (List ℕ)) → Distinct (xs ++ ys) → Distinct xs
distinct_left [] ys one = tt
distinct_left (x ∷ xs) ys one = ((λ h. one.0 (in_left x xs ys h)), distinct_left xs ys one.1)

distinct_apart : (xs ys : List (List ℕ)) → Distinct (xs ++ ys) → (m : List ℕ) → In m xs → In m ys → ⊥
distinct_apart [] ys one m h g = absurd h
distinct_apart (x ∷ xs) ys one m (inl e) g = one.0 (in_right x xs ys (subst (λ (y : List ℕ). In y ys) e g))
distinct_apart (x ∷ xs) ys one m (inr h) g = distinct_apart xs ys one.1 m h g

-- what two elements have in common
flat_one : (f : List ℕ → List (List ℕ)) (xs : List (List ℕ)) → Distinct (flat_map f xs) → (m a b : List ℕ) → In a xs → In b xs → In m (f a) → In m (f b) → a ≡ b
flat_one f [] one m a b h g i j = absurd h
flat_one f (x ∷ xs) one m a b (inl e) (inl k) i j = e ∙ sym k
flat_one f (x ∷ xs) one m a b (inl e) (inr k) i j = absurd (distinct_apart (f x) (flat_map f xs) one m (subst (λ (y : List ℕ). In m (f y)) e i) (in_flat f xs b m k j))
flat_one f (x ∷ xs) one m a b (inr h) (inl k) i j = absurd (distinct_apart (f x) (flat_map f xs) one m (subst (λ (y : List ℕ). In m (f y)) k j) (in_flat f xs a m h i))
flat_one f (x ∷ xs) one m a b (inr h) (inr k) i j = flat_one f xs (distinct_right (f x) (flat_map f xs) one) m a b h k i j

module _ {X : Type 0} where
  abbrev Found : List ℕ → List (List ℕ × X) → List (List ℕ × X) → X → Type 0
  Found name xs ys x = (lookup (bytes_eq name) xs ≡ Some x) ⊎ ((lookup (bytes_eq name) xs ≡ None) × (lookup (bytes_eq name) ys ≡ Some x))

  lookup_either : (name : List ℕ) (xs ys : List (List ℕ × X)) (x : X) → lookup (bytes_eq name) (xs ++ ys) ≡ Some x → Found name xs ys x
  lookup_either name [] ys x e = inr (refl, e)
  lookup_either name (f ∷ xs) ys x e = by (bytes_eq name f.0) e (lookup_either name xs ys x)
    where
      by : (t : Bool) → cond t (Some f.1) (lookup (bytes_eq name) (xs ++ ys)) ≡ Some x → (lookup (bytes_eq name) (xs ++ ys) ≡ Some x → Found name xs ys x)
          → (cond t (Some f.1) (lookup (bytes_eq name) xs) ≡ Some x) ⊎ ((cond t (Some f.1) (lookup (bytes_eq name) xs) ≡ None) × (lookup (bytes_eq name) ys ≡ Some x))
      by true h later = inl h
      by false h later = later h

  lookup_later : (name : List ℕ) (xs ys : List (List ℕ × X)) → lookup (bytes_eq name) xs ≡ None → lookup (bytes_eq name) (xs ++ ys) ≡ lookup (bytes_eq name) ys
  lookup_later name [] ys e = refl
  lookup_later name (f ∷ xs) ys e = by (bytes_eq name f.0) e (lookup_later name xs ys)
    where
      by : (t : Bool) → cond t (Some f.1) (lookup (bytes_eq name) xs) ≡ None → (lookup (bytes_eq name) xs ≡ None → lookup (bytes_eq name) (xs ++ ys) ≡ lookup (bytes_eq name) ys)
          → cond t (Some f.1) (lookup (bytes_eq name) (xs ++ ys)) ≡ lookup (bytes_eq name) ys
      by true h later = absurd cc
      by false h later = later h

-- ---- families of one range

in_families : (a : List ℕ) (range : Option Lengths) (heads : List (List ℕ)) (r : Lengths) → family_of a (families_of range heads) ≡ Some r → In a heads × (range ≡ Some r)
in_families a None heads r e = absurd cc
in_families a (Some q) [] r e = absurd cc
in_families a (Some q) (h ∷ heads) r e = by (bytes_eq a h) refl e (in_families a (Some q) heads r)
  where
    by : (t : Bool) → bytes_eq a h ≡ t → cond t (Some q) (family_of a (families_of (Some q) heads)) ≡ Some r → (family_of a (families_of (Some q) heads) ≡ Some r → In a heads × (Some q ≡ Some r)) → In a (h ∷ heads) × (Some q ≡ Some r)
    by true is g later = (inl (same-bytes_eq a h is), g)
    by false is g later = let f = later g in (inr f.0, f.1)

    some : Lengths → Option Lengths
    some l = Some l

new_family : (a : List ℕ) (heads : List (List ℕ)) (r : Lengths) → In a heads → family_of a (families_of (Some r) heads) ≡ Some r
new_family a [] r h = absurd h
new_family a (h ∷ heads) r (inl e) = ap (λ (t : Bool). cond t (Some r) (family_of a (families_of (Some r) heads))) (bytes_eq-same a h e)
new_family a (h ∷ heads) r (inr g) = by (bytes_eq a h) (new_family a heads r g)
  where
    by : (t : Bool) → family_of a (families_of (Some r) heads) ≡ Some r → cond t (Some r) (family_of a (families_of (Some r) heads)) ≡ Some r
    by true e = refl
    by false e = e

no_new_family : (a : List ℕ) (range : Option Lengths) (heads : List (List ℕ)) → (In a heads → ⊥) → family_of a (families_of range heads) ≡ None
no_new_family a range heads out = by (family_of a (families_of range heads)) refl
  where
    by : (o : Option Lengths) → family_of a (families_of range heads) ≡ o → family_of a (families_of range heads) ≡ None
    by None e = e
    by (Some r) e = absurd (out (in_families a range heads r e).0)

-- ---- the messages that a message makes

made_names : (draft : Draft) (name : List ℕ) (range : Option Lengths) (frame : BriefFrame) → keys_of (messages_meant draft name range frame) ≡ members_or name range
made_names draft name None frame = refl
made_names draft name (Some range) frame = by (lengths range)
  where
    by : (ns : List ℕ) → keys_of (map (member_meant draft name frame) ns) ≡ map (member_name name) ns
    by [] = refl
    by (n ∷ ns) = ap (λ (names : List (List ℕ)). member_name name n ∷ names) (by ns)

-- by these names, each of which is a message or a family
abbrev all_made : Option Lengths → List (List ℕ) → List (List ℕ)
all_made range heads = flat_map (λ h. members_or h range) heads

-- what the names must be, and that there is room
record NewNames (draft : Draft) (heads : List (List ℕ)) (range : Option Lengths) : Type 0 where
  family : (h : List ℕ) → In h heads → family_of h draft.families ≡ None
  apart : (h : List ℕ) → In h heads → In h (keys_of draft.plan.messages) → ⊥
  no_group : (h : List ℕ) → In h heads → grouped_of h draft.grouped ≡ None
  heads_once : Distinct heads
  named : (m : List ℕ) → In m (all_made range heads) → IsName m
  once : Distinct (all_made range heads)
  no_family : (m : List ℕ) → In m (all_made range heads) → family_of m draft.families ≡ None
  no_message : (m : List ℕ) → In m (all_made range heads) → In m (keys_of draft.plan.messages) → ⊥
  no_grouped : (m : List ℕ) → In m (all_made range heads) → grouped_of m draft.grouped ≡ None
  free : (h : List ℕ) (r : Lengths) → range ≡ Some r → In h heads → In h (all_made range heads) → ⊥
  room : length draft.plan.messages + length (all_made range heads) ≤ MOST_MESSAGES

-- what is grouped besides: nothing, or these names by one that is new
record NewGroup (draft : Draft) (heads : List (List ℕ)) (range : Option Lengths) (extra : Listings) : Type 0 where
  one : (a b : List ℕ) (names more : List (List ℕ)) → grouped_of a extra ≡ Some names → grouped_of b extra ≡ Some more → a ≡ b
  names : (a : List ℕ) (them : List (List ℕ)) → grouped_of a extra ≡ Some them → them ≡ heads
  no_message : (a : List ℕ) (them : List (List ℕ)) → grouped_of a extra ≡ Some them → In a (keys_of draft.plan.messages) → ⊥
  no_family : (a : List ℕ) (them : List (List ℕ)) → grouped_of a extra ≡ Some them → family_of a draft.families ≡ None
  no_group : (a : List ℕ) (them : List (List ℕ)) → grouped_of a extra ≡ Some them → grouped_of a draft.grouped ≡ None
  no_head : (a : List ℕ) (them : List (List ℕ)) → grouped_of a extra ≡ Some them → In a heads → ⊥
  not_made : (a : List ℕ) (them : List (List ℕ)) → grouped_of a extra ≡ Some them → In a (all_made range heads) → ⊥

-- ---- what has grown

module _ (draft : Draft) (sound : Sound draft) (heads : List (List ℕ)) (range : Option Lengths) (made : Messages) (is_made : keys_of made ≡ all_made range heads) (bound : (r : Lengths) → range ≡ Some r → r.greatest ≤ 255) (new : NewNames draft heads range)
    (extra : Listings) (group : NewGroup draft heads range extra) where
  abbrev messages : Messages
  messages = draft.plan.messages ++ made

  abbrev families : FamilyList
  families = draft.families ++ families_of range heads

  abbrev grouped : Listings
  grouped = draft.grouped ++ extra

  abbrev grown : Draft
  grown = record draft { plan = record draft.plan { messages = messages }; families = families; grouped = grouped }

  among_made : (m : List ℕ) → In m (keys_of made) → In m (all_made range heads)
  among_made m h = subst (λ (names : List (List ℕ)). In m names) is_made h

  made_among : (m : List ℕ) → In m (all_made range heads) → In m (keys_of made)
  made_among m h = subst (λ (names : List (List ℕ)). In m names) (sym is_made) h

  more : (m : List ℕ) → In m (keys_of draft.plan.messages) → In m (keys_of messages)
  more m h = in_keys_left m draft.plan.messages made h

  -- a family is one of before, or a new one
  abbrev Either : List ℕ → Lengths → Type 0
  Either a r = (family_of a draft.families ≡ Some r) ⊎ (In a heads × (range ≡ Some r))

  either : (a : List ℕ) (r : Lengths) → family_of a families ≡ Some r → Either a r
  either a r e = by (lookup_either a draft.families (families_of range heads) r e)
    where
      by : Found a draft.families (families_of range heads) r → Either a r
      by (inl f) = inl f
      by (inr f) = inr (in_families a range heads r f.1)

  -- the members of a new one
  members_are : (a : List ℕ) (r : Lengths) (m : List ℕ) → In a heads → range ≡ Some r → In m (members a r) → In m (all_made range heads)
  members_are a r m at f h = in_flat (λ n. members_or n range) heads a m at (subst (λ (o : Option Lengths). In m (members_or a o)) (sym f) h)

  -- what was not known is none of before
  new_head : (h : List ℕ) → In h heads → Known draft.plan.messages draft.families h → ⊥
  new_head h at (inl r) = let none = sym r.1 ∙ new.family h at in absurd cc
  new_head h at (inr k) = new.apart h at k

  families_grown : FamiliesSound messages families
  families_grown = record {
    apart = λ n r e h. apart n r (either n r e) (in_keys_either n draft.plan.messages made h);
    one = λ m a b r s e f h g. one m a b r s (either a r e) (either b s f) h g;
    known = λ m a r e h. known m a r (either a r e) h;
    once = λ a r e. once a r (either a r e);
  }
    where
      apart : (n : List ℕ) (r : Lengths) → Either n r → In n (keys_of draft.plan.messages) ⊎ In n (keys_of made) → ⊥
      apart n r (inl e) (inl h) = sound.families.apart n r e h
      apart n r (inl e) (inr h) = let none = sym e ∙ new.no_family n (among_made n h) in absurd cc
      apart n r (inr e) (inl h) = new.apart n e.0 h
      apart n r (inr e) (inr h) = new.free n r e.1 e.0 (among_made n h)

      known : (m a : List ℕ) (r : Lengths) → Either a r → In m (members a r) → In m (keys_of messages)
      known m a r (inl e) h = more m (sound.families.known m a r e h)
      known m a r (inr e) h = in_keys_right m draft.plan.messages made (made_among m (members_are a r m e.0 e.1 h))

      one : (m a b : List ℕ) (r s : Lengths) → Either a r → Either b s → In m (members a r) → In m (members b s) → a ≡ b
      one m a b r s (inl e) (inl f) h g = sound.families.one m a b r s e f h g
      one m a b r s (inl e) (inr f) h g = absurd (new.no_message m (members_are b s m f.0 f.1 g) (sound.families.known m a r e h))
      one m a b r s (inr e) (inl f) h g = absurd (new.no_message m (members_are a r m e.0 e.1 h) (sound.families.known m b s f g))
      one m a b r s (inr e) (inr f) h g =
          flat_one (λ n. members_or n range) heads new.once m a b e.0 f.0
          (subst (λ (o : Option Lengths). In m (members_or a o)) (sym e.1) h) (subst (λ (o : Option Lengths). In m (members_or b o)) (sym f.1) g)

      once : (a : List ℕ) (r : Lengths) → Either a r → Distinct (members a r)
      once a r (inl e) = sound.families.once a r e
      once a r (inr e) = members_once a r (bound r e.1)

  family_kept : (a : List ℕ) (r : Lengths) → family_of a draft.families ≡ Some r → family_of a families ≡ Some r
  family_kept a r e = lookup_kept a draft.families (families_of range heads) r e

  known_kept : (a : List ℕ) → Known draft.plan.messages draft.families a → Known messages families a
  known_kept a (inl r) = inl (r.0, family_kept a r.0 r.1)
  known_kept a (inr h) = inr (more a h)

  head_known : (h : List ℕ) → In h heads → Known messages families h
  head_known h at = by range refl
    where
      by : (o : Option Lengths) → range ≡ o → Known messages families h
      by None e = inr (in_keys_right h draft.plan.messages made (made_among h (in_flat (λ n. members_or n range) heads h h at (subst (λ (o : Option Lengths). In h (members_or h o)) (sym e) (inl refl)))))
      by (Some r) e = inl (r, lookup_later h draft.families (families_of range heads) (new.family h at) ∙ subst (λ (o : Option Lengths). family_of h (families_of o heads) ≡ Some r) (sym e) (new_family h heads r at))

  -- a group is one of before, or the new one
  abbrev Of : List ℕ → List (List ℕ) → Type 0
  Of a names = (grouped_of a draft.grouped ≡ Some names) ⊎ (grouped_of a extra ≡ Some names)

  of : (a : List ℕ) (names : List (List ℕ)) → grouped_of a grouped ≡ Some names → Of a names
  of a names e = by (lookup_either a draft.grouped extra names e)
    where
      by : Found a draft.grouped extra names → Of a names
      by (inl f) = inl f
      by (inr f) = inr f.1

  to_heads : (a h : List ℕ) (names : List (List ℕ)) → grouped_of a extra ≡ Some names → In h names → In h heads
  to_heads a h names e g = subst (λ (them : List (List ℕ)). In h them) (group.names a names e) g

  grouped_grown : GroupedSound messages families grouped
  grouped_grown = record {
    no_message = λ a names e h. no_message a names (of a names e) (in_keys_either a draft.plan.messages made h);
    no_family = λ a names e. no_family a names (of a names e);
    known = λ a h names e g. known a h names (of a names e) g;
    once = λ a names e. once a names (of a names e);
    one = λ h a b names them e f g i. one h a b names them (of a names e) (of b them f) g i;
    loose = λ h a b names r e f g i. loose h a b names r (of a names e) (either b r f) g i;
  }
    where
      no_message : (a : List ℕ) (names : List (List ℕ)) → Of a names → In a (keys_of draft.plan.messages) ⊎ In a (keys_of made) → ⊥
      no_message a names (inl e) (inl h) = sound.grouped.no_message a names e h
      no_message a names (inl e) (inr h) = let none = sym e ∙ new.no_grouped a (among_made a h) in absurd cc
      no_message a names (inr e) (inl h) = group.no_message a names e h
      no_message a names (inr e) (inr h) = group.not_made a names e (among_made a h)

      no_family : (a : List ℕ) (names : List (List ℕ)) → Of a names → family_of a families ≡ None
      no_family a names (inl e) = lookup_later a draft.families (families_of range heads) (sound.grouped.no_family a names e) ∙ no_new_family a range heads (λ h. let none = sym e ∙ new.no_group a h in absurd cc)
      no_family a names (inr e) = lookup_later a draft.families (families_of range heads) (group.no_family a names e) ∙ no_new_family a range heads (group.no_head a names e)

      known : (a h : List ℕ) (names : List (List ℕ)) → Of a names → In h names → Known messages families h
      known a h names (inl e) g = known_kept h (sound.grouped.known a h names e g)
      known a h names (inr e) g = head_known h (to_heads a h names e g)

      once : (a : List ℕ) (names : List (List ℕ)) → Of a names → Distinct names
      once a names (inl e) = sound.grouped.once a names e
      once a names (inr e) = subst Distinct (sym (group.names a names e)) new.heads_once

      one : (h a b : List ℕ) (names them : List (List ℕ)) → Of a names → Of b them → In h names → In h them → a ≡ b
      one h a b names them (inl e) (inl f) g i = sound.grouped.one h a b names them e f g i
      one h a b names them (inl e) (inr f) g i = absurd (new_head h (to_heads b h them f i) (sound.grouped.known a h names e g))
      one h a b names them (inr e) (inl f) g i = absurd (new_head h (to_heads a h names e g) (sound.grouped.known b h them f i))
      one h a b names them (inr e) (inr f) g i = group.one a b names them e f

      old_loose : (h : List ℕ) → Known draft.plan.messages draft.families h → In h (all_made range heads) → ⊥
      old_loose h (inl r) k = let none = sym r.1 ∙ new.no_family h k in absurd cc
      old_loose h (inr m) k = new.no_message h k m

      loose : (h a b : List ℕ) (names : List (List ℕ)) (r : Lengths) → Of a names → Either b r → In h names → In h (members b r) → ⊥
      loose h a b names r (inl e) (inl f) g i = sound.grouped.loose h a b names r e f g i
      loose h a b names r (inl e) (inr f) g i = old_loose h (sound.grouped.known a h names e g) (members_are b r h f.0 f.1 i)
      loose h a b names r (inr e) (inl f) g i = new.apart h (to_heads a h names e g) (sound.families.known h b r f i)
      loose h a b names r (inr e) (inr f) g i = new.free h r f.1 (to_heads a h names e g) (members_are b r h f.0 f.1 i)

  controllers_grown : ControllersSound messages draft.controllers
  controllers_grown = record {
    keys = sound.controllers.keys;
    named = sound.controllers.named;
    listed = λ c h. record { once = (sound.controllers.listed c h).once; known = λ m g. more m ((sound.controllers.listed c h).known m g) };
    few = sound.controllers.few;
  }

  label_kept : (a : List ℕ) → Labels draft.plan.messages draft.families draft.grouped a → Labels messages families grouped a
  label_kept a (inl n) = inl (n.0, lookup_kept a draft.grouped extra n.0 n.1)
  label_kept a (inr k) = inr (known_kept a k)

  labels_grown : LabelsSound messages families grouped (keys_of draft.controllers) draft.labels
  labels_grown = record {
    once = sound.labels.once;
    each = λ s h. let l = sound.labels.each s h in record { named = l.named; new = l.new; label = l.label; is = l.is; owned = l.owned; known = label_kept l.label l.known };
  }

  -- ---- a label stands for what it stood for

  same_family : (n : List ℕ) → Known draft.plan.messages draft.families n → family_of n families ≡ family_of n draft.families
  same_family n known = by (family_of n draft.families) refl known
    where
      by : (o : Option Lengths) → family_of n draft.families ≡ o → Known draft.plan.messages draft.families n → family_of n families ≡ family_of n draft.families
      by (Some r) e k = family_kept n r e ∙ sym e
      by None e (inl r) = let none = sym e ∙ r.1 in absurd cc
      by None e (inr k) = lookup_later n draft.families (families_of range heads) e ∙ no_new_family n range heads (λ h. new.apart n h k) ∙ sym e

  same_alone : (n : List ℕ) → Known draft.plan.messages draft.families n → stands_alone_for grown n ≡ stands_alone_for draft n
  same_alone n known = ap (members_or n) (same_family n known)

  same_all : (names : List (List ℕ)) → ((h : List ℕ) → In h names → Known draft.plan.messages draft.families h) → flat_map (stands_alone_for grown) names ≡ flat_map (stands_alone_for draft) names
  same_all [] known = refl
  same_all (h ∷ names) known =
      ap (λ (them : List (List ℕ)). them ++ flat_map (stands_alone_for grown) names) (same_alone h (known h (inl refl)))
      ∙ ap (λ (them : List (List ℕ)). stands_alone_for draft h ++ them) (same_all names (λ k i. known k (inr i)))

  same_group : (n : List ℕ) → Labels draft.plan.messages draft.families draft.grouped n → grouped_of n grouped ≡ grouped_of n draft.grouped
  same_group n (inl names) = lookup_kept n draft.grouped extra names.0 names.1 ∙ sym names.1
  same_group n (inr known) =
      let none = known_plain draft sound n known in
      lookup_later n draft.grouped extra none ∙ by (grouped_of n extra) refl known ∙ sym none
    where
      by : (o : Option (List (List ℕ))) → grouped_of n extra ≡ o → Known draft.plan.messages draft.families n → grouped_of n extra ≡ None
      by None e k = e
      by (Some names) e (inl r) = let none = sym r.1 ∙ group.no_family n names e in absurd cc
      by (Some names) e (inr k) = absurd (group.no_message n names e k)

  same_stands : (n : List ℕ) → Labels draft.plan.messages draft.families draft.grouped n → stands_for grown n ≡ stands_for draft n
  same_stands n known = ap (all_or grown n) (same_group n known) ∙ by (grouped_of n draft.grouped) refl known
    where
      by : (o : Option (List (List ℕ))) → grouped_of n draft.grouped ≡ o → Labels draft.plan.messages draft.families draft.grouped n → all_or grown n o ≡ all_or draft n o
      by (Some names) e k = same_all names (λ h i. sound.grouped.known n h names e i)
      by None e (inr k) = same_alone n k
      by None e (inl names) = let none = sym e ∙ names.1 in absurd cc

  same_messages : (s : Side) → In s draft.labels → label_messages grown s ≡ label_messages draft s
  same_messages s h =
      let l = sound.labels.each s h in
      ap (λ (o : Option (List ℕ)). elim o [ None ↦ [] | Some label ↦ stands_for grown label ]) l.is
      ∙ same_stands l.label l.known
      ∙ sym (ap (λ (o : Option (List ℕ)). elim o [ None ↦ [] | Some label ↦ stands_for draft label ]) l.is)

  -- and the names that it makes are the same
  same_names : (s : Side) → In s draft.labels → label_names grown s ≡ label_names draft s
  same_names s h =
      let l = sound.labels.each s h in
      ap (λ (o : Option (List ℕ)). elim o [ None ↦ [] | Some label ↦ names_made grown label ]) l.is
      ∙ ap (λ (o : Option (List (List ℕ))). unwrap_or o []) (same_group l.label l.known)
      ∙ sym (ap (λ (o : Option (List ℕ)). elim o [ None ↦ [] | Some label ↦ names_made draft label ]) l.is)

  names_known : (s : Side) → In s draft.labels → (h : List ℕ) → In h (label_names draft s) → Known draft.plan.messages draft.families h
  names_known s at h i =
      let l = sound.labels.each s at in
      by l.label (subst (λ (o : Option (List ℕ)). In h (elim o [ None ↦ [] | Some label ↦ names_made draft label ])) l.is i)
    where
      by : (label : List ℕ) → In h (names_made draft label) → Known draft.plan.messages draft.families h
      by label k = of_option (grouped_of label draft.grouped) refl k
        where
          of_option : (o : Option (List (List ℕ))) → grouped_of label draft.grouped ≡ o → In h (unwrap_or o []) → Known draft.plan.messages draft.families h
          of_option None e j = absurd j
          of_option (Some names) e j = sound.grouped.known label h names e j

  same_of_one : (labels : List Side) (m : List ℕ) (names : List (List ℕ)) → ((h : List ℕ) → In h names → Known draft.plan.messages draft.families h) → list_any (is_of_labelled grown labels m) names ≡ list_any (is_of_labelled draft labels m) names
  same_of_one labels m [] known = refl
  same_of_one labels m (h ∷ names) known =
      ap (λ (them : List (List ℕ)). list_any (is_label h) labels && holds m them || list_any (is_of_labelled grown labels m) names) (same_alone h (known h (inl refl)))
      ∙ ap (λ (t : Bool). list_any (is_label h) labels && holds m (stands_alone_for draft h) || t) (same_of_one labels m names (λ k i. known k (inr i)))

  same_of_device : (labels : List Side) (s : Side) (m : List ℕ) → In s draft.labels → is_of_device grown labels s m ≡ is_of_device draft labels s m
  same_of_device labels s m at = ap (list_any (is_of_labelled grown labels m)) (same_names s at) ∙ same_of_one labels m (label_names draft s) (names_known s at)

  same_in_part : (labels : List Side) (s : Side) (m : List ℕ) → In s draft.labels → is_in_part grown labels s m ≡ is_in_part draft labels s m
  same_in_part labels s m at = λ i. holds m (same_messages s at i) && (is_own_or_free labels s m && not (same_of_device labels s m at i))

  same_filter : (labels : List Side) (s : Side) → In s draft.labels → (listed : List (List ℕ)) → filter (is_in_part grown labels s) listed ≡ filter (is_in_part draft labels s) listed
  same_filter labels s at [] = refl
  same_filter labels s at (m ∷ listed) =
      ap (λ (t : Bool). cond t (m ∷ filter (is_in_part grown labels s) listed) (filter (is_in_part grown labels s) listed)) (same_in_part labels s m at)
      ∙ ap (λ (them : List (List ℕ)). cond (is_in_part draft labels s m) (m ∷ them) them) (same_filter labels s at listed)

  same_label_parts : (labels sides : List Side) (listed : List (List ℕ)) → ((s : Side) → In s sides → In s draft.labels) → map (label_part grown labels listed) sides ≡ map (label_part draft labels listed) sides
  same_label_parts labels [] listed within = refl
  same_label_parts labels (s ∷ sides) listed within =
      ap (λ (them : List (List ℕ)). part_of s them ∷ map (label_part grown labels listed) sides) (same_filter labels s (within s (inl refl)) listed)
      ∙ ap (λ (ps : List Part). label_part draft labels listed s ∷ ps) (same_label_parts labels sides listed (λ t h. within t (inr h)))
    where
      part_of : Side → List (List ℕ) → Part
      part_of t them = record { side = t; messages = them }

  same_named : (sides : List Side) → ((s : Side) → In s sides → In s draft.labels) → flat_map (label_messages grown) sides ≡ flat_map (label_messages draft) sides
  same_named [] within = refl
  same_named (s ∷ sides) within =
      ap (λ (names : List (List ℕ)). names ++ flat_map (label_messages grown) sides) (same_messages s (within s (inl refl)))
      ∙ ap (λ (names : List (List ℕ)). label_messages draft s ++ names) (same_named sides (λ t h. within t (inr h)))

  abbrev rest_by : List ℕ → List (List ℕ) → List (List ℕ) → Part
  rest_by controller listed names = record {
    side = record { controller = controller; label = None };
    messages = filter (λ m. not (list_any (λ other. bytes_eq other m) names)) listed;
  }

  same_split : (labels : List Side) (controller : List ℕ) (listed : List (List ℕ)) → ((s : Side) → In s labels → In s draft.labels) → split_by grown labels controller listed ≡ split_by draft labels controller listed
  same_split [] controller listed within = refl
  same_split (s ∷ sides) controller listed within =
      ap (λ (names : List (List ℕ)). filter sends_any (rest_by controller listed names ∷ map (label_part grown (s ∷ sides) listed) (s ∷ sides))) (same_named (s ∷ sides) within)
      ∙ ap (λ (ps : List Part). filter sends_any (rest_part draft (s ∷ sides) listed controller ∷ ps)) (same_label_parts (s ∷ sides) (s ∷ sides) listed within)

  same_parts : parts grown ≡ parts draft
  unfolding parts
  same_parts = grind (arith, common_steps, same_split, from_filter)

  sound_grown : IsWithinLimits (record draft.plan { messages = messages }) → Sound grown
  sound_grown limits = record {
    limits = limits;
    no_controllers = sound.no_controllers;
    no_nevers = sound.no_nevers;
    families = families_grown;
    grouped = grouped_grown;
    devices = sound.devices;
    controllers = controllers_grown;
    labels = labels_grown;
    few_parts = subst (λ (ps : List Part). length ps ≤ MOST_CONTROLLERS) (sym same_parts) sound.few_parts;
    nevers = sound.nevers;
  }

-- ---- sizes, whatever names mean

repeated_same : (k : ℕ) (bits other : Pattern) (a b : PayloadTree) (r q : TailTree) → payload_nodes a ≡ payload_nodes b → payload_bytes a ≡ payload_bytes b → tail_nodes r ≡ tail_nodes q → tail_bytes r ≡ tail_bytes q
    → (payload_nodes (repeated k bits a r) ≡ payload_nodes (repeated k other b q)) × (payload_bytes (repeated k bits a r) ≡ payload_bytes (repeated k other b q))
repeated_same zero bits other a b r q e f g h = (e, f)
repeated_same (suc k) bits other a b r q e f g h = let rest = repeated_same k bits other a b r q e f g h in (omega (arith, rest.0, g), omega (arith, rest.1, h))

module _ (draft : Draft) (one other : Option (List ℕ × Address)) (n : ℕ) where
  mutual
    frame_same : (f : BriefFrame) → (frame_nodes (frame_meant (standing draft one) n f) ≡ frame_nodes (frame_meant (standing draft other) n f)) × (frame_bytes (frame_meant (standing draft one) n f) ≡ frame_bytes (frame_meant (standing draft other) n f))
    frame_same (write_to to refused acked) = let r = tail_same refused in let a = bytes_same acked in (omega (arith, r.0, a.0), omega (arith, r.1, a.1))
    frame_same (read_from to count refused after) = let r = tail_same refused in let a = tail_same after in (omega (arith, r.0, a.0), omega (arith, r.1, a.1))

    bytes_same : (b : BriefBytes) → (payload_nodes (bytes_meant (standing draft one) n b) ≡ payload_nodes (bytes_meant (standing draft other) n b)) × (payload_bytes (bytes_meant (standing draft one) n b) ≡ payload_bytes (bytes_meant (standing draft other) n b))
    bytes_same (data_byte bits often refused acked) =
        let r = tail_same refused in
        let a = bytes_same acked in
        repeated_same (how_often n often) (bits_said (standing draft one) bits) (bits_said (standing draft other) bits) (bytes_meant (standing draft one) n acked) (bytes_meant (standing draft other) n acked) (tail_meant (standing draft one) n refused) (tail_meant (standing draft other) n refused) a.0 a.1 r.0 r.1
    bytes_same (made_byte made refused acked) = let r = tail_same refused in let a = bytes_same acked in (omega (arith, r.0, a.0), omega (arith, r.1, a.1))
    bytes_same (no_more tail) = tail_same tail

    tail_same : (t : BriefTail) → (tail_nodes (tail_meant (standing draft one) n t) ≡ tail_nodes (tail_meant (standing draft other) n t)) × (tail_bytes (tail_meant (standing draft one) n t) ≡ tail_bytes (tail_meant (standing draft other) n t))
    tail_same stop_here = (refl, refl)
    tail_same (go_on frame) = frame_same frame

module _ (draft : Draft) (first : List ℕ × Address) (frame : BriefFrame) where
  frame_fits : (n : ℕ) → size_refusal (frame_on draft n frame at_start) ≡ None → size_refusal (frame_on (standing draft (Some first)) n frame at_start) ≡ None
  frame_fits n e =
      let before = size_allowed (frame_meant draft n frame) (outline_of draft n frame e) in
      let same = frame_same draft None (Some first) n frame in
      on_outline (standing draft (Some first)) n frame
      (size_fits (frame_meant (standing draft (Some first)) n frame) (subst (λ (k : ℕ). k ≤ MOST_BYTES) same.1 before.0) (subst (λ (k : ℕ). k ≤ MOST_NODES) same.0 before.1))

  each_fits : (name made : List ℕ) (range : Option Lengths) → ((x : List ℕ × FrameTree) → In x (messages_meant draft name range frame) → IsWithin x) → (x : List ℕ × FrameTree) → In x (messages_meant (standing draft (Some first)) made range frame) → IsWithin x
  each_fits name made None all x (inl e) = subst IsWithin (sym e) (frame_fits 1 (all (name, frame_on draft 1 frame at_start) (inl refl)))
  each_fits name made None all x (inr k) = absurd k
  each_fits name made (Some range) all x h =
      let f = from_map (member_meant (standing draft (Some first)) made frame) (lengths range) x h in
      subst IsWithin (sym f.2) (frame_fits f.0 (all (member_meant draft name frame f.0) (in_map (member_meant draft name frame) (lengths range) f.0 f.1)))

-- ---- a message without a group

none_is : {X : Type 0} (o : Option X) → is_some o ≡ false → o ≡ None
none_is o e = grind (arith, common_steps)

-- the range that is refused nowhere
range_free : (draft : Draft) (name : List ℕ) (range : Lengths) → range_refusal draft name range 0 range ≡ Ok range
    → (nat_lt 32 (length (member_name name range.greatest)) ≡ false) × (list_any (is_message draft) (members name range) ≡ false) × (nat_lt MOST_MESSAGES (length draft.plan.messages + length (members name range)) ≡ false)
range_free draft name range e = grind (arith, common_steps)

-- a name that no message, no family and nothing with a group has
record NewName (draft : Draft) (name : List ℕ) : Type 0 where
  family : family_of name draft.families ≡ None
  no_group : grouped_of name draft.grouped ≡ None
  apart : In name (keys_of draft.plan.messages) → ⊥

not_standing : (draft : Draft) (name : List ℕ) → is_message draft name ≡ false → NewName draft name
not_standing draft name e =
    let both = or_neither (is_family draft name) (has_name name draft.plan.messages) e in
    let two = or_neither (is_some (family_of name draft.families)) (is_some (grouped_of name draft.grouped)) both.0 in
    record {
      family = none_is (family_of name draft.families) two.0;
      no_group = none_is (grouped_of name draft.grouped) two.1;
      apart = λ h. not_both (has_name name draft.plan.messages) (in_has_name name draft.plan.messages h) both.1;
    }

none_stands : (draft : Draft) (names : List (List ℕ)) → list_any (is_message draft) names ≡ false → (n : List ℕ) → In n names → NewName draft n
none_stands draft names e n h = not_standing draft n (is_false (is_message draft n) (λ is. not_both (list_any (is_message draft) names) (in_any (is_message draft) names n h is) e))

new_name : (draft : Draft) (name : List ℕ) → message_refusal_of draft name ≡ None → NewName draft name × (length draft.plan.messages < MOST_MESSAGES)
unfolding message_refusal_of
new_name draft name e =
    let first = passes (is_family draft name) Twice _ e in
    let two = or_neither (is_some (family_of name draft.families)) (is_some (grouped_of name draft.grouped)) first.0 in
    let free = message_name_allowed draft.plan name first.1 in (
      record {
        family = none_is (family_of name draft.families) two.0;
        no_group = none_is (grouped_of name draft.grouped) two.1;
        apart = none_number name draft.plan.messages free.0;
      },
      free.1,
    )

one_made : (range : Option Lengths) (name m : List ℕ) → In m (all_made range (name ∷ [])) → In m (members_or name range)
one_made range name m h = subst (λ (names : List (List ℕ)). In m names) (append-nil (members_or name range)) h

-- what the names of one message must be
record NewMembers (draft : Draft) (name : List ℕ) (range : Option Lengths) : Type 0 where
  named : (m : List ℕ) → In m (members_or name range) → IsName m
  once : Distinct (members_or name range)
  new : (m : List ℕ) → In m (members_or name range) → NewName draft m
  room : length draft.plan.messages + length (members_or name range) ≤ MOST_MESSAGES

new_members : (draft : Draft) (name : List ℕ) (range : Option Lengths) (frame : BriefFrame) → IsName name → ((r : Lengths) → range ≡ Some r → r.greatest ≤ 255) → MessageFits draft name range frame → NewMembers draft name range
new_members draft name None frame is bound fits =
    let free = new_name draft name fits.new in
    record {
      named = λ m h. subst IsName (sym (one name m h)) is;
      once = ((λ h. absurd h), tt);
      new = λ m h. subst (NewName draft) (sym (one name m h)) free.0;
      room = omega (arith, free.1);
    }
  where
    one : (n m : List ℕ) → In m (n ∷ []) → m ≡ n
    one n m (inl e) = e
    one n m (inr k) = absurd k
new_members draft name (Some range) frame is bound fits =
    let small = bound range refl in
    let free = range_free draft name range fits.members in
    record {
      named = members_named name range small is (ltb-false 32 (length (member_name name range.greatest)) free.0);
      once = members_once name range small;
      new = none_stands draft (members name range) free.1;
      room = ltb-false MOST_MESSAGES (length draft.plan.messages + length (members name range)) free.2;
    }

new_names : (draft : Draft) (name : List ℕ) (range : Option Lengths) (frame : BriefFrame) → IsName name → ((r : Lengths) → range ≡ Some r → r.greatest ≤ 255) → MessageFits draft name range frame → NewNames draft (name ∷ []) range
new_names draft name range frame is bound fits =
    let free = (new_name draft name fits.new).0 in
    let own = new_members draft name range frame is bound fits in
    let size = ap length (append-nil (members_or name range)) in
    record {
      family = λ h i. subst (λ (n : List ℕ). family_of n draft.families ≡ None) (sym (only h i)) free.family;
      apart = λ h i k. free.apart (subst (λ (n : List ℕ). In n (keys_of draft.plan.messages)) (only h i) k);
      no_group = λ h i. subst (λ (n : List ℕ). grouped_of n draft.grouped ≡ None) (sym (only h i)) free.no_group;
      heads_once = ((λ h. absurd h), tt);
      named = λ m h. own.named m (one_made range name m h);
      once = subst Distinct (sym (append-nil (members_or name range))) own.once;
      no_family = λ m h. (own.new m (one_made range name m h)).family;
      no_message = λ m h. (own.new m (one_made range name m h)).apart;
      no_grouped = λ m h. (own.new m (one_made range name m h)).no_group;
      free = λ h r e i k. no_member name r (bound r e) (subst (λ (o : Option Lengths). In name (members_or name o)) e (subst (λ (n : List ℕ). In n (members_or name range)) (only h i) (one_made range name h k)));
      room = omega (arith, own.room, size);
    }
  where
    only : (h : List ℕ) → In h (name ∷ []) → h ≡ name
    only h (inl e) = e
    only h (inr k) = absurd k

no_extra : (draft : Draft) (heads : List (List ℕ)) (range : Option Lengths) → NewGroup draft heads range []
no_extra draft heads range = record {
  one = λ a b names more e f. absurd cc;
  names = λ a them e. absurd cc;
  no_message = λ a them e. absurd cc;
  no_family = λ a them e. absurd cc;
  no_group = λ a them e. absurd cc;
  no_head = λ a them e. absurd cc;
  not_made = λ a them e. absurd cc;
}

-- ---- a message with a group

distinct_from_repeats : (names : List (List ℕ)) → repeats names ≡ false → Distinct names
distinct_from_repeats [] e = tt
distinct_from_repeats (n ∷ names) e =
    let two = or_neither (holds n names) (repeats names) e in
    ((λ h. not_both (holds n names) (in_holds n names h) two.0), distinct_from_repeats names two.1)

all_none : (heads : List (List ℕ)) → all_made None heads ≡ heads
all_none [] = refl
all_none (h ∷ heads) = ap (λ (them : List (List ℕ)). h ∷ them) (all_none heads)

members_count : (h : List ℕ) (range : Option Lengths) → length (members_or h range) ≡ how_many range
members_count h None = refl
members_count h (Some range) = length-map (lengths range) (member_name h)

all_count : (range : Option Lengths) (heads : List (List ℕ)) → length (all_made range heads) ≡ length heads * how_many range
all_count range [] = omega (arith)
all_count range (h ∷ heads) =
    let sum = length-append (members_or h range) (all_made range heads) in
    let rest = all_count range heads in
    let one = members_count h range in
    one_more (length heads) (how_many range) (length (members_or h range)) (length (all_made range heads)) (length (all_made range (h ∷ heads))) sum one rest
  where
    one_more : (k c a b s : ℕ) → s ≡ a + b → a ≡ c → b ≡ k * c → s ≡ suc k * c
    one_more k c a b s e f g = e ∙ (λ i. f i + g i) ∙ omega arith

group_names : (draft : Draft) (name : List ℕ) (range : Option Lengths) (frame : BriefFrame) (group : List ℕ) (devices : List (List ℕ)) → keys_of (flat_map (device_meant draft name range frame group) devices) ≡ all_made range (map (device_name name) devices)
group_names draft name range frame group [] = refl
group_names draft name range frame group (d ∷ devices) =
    keys_both (device_meant draft name range frame group d) (flat_map (device_meant draft name range frame group) devices)
    ∙ (λ i. made_names (standing draft (Some (group, address_said draft (named d)))) (device_name name d) range frame i ++ group_names draft name range frame group devices i)

-- what is refused nowhere
grouped_free : (draft : Draft) (name : List ℕ) (range : Option Lengths) (group : List ℕ) (others : List (List ℕ)) → grouped_by draft name range (group ∷ others) 0 range ≡ Ok range
    → (nat_lt MOST_MESSAGES (length draft.plan.messages + length (devices_of draft group) * how_many range) ≡ false) × (list_any (is_long range) (device_names draft name group) ≡ false)
    × (list_any (is_message draft) (further_names range (device_names draft name group)) ≡ false) × (repeats (further_names range (device_names draft name group)) ≡ false)
grouped_free draft name range group others e =
    by (list_any (λ other. not (bytes_eq other group)) others) (nat_lt MOST_MESSAGES (length (devices_of draft group)))
    (nat_lt MOST_MESSAGES (length draft.plan.messages + length (devices_of draft group) * how_many range)) (list_any (is_long range) (device_names draft name group))
    (list_any (is_message draft) (further_names range (device_names draft name group))) (repeats (further_names range (device_names draft name group))) e
  where
    by : (a b c d k m : Bool) → (if a then Err (errors.Unexpected 0) else if b then Err (errors.TooMany 0) else if c then Err (errors.TooMany 0) else if d then Err (errors.Unexpected 0) else if k then Err (errors.Twice 0) else if m then Err (errors.Twice 0) else Ok range) ≡ Ok range
        → (c ≡ false) × (d ≡ false) × (k ≡ false) × (m ≡ false)
    by false false false false false false h = (refl, refl, refl, refl)
    by true b c d k m h = absurd cc
    by false true c d k m h = absurd cc
    by false false true d k m h = absurd cc
    by false false false true k m h = absurd cc
    by false false false false true m h = absurd cc
    by false false false false false true h = absurd cc

device_longer : (name d : List ℕ) → length (device_name name d) ≡ length name + 1 + length d
device_longer name d = grind (arith, common_steps, length-append)

module _ (draft : Draft) (sound : Sound draft) (name : List ℕ) (range : Option Lengths) (group : List ℕ) (is : IsName name) (bound : (r : Lengths) → range ≡ Some r → r.greatest ≤ 255) (own : NewName draft name)
    (room : nat_lt MOST_MESSAGES (length draft.plan.messages + length (devices_of draft group) * how_many range) ≡ false)
    (short : list_any (is_long range) (device_names draft name group) ≡ false)
    (new : list_any (is_message draft) (further_names range (device_names draft name group)) ≡ false)
    (once : repeats (further_names range (device_names draft name group)) ≡ false) where
  abbrev heads : List (List ℕ)
  heads = device_names draft name group

  distinct : Distinct (further_names range heads)
  distinct = distinct_from_repeats (further_names range heads) once

  head_further : (o : Option Lengths) (h : List ℕ) → In h heads → In h (further_names o heads)
  head_further None h i = i
  head_further (Some r) h i = in_left h heads (all_made (Some r) heads) i

  made_further : (o : Option Lengths) (m : List ℕ) → In m (all_made o heads) → In m (further_names o heads)
  made_further None m i = subst (λ (them : List (List ℕ)). In m them) (all_none heads) i
  made_further (Some r) m i = in_right m heads (all_made (Some r) heads) i

  heads_distinct : (o : Option Lengths) → Distinct (further_names o heads) → Distinct heads
  heads_distinct None d = d
  heads_distinct (Some r) d = distinct_left heads (all_made (Some r) heads) d

  made_distinct : (o : Option Lengths) → Distinct (further_names o heads) → Distinct (all_made o heads)
  made_distinct None d = subst Distinct (sym (all_none heads)) d
  made_distinct (Some r) d = distinct_right heads (all_made (Some r) heads) d

  apart_some : (o : Option Lengths) (r : Lengths) → o ≡ Some r → Distinct (further_names o heads) → (h : List ℕ) → In h heads → In h (all_made o heads) → ⊥
  apart_some None r e d h i k = absurd cc
  apart_some (Some q) r e d h i k = distinct_apart heads (all_made (Some q) heads) d h i k

  further_new : (n : List ℕ) → In n (further_names range heads) → NewName draft n
  further_new = none_stands draft (further_names range heads) new

  -- ---- they are names

  device_named : (d : List ℕ) → In d (devices_of draft group) → IsName d
  device_named d i = by (grouped_of group draft.groups) refl i
    where
      by : (o : Option (List (List ℕ))) → grouped_of group draft.groups ≡ o → In d (unwrap_or o []) → IsName d
      by None e k = absurd k
      by (Some names) e k = sound.devices group d names e k

  not_long : (h : List ℕ) → In h heads → is_long range h ≡ false
  not_long h i = is_false (is_long range h) (λ e. not_both (list_any (is_long range) heads) (in_any (is_long range) heads h i e) short)

  -- its longest name is no shorter
  head_short : (o : Option Lengths) (h : List ℕ) → is_long o h ≡ false → length h ≤ 32
  head_short None h e = ltb-false 32 (length h) e
  head_short (Some r) h e = let l = ltb-false 32 (length (member_name h r.greatest)) e in let more = longer h r.greatest in omega (arith, l, more)

  head_named : (h : List ℕ) → In h heads → IsName h
  head_named h i =
      let f = from_map (device_name name) (devices_of draft group) h i in
      let few = head_short range h (not_long h i) in
      subst IsName (sym f.2) (is_joined name f.0 is (name_parts f.0 (device_named f.0 f.1)).all (subst (λ (n : List ℕ). length n ≤ 32) f.2 few))

  made_named : (o : Option Lengths) → range ≡ o → (m : List ℕ) → In m (all_made o heads) → IsName m
  made_named None e m i = head_named m (subst (λ (them : List (List ℕ)). In m them) (all_none heads) i)
  made_named (Some r) e m i =
      let f = from_flat (λ h. members h r) heads m i in
      let few = subst (λ (o : Option Lengths). is_long o f.0 ≡ false) e (not_long f.0 f.1) in
      members_named f.0 r (bound r e) (head_named f.0 f.1) (ltb-false 32 (length (member_name f.0 r.greatest)) few) m f.2

  group_new : NewNames draft heads range
  group_new = record {
    family = λ h i. (further_new h (head_further range h i)).family;
    apart = λ h i. (further_new h (head_further range h i)).apart;
    no_group = λ h i. (further_new h (head_further range h i)).no_group;
    heads_once = heads_distinct range distinct;
    named = made_named range refl;
    once = made_distinct range distinct;
    no_family = λ m i. (further_new m (made_further range m i)).family;
    no_message = λ m i. (further_new m (made_further range m i)).apart;
    no_grouped = λ m i. (further_new m (made_further range m i)).no_group;
    free = λ h r e i k. apart_some range r e distinct h i k;
    room =
        let few = ltb-false MOST_MESSAGES (length draft.plan.messages + length (devices_of draft group) * how_many range) room in
        let count = all_count range heads in
        let same : length heads * how_many range ≡ length (devices_of draft group) * how_many range = ap (λ k. k * how_many range) (length-map (devices_of draft group) (device_name name)) in
        subst (λ k. length draft.plan.messages + k ≤ MOST_MESSAGES) (sym (count ∙ same)) few;
  }

  -- ---- the message itself

  longer_head : (h : List ℕ) → In h heads → length name < length h
  longer_head h i = let f = from_map (device_name name) (devices_of draft group) h i in let l = device_longer name f.0 in let same = ap length f.2 in omega (arith, l, same)

  longer_made : (o : Option Lengths) (m : List ℕ) → In m (all_made o heads) → length name < length m
  longer_made None m i = longer_head m (subst (λ (them : List (List ℕ)). In m them) (all_none heads) i)
  longer_made (Some r) m i =
      let f = from_flat (λ h. members h r) heads m i in
      let g = from_map (member_name f.0) (lengths r) m f.2 in
      let l = longer f.0 g.0 in
      let same = ap length g.2 in
      let more = longer_head f.0 f.1 in
      omega (arith, l, same, more)

  only : (a : List ℕ) (them : List (List ℕ)) → grouped_of a ((name, heads) ∷ []) ≡ Some them → (a ≡ name) × (them ≡ heads)
  only a them e = by (bytes_eq a name) refl e
    where
      by : (t : Bool) → bytes_eq a name ≡ t → cond t (Some heads) None ≡ Some them → (a ≡ name) × (them ≡ heads)
      by true h g = (same-bytes_eq a name h, let same : heads ≡ them = cc in sym same)
      by false h g = absurd cc

  group_extra : NewGroup draft heads range ((name, heads) ∷ [])
  group_extra = record {
    one = λ a b names more e f. (only a names e).0 ∙ sym (only b more f).0;
    names = λ a them e. (only a them e).1;
    no_message = λ a them e h. own.apart (subst (λ (n : List ℕ). In n (keys_of draft.plan.messages)) (only a them e).0 h);
    no_family = λ a them e. subst (λ (n : List ℕ). family_of n draft.families ≡ None) (sym (only a them e).0) own.family;
    no_group = λ a them e. subst (λ (n : List ℕ). grouped_of n draft.grouped ≡ None) (sym (only a them e).0) own.no_group;
    no_head = λ a them e h. absurd (let l = longer_head a h in let same = ap length (only a them e).0 in omega (arith, l, same));
    not_made = λ a them e h. absurd (let l = longer_made range a h in let same = ap length (only a them e).0 in omega (arith, l, same));
  }

-- ---- a message

same_families : (draft : Draft) (name : List ℕ) (range : Option Lengths) → draft.families ++ families_of range (name ∷ []) ≡ with_family draft name range
same_families draft name None = append-nil draft.families
same_families draft name (Some range) = refl

pub sound_message : (draft : Draft) (name : List ℕ) (range : Option Lengths) (frame : BriefFrame) → Sound draft → IsName name → ((r : Lengths) → range ≡ Some r → r.greatest ≤ 255) → MessageFits draft name range frame → Sound (with_item draft (message name range frame))
unfolding with_item
sound_message draft name range frame sound is bound fits = by (frame_groups draft frame) fits.grouped
  where
    plain : (x : List ℕ × FrameTree) → In x (messages_meant draft name range frame) → IsWithin x
    plain = each_in (messages_meant draft name range frame) fits.each

    grow : (heads : List (List ℕ)) (made : Messages) (extra : Listings) → keys_of made ≡ all_made range heads → NewNames draft heads range → NewGroup draft heads range extra → ((x : List ℕ × FrameTree) → In x made → IsWithin x)
        → Sound (record draft { plan = with_messages draft.plan made; families = draft.families ++ families_of range heads; grouped = draft.grouped ++ extra })
    grow heads made extra names new group each =
        let size = length-map made (λ (e : List ℕ × FrameTree). e.0) in
        let same = ap length names in
        let limits = messages_within made draft.plan sound.limits (λ m h. new.named m (subst (λ (ns : List (List ℕ)). In m ns) names h)) (subst Distinct (sym names) new.once)
        (λ m h g. new.no_message m (subst (λ (ns : List (List ℕ)). In m ns) names h) g) (omega (arith, new.room, size, same)) each in
        let are = messages_are made draft.plan in
        subst (λ (p : Contents). Sound (record draft { plan = p; families = draft.families ++ families_of range heads; grouped = draft.grouped ++ extra })) (sym are)
        (sound_grown draft sound heads range made names bound new extra group (subst IsWithinLimits are limits))

    by : (groups : List (List ℕ)) → grouped_by draft name range groups 0 range ≡ Ok range → Sound (with_made draft name range frame groups)
    by [] e =
        let made = messages_meant draft name range frame in
        let names = made_names draft name range frame ∙ sym (append-nil (members_or name range)) in
        let grown = grow (name ∷ []) made [] names (new_names draft name range frame is bound fits) (no_extra draft (name ∷ []) range) plain in
        subst (λ (fs : FamilyList). Sound (record draft { plan = with_messages draft.plan made; families = fs })) (same_families draft name range)
        (subst (λ (gs : Listings). Sound (record draft { plan = with_messages draft.plan made; families = draft.families ++ families_of range (name ∷ []); grouped = gs })) (append-nil draft.grouped) grown)
    by (group ∷ others) e =
        let free = grouped_free draft name range group others e in
        let own = (new_name draft name fits.new).0 in
        grow (device_names draft name group) (grouped_meant draft name range frame group) ((name, device_names draft name group) ∷ [])
        (group_names draft name range frame group (devices_of draft group))
        (group_new draft sound name range group is bound own free.0 free.1 free.2 free.3)
        (group_extra draft sound name range group is bound own free.0 free.1 free.2 free.3)
        (λ x h. let f = from_flat (device_meant draft name range frame group) (devices_of draft group) x h in each_fits draft (group, address_said draft (named f.0)) frame name (device_name name f.0) range plain x f.2)
