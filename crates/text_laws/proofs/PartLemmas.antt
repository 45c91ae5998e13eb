-- Each message that a controller lists is in exactly one of its parts; the parts of a sound draft.
use Rattle.std.proofs.Common.{◌≡◌, ℕ, ◌⊎◌, inl, inr, ◌&&◌, ◌||◌, Bool, true, false, not, cond, List, [], ◌∷◌, map, Option, Some, None, refl, ap, sym, ◌∙◌, subst, arith, true≢false, ◌+◌, length}
use Rattle.std.proofs.lemmas.Grind.{common_steps}
use Rattle.std.specs.List.{list_any, filter, flat_map, count_by, sum_by}
use Rattle.std.specs.Str.{bytes_eq}
use Rattle.plan_core.proofs.BuildingLemmas.{bytes_eq-same, same-bytes_eq}
use Rattle.brief_text.specs.Drafts.{Draft, stands_for, stands_alone_for, names_made}
use Rattle.brief_text.specs.Splitting.{Part, label_messages, label_names, is_of_labelled, is_of_device, is_label, is_in_part, label_part, rest_part, sends_any, part_name, side_name, whole, split_by, labels_of, parts_of, parts}
use Rattle.brief_text.specs.Trees.{Side}
use Rattle.text_laws.specs.Sendings.{sends}
use Rattle.text_laws.proofs.Membership.{In, Distinct, any_in, in_any, in_filter, from_filter, in_flat, from_flat, holds, holds_in, in_holds, is_false, not_both, true_or_false, AtMostOne, count_none, count_one, count-cons, distinct_both, in_map, from_map, distinct_filter, distinct_from_map, distinct_kept, distinct_one}
use Rattle.std.specs.Map.{keys_of}
use Rattle.std.proofs.lemmas.List.{map-append}
use Rattle.std.proofs.lemmas.List.Sums.{sum_by-cons, sum_by-append}
use Rattle.plan_core.specs.Names.{IsName}
use Rattle.text_laws.proofs.SoundDrafts.{Sound, ListSound}
use Rattle.text_laws.proofs.Standings.{known_plain, head_known, stands_plain, makes_none, message_plain, is_plain, nested}

-- ---- what holds of labels of one controller

-- two labels of these are the same label only if they are one
pub record Several (draft : Draft) (labels : List Side) : Type 0 where
  pub once : Distinct labels
  pub each : (s : Side) → In s labels → (label : List ℕ) × (s.label ≡ Some label)
  pub same : (s t : Side) → In s labels → In t labels → s.label ≡ t.label → s ≡ t

-- what the labels say of a message
module _ (draft : Draft) (labels : List Side) (m : List ℕ) (several : Several draft labels)
    -- the message is no family, and makes no names
    (plain : stands_for draft m ≡ m ∷ [])
    (none_made : names_made draft m ≡ [])
    -- two names that stand for it: it is one of them, or they are one, or one makes the other
    (one : (a b : List ℕ) → In m (stands_for draft a) → In m (stands_for draft b) → (m ≡ a) ⊎ ((m ≡ b) ⊎ ((a ≡ b) ⊎ (In b (names_made draft a) ⊎ In a (names_made draft b)))))
    -- what is made stands for what it stands for alone, and makes no names
    (head : (a h : List ℕ) → In h (names_made draft a) → (stands_for draft h ≡ stands_alone_for draft h) × (names_made draft h ≡ [])) where
  labelled_by : (s : Side) → is_label m s ≡ true → s.label ≡ Some m
  labelled_by s h = by s.label refl h
    where
      by : (o : Option (List ℕ)) → s.label ≡ o → (elim o [ None ↦ false | Some label ↦ bytes_eq label m ]) ≡ true → s.label ≡ Some m
      by None e g = absurd (true≢false (sym g))
      by (Some label) e g = e ∙ ap (λ (x : List ℕ). Some x) (same-bytes_eq label m g)

  -- the messages of a label
  by_label : (s : Side) (label : List ℕ) → s.label ≡ Some label → label_messages draft s ≡ stands_for draft label
  by_label s label e = ap (λ (o : Option (List ℕ)). elim o [ None ↦ [] | Some l ↦ stands_for draft l ]) e

  -- the names that it makes
  names_by : (s : Side) (label : List ℕ) → s.label ≡ Some label → label_names draft s ≡ names_made draft label
  names_by s label e = ap (λ (o : Option (List ℕ)). elim o [ None ↦ [] | Some l ↦ names_made draft l ]) e

  -- a label that makes no names leaves all to itself
  none_of_device : (s : Side) (label : List ℕ) → s.label ≡ Some label → names_made draft label ≡ [] → is_of_device draft labels s m ≡ false
  none_of_device s label e none = ap (list_any (is_of_labelled draft labels m)) (names_by s label e ∙ none)

  own : (s : Side) → is_label m s ≡ true → In m (label_messages draft s)
  own s h = subst (λ (names : List (List ℕ)). In m names) (sym (by_label s m (labelled_by s h) ∙ plain)) (inl refl)

  abbrev has_own : Bool
  has_own = list_any (is_label m) labels

  -- its part, as a test of labels
  abbrev there : Side → Bool
  there s = is_in_part draft labels s m

  few_own : (sides : List Side) → ((s : Side) → In s sides → In s labels) → Distinct sides → AtMostOne (is_label m) sides
  few_own [] within once = tt
  few_own (s ∷ sides) within once = grind (arith, common_steps, is_false, any_in, several.same, labelled_by, (few_own sides))

  -- where no label is the message itself
  module _ (none_own : has_own ≡ false) where
    not_own : (s : Side) → In s labels → s.label ≡ Some m → ⊥
    not_own s h e = not_both has_own (in_any (is_label m) labels s h (ap (λ (o : Option (List ℕ)). elim o [ None ↦ false | Some label ↦ bytes_eq label m ]) e ∙ bytes_eq-same m m refl)) none_own

    there_is : (s : Side) → there s ≡ (holds m (label_messages draft s) && not (is_of_device draft labels s m))
    there_is s = by (is_label m s)
      where
        by : (b : Bool) → (holds m (label_messages draft s) && ((b || not has_own) && not (is_of_device draft labels s m))) ≡ (holds m (label_messages draft s) && not (is_of_device draft labels s m))
        by b = grind (arith, common_steps)

    is_named : (s : Side) (label : List ℕ) → s.label ≡ Some label → is_label label s ≡ true
    is_named s label e = ap (λ (o : Option (List ℕ)). elim o [ None ↦ false | Some l ↦ bytes_eq l label ]) e ∙ bytes_eq-same label label refl

    -- where a label makes the other one, its part does not have the message
    of_device : (s t : Side) (a b : List ℕ) → s.label ≡ Some a → In t labels → t.label ≡ Some b → In b (names_made draft a) → In m (stands_for draft b) → is_of_device draft labels s m ≡ true
    of_device s t a b e other f made inside =
        let alone = subst (λ (names : List (List ℕ)). In m names) (head a b made).0 inside in
        in_any (is_of_labelled draft labels m) (label_names draft s) b (subst (λ (names : List (List ℕ)). In b names) (sym (names_by s a e)) made)
        (both (in_any (is_label b) labels t other (is_named t b f)) (in_holds m (stands_alone_for draft b) alone))
      where
        both : {x y : Bool} → x ≡ true → y ≡ true → (x && y) ≡ true
        both g h = rw (g, h) refl

    same_family : (s t : Side) → In s labels → In t labels → there s ≡ true → there t ≡ true → s ≡ t
    same_family s t at other h g =
        let a = several.each s at in
        let b = several.each t other in
        let x = parted (holds m (label_messages draft s)) (is_of_device draft labels s m) (sym (there_is s) ∙ h) in
        let y = parted (holds m (label_messages draft t)) (is_of_device draft labels t m) (sym (there_is t) ∙ g) in
        let here = subst (λ (names : List (List ℕ)). In m names) (by_label s a.0 a.1) (holds_in m (label_messages draft s) x.0) in
        let also = subst (λ (names : List (List ℕ)). In m names) (by_label t b.0 b.1) (holds_in m (label_messages draft t) y.0) in
        by a.0 b.0 a.1 b.1 here also x.1 y.1 (one a.0 b.0 here also)
      where
        parted : (p q : Bool) → (p && not q) ≡ true → (p ≡ true) × (q ≡ false)
        parted true false e = (refl, refl)
        parted true true e = absurd cc
        parted false q e = absurd cc

        by : (a b : List ℕ) → s.label ≡ Some a → t.label ≡ Some b → In m (stands_for draft a) → In m (stands_for draft b) → is_of_device draft labels s m ≡ false → is_of_device draft labels t m ≡ false
            → (m ≡ a) ⊎ ((m ≡ b) ⊎ ((a ≡ b) ⊎ (In b (names_made draft a) ⊎ In a (names_made draft b)))) → s ≡ t
        by a b e f i j x y (inl same) = absurd (not_own s at (e ∙ ap (λ (n : List ℕ). Some n) (sym same)))
        by a b e f i j x y (inr (inl same)) = absurd (not_own t other (f ∙ ap (λ (n : List ℕ). Some n) (sym same)))
        by a b e f i j x y (inr (inr (inl same))) = several.same s t at other (e ∙ ap (λ (n : List ℕ). Some n) same ∙ sym f)
        by a b e f i j x y (inr (inr (inr (inl made)))) = absurd (not_both (is_of_device draft labels s m) (of_device s t a b e other f made j) x)
        by a b e f i j x y (inr (inr (inr (inr made)))) = absurd (not_both (is_of_device draft labels t m) (of_device t s b a f at e made i) y)

    -- a label that stands for the message has it in its part, or one of a device has
    some_there : (s : Side) → In s labels → In m (label_messages draft s) → list_any there labels ≡ true
    some_there s at inside = by (true_or_false (is_of_device draft labels s m))
      where
        holding : holds m (label_messages draft s) ≡ true
        holding = in_holds m (label_messages draft s) inside

        by : (is_of_device draft labels s m ≡ true) ⊎ (is_of_device draft labels s m ≡ false) → list_any there labels ≡ true
        by (inr none) = in_any there labels s at (there_is s ∙ rw (holding, none) refl)
        by (inl some) =
            let a = several.each s at in
            let h = any_in (is_of_labelled draft labels m) (label_names draft s) some in
            let tests = both_parts (list_any (is_label h.0) labels) (holds m (stands_alone_for draft h.0)) h.2 in
            let t = any_in (is_label h.0) labels tests.0 in
            let made = subst (λ (names : List (List ℕ)). In h.0 names) (names_by s a.0 a.1) h.1 in
            let named = label_of t.0 h.0 t.2 in
            let plain = head a.0 h.0 made in
            let there_too = subst (λ (names : List (List ℕ)). In m names) (sym (by_label t.0 h.0 named ∙ plain.0)) (holds_in m (stands_alone_for draft h.0) tests.1) in
            in_any there labels t.0 t.1 (there_is t.0 ∙ rw (in_holds m (label_messages draft t.0) there_too, none_of_device t.0 h.0 named plain.1) refl)
          where
            both_parts : (p q : Bool) → (p && q) ≡ true → (p ≡ true) × (q ≡ true)
            both_parts true true e = (refl, refl)
            both_parts true false e = absurd cc
            both_parts false q e = absurd cc

            label_of : (t : Side) (n : List ℕ) → is_label n t ≡ true → t.label ≡ Some n
            label_of t n h = option_of t.label refl h
              where
                option_of : (o : Option (List ℕ)) → t.label ≡ o → (elim o [ None ↦ false | Some label ↦ bytes_eq label n ]) ≡ true → t.label ≡ Some n
                option_of None e g = absurd (true≢false (sym g))
                option_of (Some label) e g = e ∙ ap (λ (x : List ℕ). Some x) (same-bytes_eq label n g)

    few_there : (sides : List Side) → ((s : Side) → In s sides → In s labels) → Distinct sides → AtMostOne there sides
    few_there [] within once = tt
    few_there (s ∷ sides) within once = grind (arith, common_steps, is_false, any_in, same_family, (few_there sides))

  -- where one is
  module _ (some_own : has_own ≡ true) where
    there_own : (s : Side) → there s ≡ is_label m s
    there_own s = by (is_label m s) refl
      where
        by : (b : Bool) → is_label m s ≡ b → (holds m (label_messages draft s) && ((b || not has_own) && not (is_of_device draft labels s m))) ≡ b
        by true e = rw (in_holds m (label_messages draft s) (own s e), none_of_device s m (labelled_by s e) none_made) refl
        by false e = grind (arith, common_steps)

    agree : (sides : List Side) → count_by there sides ≡ count_by (is_label m) sides
    agree [] = refl
    agree (s ∷ sides) = grind (arith, common_steps, count-cons, there_own, (agree sides))

  -- whether no label stands for the message
  abbrev left : Bool
  left = not (holds m (flat_map (label_messages draft) labels))

  any_there : list_any there labels ≡ not left
  any_there = by (list_any there labels) (holds m (flat_map (label_messages draft) labels)) refl refl
    where
      first : list_any there labels ≡ true → holds m (flat_map (label_messages draft) labels) ≡ true
      first h =
          let f = any_in there labels h in
          in_holds m (flat_map (label_messages draft) labels) (in_flat (label_messages draft) labels f.0 m f.1 (holds_in m (label_messages draft f.0) (front _ _ f.2)))
        where
          front : (a b : Bool) → (a && b) ≡ true → a ≡ true
          front a b e = grind (arith, common_steps)

      second : holds m (flat_map (label_messages draft) labels) ≡ true → list_any there labels ≡ true
      second h =
          let f = from_flat (label_messages draft) labels m (holds_in m (flat_map (label_messages draft) labels) h) in
          either f.0 f.1 f.2 (true_or_false has_own)
        where
          either : (s : Side) → In s labels → In m (label_messages draft s) → (has_own ≡ true) ⊎ (has_own ≡ false) → list_any there labels ≡ true
          either s e f (inl g) = let t = any_in (is_label m) labels g in in_any there labels t.0 t.1 (there_own g t.0 ∙ t.2)
          either s e f (inr g) = some_there g s e f

      by : (a b : Bool) → list_any there labels ≡ a → holds m (flat_map (label_messages draft) labels) ≡ b → a ≡ not (not b)
      by a b e f = grind (arith, common_steps, first, second)

  pub count_there : count_by there labels ≡ cond left 0 1
  count_there = grind (arith, common_steps, true_or_false, agree, count_one, few_own, several.once, few_there, count_none, any_there)

  -- ---- parts

  module _ (controller : List ℕ) (listed : List (List ℕ)) (lists : In m listed) where
    sends_there : (s : Side) → sends m (label_part draft labels listed s) ≡ there s
    sends_there s = grind (arith, common_steps, in_holds, in_filter, is_false, not_both, from_filter, holds_in)

    sends_rest : sends m (rest_part draft labels listed controller) ≡ left
    sends_rest = grind (arith, common_steps, in_holds, in_filter, is_false, not_both, from_filter, holds_in)

    each_label : (sides : List Side) → count_by (sends m) (map (label_part draft labels listed) sides) ≡ count_by there sides
    each_label [] = refl
    each_label (s ∷ sides) = grind (arith, common_steps, count-cons, sends_there, (each_label sides))

    pub all_parts : count_by (sends m) (rest_part draft labels listed controller ∷ map (label_part draft labels listed) labels) ≡ 1
    all_parts = grind (arith, common_steps, count-cons, sends_rest, each_label, count_there)

-- what has no message is left out, and nothing is lost
pub kept : (m : List ℕ) (all : List Part) → count_by (sends m) (filter sends_any all) ≡ count_by (sends m) all
kept m [] = refl
kept m (p ∷ all) = grind (arith, common_steps, count-cons, (kept m all))

-- ---- the parts of a sound draft

pub one_side : (s t : Side) → s.controller ≡ t.controller → s.label ≡ t.label → s ≡ t
one_side s t e f = λ i. record { controller = e i; label = f i }

module _ (draft : Draft) (sound : Sound draft) where
  -- ---- messages that are listed

  -- what is made by a group
  heads : (a h : List ℕ) → In h (names_made draft a) → (stands_for draft h ≡ stands_alone_for draft h) × (names_made draft h ≡ [])
  heads a h i =
      let plain = known_plain draft sound h (head_known draft sound a h i) in
      (stands_plain draft sound h plain, makes_none draft sound h plain)

  pub labels_within : (controller : List ℕ) (s : Side) → In s (labels_of draft controller) → In s draft.labels × (s.controller ≡ controller)
  labels_within controller s h = let f = from_filter (λ (side : Side). bytes_eq side.controller controller) draft.labels s h in (f.0, same-bytes_eq s.controller controller f.1)

  pub several : (controller : List ℕ) → Several draft (labels_of draft controller)
  several controller = record {
    once = distinct_filter (λ (side : Side). bytes_eq side.controller controller) draft.labels (distinct_from_map side_name draft.labels sound.labels.once);
    each = λ s h. let l = sound.labels.each s (labels_within controller s h).0 in (l.label, l.is);
    same = λ s t h g e. one_side s t ((labels_within controller s h).1 ∙ sym (labels_within controller t g).1) e;
  }

  module _ (c : List ℕ × List (List ℕ)) (at : In c draft.controllers) where
    known : (m : List ℕ) → In m c.1 → In m (keys_of draft.plan.messages)
    known m h = (sound.controllers.listed c at).known m h

    pub parts_once : (m : List ℕ) → In m c.1 → count_by (sends m) (parts_of draft c) ≡ 1
    parts_once m lists = by (labels_of draft c.0) (several c.0)
      where
        by : (labels : List Side) → Several draft labels → count_by (sends m) (split_by draft labels c.0 c.1) ≡ 1
        by [] s = count-cons (sends m) (record { side = whole c.0; messages = c.1 }) [] ∙ ap (λ (b : Bool). cond b 1 0 + 0) (in_holds m c.1 lists)
        by (side ∷ sides) s = kept m (rest_part draft (side ∷ sides) c.1 c.0 ∷ map (label_part draft (side ∷ sides) c.1) (side ∷ sides)) ∙ all_parts draft (side ∷ sides) m s (is_plain draft sound m (known m lists)) (makes_none draft sound m (message_plain draft sound m (known m lists))) (nested draft sound m) heads c.0 c.1 lists

    -- ---- sizes

    module _ (labels : List Side) (s : Several draft labels) where
      unnamed : List ℕ → Bool
      unnamed message = not (list_any (λ other. bytes_eq other message) (flat_map (label_messages draft) labels))

      size-cons : (p : List ℕ → Bool) (x : List ℕ) (xs : List (List ℕ)) → length (filter p (x ∷ xs)) ≡ cond (p x) 1 0 + length (filter p xs)
      size-cons p x xs = grind (arith, common_steps)

      sizes-cons : (sides : List Side) (x : List ℕ) (xs : List (List ℕ)) → sum_by (λ t. length (filter (is_in_part draft labels t) (x ∷ xs))) sides
          ≡ count_by (λ t. is_in_part draft labels t x) sides + sum_by (λ t. length (filter (is_in_part draft labels t) xs)) sides
      sizes-cons [] x xs = refl
      sizes-cons (t ∷ sides) x xs = grind (arith, common_steps, sum_by-cons, size-cons, count-cons, (sizes-cons sides x xs))

      sizes : (xs : List (List ℕ)) → ((m : List ℕ) → In m xs → In m c.1) → length (filter unnamed xs) + sum_by (λ t. length (filter (is_in_part draft labels t) xs)) labels ≡ length xs
      unfolding unnamed
      sizes [] within = let all = none labels in omega (arith, all)
        where
          none : (sides : List Side) → sum_by (λ t. length (filter (is_in_part draft labels t) [])) sides ≡ 0
          none [] = refl
          none (t ∷ sides) = sum_by-cons (λ t. length (filter (is_in_part draft labels t) [])) t sides ∙ omega (arith, none sides)
      sizes (x ∷ xs) within =
          let rest = sizes xs (λ m h. within m (inr h)) in
          let here = size-cons unnamed x xs in
          let more = sizes-cons labels x xs in
          let one = count_there draft labels x s (is_plain draft sound x (known x (within x (inl refl)))) (makes_none draft sound x (message_plain draft sound x (known x (within x (inl refl))))) (nested draft sound x) heads in
          let split = either (unnamed x) in
          omega (arith, rest, here, more, one, split)
        where
          either : (b : Bool) → cond b 1 0 + cond b 0 1 ≡ 1
          either true = refl
          either false = refl

      mapped : (sides : List Side) → sum_by (λ (p : Part). length p.messages) (map (label_part draft labels c.1) sides) ≡ sum_by (λ t. length (filter (is_in_part draft labels t) c.1)) sides
      mapped [] = refl
      mapped (t ∷ sides) = grind (arith, common_steps, sum_by-cons, (mapped sides))

      pub all_sizes : sum_by (λ (p : Part). length p.messages) (rest_part draft labels c.1 c.0 ∷ map (label_part draft labels c.1) labels) ≡ length c.1
      unfolding unnamed
      all_sizes = grind (arith, common_steps, sum_by-cons, unnamed, mapped, sizes)

    kept_sizes : (all : List Part) → sum_by (λ (p : Part). length p.messages) (filter sends_any all) ≡ sum_by (λ (p : Part). length p.messages) all
    kept_sizes [] = refl
    kept_sizes (p ∷ all) = grind (arith, common_steps, sum_by-cons, (kept_sizes all))

    pub parts_sizes : sum_by (λ (p : Part). length p.messages) (parts_of draft c) ≡ length c.1
    parts_sizes = by (labels_of draft c.0) (several c.0)
      where
        by : (labels : List Side) → Several draft labels → sum_by (λ (p : Part). length p.messages) (split_by draft labels c.0 c.1) ≡ length c.1
        by [] s = sum_by-cons (λ (p : Part). length p.messages) (record { side = whole c.0; messages = c.1 }) [] ∙ omega arith
        by (side ∷ sides) s = kept_sizes (rest_part draft (side ∷ sides) c.1 c.0 ∷ map (label_part draft (side ∷ sides) c.1) (side ∷ sides)) ∙ all_sizes (side ∷ sides) s

    -- ---- what each part is

    -- it is of the controller, or of one of its labels, and has messages that the controller lists
    pub record PartOf (p : Part) : Type 0 where
      pub side : (p.side ≡ whole c.0) ⊎ In p.side (labels_of draft c.0)
      pub within : (m : List ℕ) → In m p.messages → In m c.1
      pub once : Distinct p.messages

    pub part_of : (p : Part) → In p (parts_of draft c) → PartOf p
    part_of p h = by (labels_of draft c.0) (λ s g. g) h
      where
        whole_is : (messages : List (List ℕ)) → p ≡ record { side = whole c.0; messages = messages } → ((m : List ℕ) → In m messages → In m c.1) → Distinct messages → PartOf p
        whole_is messages e inside single = subst PartOf (sym e) (record { side = inl refl; within = inside; once = single })

        by : (labels : List Side) → ((s : Side) → In s labels → In s (labels_of draft c.0)) → In p (split_by draft labels c.0 c.1) → PartOf p
        by [] sides (inl e) = whole_is c.1 e (λ m g. g) (sound.controllers.listed c at).once
        by [] sides (inr k) = absurd k
        by (t ∷ ts) sides k = split (from_filter sends_any (rest_part draft (t ∷ ts) c.1 c.0 ∷ map (label_part draft (t ∷ ts) c.1) (t ∷ ts)) p k).0
          where
            split : In p (rest_part draft (t ∷ ts) c.1 c.0 ∷ map (label_part draft (t ∷ ts) c.1) (t ∷ ts)) → PartOf p
            split (inl e) =
                let test = λ (message : List ℕ). not (list_any (λ other. bytes_eq other message) (flat_map (label_messages draft) (t ∷ ts))) in
                whole_is (filter test c.1) e (λ m g. (from_filter test c.1 m g).0) (distinct_filter test c.1 (sound.controllers.listed c at).once)
            split (inr g) =
                let f = from_map (label_part draft (t ∷ ts) c.1) (t ∷ ts) p g in
                subst PartOf (sym f.2)
                (record {
                  side = inr (sides f.0 f.1);
                  within = λ m i. (from_filter (is_in_part draft (t ∷ ts) f.0) c.1 m i).0;
                  once = distinct_filter (is_in_part draft (t ∷ ts) f.0) c.1 (sound.controllers.listed c at).once;
                })

    pub parts_only : (m : List ℕ) → (In m c.1 → ⊥) → count_by (sends m) (parts_of draft c) ≡ 0
    parts_only m foreign = count_none (sends m) (parts_of draft c) (is_false (list_any (sends m) (parts_of draft c)) (λ h.
        let f = any_in (sends m) (parts_of draft c) h in
        foreign ((part_of f.0 f.1).within m (holds_in m f.0.messages f.2))))

    -- ---- their names

    names_of_labels : (all sides : List Side) → map part_name (map (label_part draft all c.1) sides) ≡ map side_name sides
    names_of_labels all [] = refl
    names_of_labels all (s ∷ sides) = ap (λ (names : List (List ℕ)). side_name s ∷ names) (names_of_labels all sides)

    pub names_once : In c.0 (keys_of draft.controllers) → Distinct (map part_name (parts_of draft c))
    names_once key = by (labels_of draft c.0) (distinct_kept side_name (λ (side : Side). bytes_eq side.controller c.0) draft.labels sound.labels.once) (λ s h. (labels_within c.0 s h).0)
      where
        by : (labels : List Side) → Distinct (map side_name labels) → ((s : Side) → In s labels → In s draft.labels) → Distinct (map part_name (split_by draft labels c.0 c.1))
        by [] once within = ((λ h. h), tt)
        by (t ∷ ts) once within =
            let all = rest_part draft (t ∷ ts) c.1 c.0 ∷ map (label_part draft (t ∷ ts) c.1) (t ∷ ts) in
            let new : In c.0 (map side_name (t ∷ ts)) → ⊥ = λ h.
            let f = from_map side_name (t ∷ ts) c.0 h in
            (sound.labels.each f.0 (within f.0 f.1)).new (subst (λ (n : List ℕ). In n (keys_of draft.controllers)) f.2 key) in
            let names : Distinct (map part_name all) = subst (λ (ns : List (List ℕ)). Distinct (c.0 ∷ ns)) (sym (names_of_labels (t ∷ ts) (t ∷ ts))) (new, once) in
            distinct_kept part_name sends_any all names

  -- ---- all parts

  -- a name of a part of this controller
  NameOf : List ℕ → List ℕ → Type 0
  NameOf controller name = (name ≡ controller) ⊎ ((s : Side) × In s draft.labels × (s.controller ≡ controller) × (name ≡ side_name s))

  name_of : (c : List ℕ × List (List ℕ)) → In c draft.controllers → (name : List ℕ) → In name (map part_name (parts_of draft c)) → NameOf c.0 name
  unfolding NameOf
  name_of c at name h =
      let f = from_map part_name (parts_of draft c) name h in
      by f.0 f.2 (part_of c at f.0 f.1).side
    where
      by : (p : Part) → name ≡ part_name p → (p.side ≡ whole c.0) ⊎ In p.side (labels_of draft c.0) → (name ≡ c.0) ⊎ ((s : Side) × In s draft.labels × (s.controller ≡ c.0) × (name ≡ side_name s))
      by p e (inl w) = inl (e ∙ ap side_name w)
      by p e (inr g) = let l = labels_within c.0 p.side g in inr (p.side, l.0, l.1, e)

  apart_names : (a b : List ℕ) → In a (keys_of draft.controllers) → In b (keys_of draft.controllers) → (a ≡ b → ⊥) → (name : List ℕ) → NameOf a name → NameOf b name → ⊥
  unfolding NameOf
  apart_names a b at other differ name (inl e) (inl f) = differ (sym e ∙ f)
  apart_names a b at other differ name (inl e) (inr t) = (sound.labels.each t.0 t.1).new (subst (λ (n : List ℕ). In n (keys_of draft.controllers)) (sym e ∙ t.3) at)
  apart_names a b at other differ name (inr s) (inl f) = (sound.labels.each s.0 s.1).new (subst (λ (n : List ℕ). In n (keys_of draft.controllers)) (sym f ∙ s.3) other)
  apart_names a b at other differ name (inr s) (inr t) =
      let same = distinct_one side_name draft.labels sound.labels.once s.0 t.0 s.1 t.1 (sym s.3 ∙ t.3) in
      differ (sym s.2 ∙ ap (λ (x : Side). x.controller) same ∙ t.2)

  all_names : (cs : List (List ℕ × List (List ℕ))) → ((c : List ℕ × List (List ℕ)) → In c cs → In c draft.controllers) → Distinct (keys_of cs) → Distinct (map part_name (flat_map (parts_of draft) cs))
  all_names [] within once = tt
  all_names (c ∷ cs) within once =
      let key : (d : List ℕ × List (List ℕ)) → In d (c ∷ cs) → In d.0 (keys_of draft.controllers) = λ d h. in_map (λ (e : List ℕ × List (List ℕ)). e.0) draft.controllers d (within d h) in
      subst Distinct (sym (map-append part_name (parts_of draft c) (flat_map (parts_of draft) cs)))
      (distinct_both (map part_name (parts_of draft c)) (map part_name (flat_map (parts_of draft) cs))
      (names_once c (within c (inl refl)) (key c (inl refl)))
      (all_names cs (λ d h. within d (inr h)) once.1)
      (λ name h g.
      let p = from_map part_name (flat_map (parts_of draft) cs) name g in
      let d = from_flat (parts_of draft) cs p.0 p.1 in
      let there = subst (λ (n : List ℕ). In n (map part_name (parts_of draft d.0))) (sym p.2) (in_map part_name (parts_of draft d.0) p.0 d.2) in
      let differ : c.0 ≡ d.0.0 → ⊥ = λ e. once.0 (subst (λ (n : List ℕ). In n (keys_of cs)) (sym e) (in_map (λ (e : List ℕ × List (List ℕ)). e.0) cs d.0 d.1)) in
      apart_names c.0 d.0.0 (key c (inl refl)) (key d.0 (inr d.1)) differ name (name_of c (within c (inl refl)) name h) (name_of d.0 (within d.0 (inr d.1)) name there)))

  pub part_names_once : Distinct (map part_name (parts draft))
  unfolding parts
  part_names_once = all_names draft.controllers (λ c h. h) sound.controllers.keys

  -- each is a part of a controller
  pub from_parts : (p : Part) → In p (parts draft) → (c : List ℕ × List (List ℕ)) × In c draft.controllers × In p (parts_of draft c)
  unfolding parts
  from_parts p h = from_flat (parts_of draft) draft.controllers p h

  pub part_named : (p : Part) → In p (parts draft) → IsName (part_name p)
  part_named p h = let c = from_parts p h in by c.0 c.1 (part_of c.0 c.1 p c.2).side
    where
      by : (c : List ℕ × List (List ℕ)) → In c draft.controllers → (p.side ≡ whole c.0) ⊎ In p.side (labels_of draft c.0) → IsName (part_name p)
      by c at (inl e) = subst IsName (sym (ap side_name e)) (sound.controllers.named c.0 (in_map (λ (d : List ℕ × List (List ℕ)). d.0) draft.controllers c at))
      by c at (inr g) = (sound.labels.each p.side (labels_within c.0 p.side g).0).named

  pub part_listed : (p : Part) → In p (parts draft) → ListSound draft.plan.messages p.messages
  part_listed p h =
      let c = from_parts p h in
      let q = part_of c.0 c.1 p c.2 in
      record { once = q.once; known = λ m g. (sound.controllers.listed c.0 c.1).known m (q.within m g) }

  all_sums : (cs : List (List ℕ × List (List ℕ))) → ((c : List ℕ × List (List ℕ)) → In c cs → In c draft.controllers) → sum_by (λ (p : Part). length p.messages) (flat_map (parts_of draft) cs) ≡ sum_by (λ (c : List ℕ × List (List ℕ)). length c.1) cs
  all_sums [] within = refl
  all_sums (c ∷ cs) within =
      sum_by-append (λ (p : Part). length p.messages) (parts_of draft c) (flat_map (parts_of draft) cs)
      ∙ omega (arith, parts_sizes c (within c (inl refl)), all_sums cs (λ d h. within d (inr h)), sum_by-cons (λ (c : List ℕ × List (List ℕ)). length c.1) c cs)

  pub part_sums : sum_by (λ (p : Part). length p.messages) (parts draft) ≡ sum_by (λ (c : List ℕ × List (List ℕ)). length c.1) draft.controllers
  unfolding parts
  part_sums = all_sums draft.controllers (λ c h. h)
