-- Two sendings are apart exactly where one controller sends both or a `never` covers them; who sends each message.
use Rattle.std.proofs.Common.{◌≡◌, ℕ, ◌⊎◌, inl, inr, ◌||◌, ◌&&◌, ◌==◌, Bool, true, false, not, List, [], ◌∷◌, ◌++◌, map, Option, Some, None, slice_get, refl, ap, sym, ◌∙◌, subst, true≢false, arith, zero, suc, ◌+◌, cond, length}
use Rattle.std.specs.List.{list_any, filter, flat_map, count_by, filter_map, range_with_len}
use Rattle.std.specs.Map.{keys_of}
use Rattle.std.specs.Str.{bytes_eq}
use Rattle.std.proofs.lemmas.Bool.{and_parts, eqb-true, eq-eqb}
use Rattle.std.proofs.lemmas.Grind.{common_steps}
use Rattle.message_tree.specs.Trees.{FrameTree}
use Rattle.plan_core.specs.Building.{number_of}
use Rattle.plan_core.specs.Contents.{Contents}
use Rattle.plan_core.specs.Participants.{is_never, same_controller, forbidden, apart, sendings_from, participants_of}
use Rattle.plan_core.proofs.BuildingLemmas.{bytes_eq-same, same-bytes_eq}
use Rattle.std.specs.Prelude.{unwrap_or}
use Rattle.brief_text.specs.Drafts.{Draft, stands_for, stands_alone_for, all_or, names_made}
use Rattle.brief_text.specs.Splitting.{Part, part_name, label_messages, label_names, is_own_or_free, is_of_labelled, is_of_device, is_label, is_in_part, label_part, rest_part, sends_any, split_by, labels_of, parts_of, parts, pairs_among, are_of_one, label_means, side_means, parts_meant, pairs_meant, pairs_apart, with_parts, plan_meant, whole}
use Rattle.brief_text.specs.Trees.{Side}
use Rattle.text_laws.specs.Covering.{Sent, label_covers, side_covers, covers_both, told_apart, SendsFor}
use Rattle.text_laws.proofs.PartLemmas.{from_parts, part_names_once, parts_once, part_of, labels_within}
use Rattle.text_laws.proofs.MeantPlans.{entry, parts_are, pairs_controllers, pairs_messages, pairs_added, pairs_from, never_turned, sending_at, from_numbers, meant_within}
use Rattle.text_laws.proofs.Membership.{In, Distinct, in_left, in_right, in_either, in_filter, from_filter, in_map, from_map, in_flat, from_flat, any_in, in_any, is_false, not_both, or_either, or_first, or_second, holds, holds_in, in_holds, distinct_one, true_or_false, distinct_from_map, count-cons, count_none}
use Rattle.text_laws.proofs.EntryNames.{two, slice_in, slice_map, slice_from_map, number_key, key_number, among_places, from_among, in_between, from_between, none_number, distinct_at}
use Rattle.text_laws.proofs.SoundDrafts.{Sound, grouped_of}
use Rattle.text_laws.proofs.Standings.{Alone, alone_cases, head_known, known_plain, stands_plain, Stands, stands_cases, nested, is_plain}
use Rattle.std.proofs.lemmas.Option.{slice_get_within}
use Rattle.plan_core.specs.Labels.{label_of, participant_label}
use Rattle.plan_core.specs.declared.plans.Participant.TheVariants.{Sending, Interrupt}
use Rattle.plan_core.proofs.LabelLaws.{labels_differ_of}
use Rattle.text_laws.specs.Sendings.{sends}

-- two tests that pass alike are one
same_test : (a b : Bool) → (a ≡ true → b ≡ true) → (b ≡ true → a ≡ true) → a ≡ b
same_test a b e f = grind (arith, common_steps, is_false)

both_true : (a b : Bool) → a ≡ true → b ≡ true → (a && b) ≡ true
both_true a b e f = rw (e, f) refl

not_true : (b : Bool) → not b ≡ true → b ≡ false
not_true b e = grind (arith, common_steps)

module _ (draft : Draft) (sound : Sound draft) where
  -- ---- what a part with a message is

  record Placed (p : Part) (m : List ℕ) : Type 0 where
    listed : In m (keys_of draft.plan.messages)
    -- no label stands for what is left
    rest : p.side.label ≡ None → (s : Side) → In s draft.labels → s.controller ≡ p.side.controller → In m (label_messages draft s) → ⊥
    -- the label stands for it, and no label is the message itself, or this one is
    labelled : (l : List ℕ) → p.side.label ≡ Some l → In m (stands_for draft l) × ((l ≡ m) ⊎ ((s : Side) → In s draft.labels → s.controller ≡ p.side.controller → s.label ≡ Some m → ⊥))
    -- and no label is of a device for which it stands
    nearest : (l : List ℕ) → p.side.label ≡ Some l → (s : Side) → In s draft.labels → s.controller ≡ p.side.controller → (h : List ℕ) → s.label ≡ Some h → In h (names_made draft l) → In m (stands_alone_for draft h) → ⊥

  label_is : (s : Side) (m : List ℕ) → is_label m s ≡ true → s.label ≡ Some m
  label_is s m h = by s.label refl h
    where
      by : (o : Option (List ℕ)) → s.label ≡ o → (elim o [ None ↦ false | Some label ↦ bytes_eq label m ]) ≡ true → s.label ≡ Some m
      by None e g = absurd (true≢false (sym g))
      by (Some label) e g = e ∙ ap (λ (x : List ℕ). Some x) (same-bytes_eq label m g)

  is_labelled : (s : Side) (m : List ℕ) → s.label ≡ Some m → is_label m s ≡ true
  is_labelled s m e = ap (λ (o : Option (List ℕ)). elim o [ None ↦ false | Some label ↦ bytes_eq label m ]) e ∙ bytes_eq-same m m refl

  messages_by : (s : Side) (l : List ℕ) → s.label ≡ Some l → label_messages draft s ≡ stands_for draft l
  messages_by s l e = ap (λ (o : Option (List ℕ)). elim o [ None ↦ [] | Some label ↦ stands_for draft label ]) e

  names_by : (s : Side) (l : List ℕ) → s.label ≡ Some l → label_names draft s ≡ names_made draft l
  names_by s l e = ap (λ (o : Option (List ℕ)). elim o [ None ↦ [] | Some label ↦ names_made draft label ]) e

  own_label : (c : List ℕ) (s : Side) → In s draft.labels → s.controller ≡ c → In s (labels_of draft c)
  own_label c s h e = in_filter (λ (side : Side). bytes_eq side.controller c) draft.labels s h (bytes_eq-same s.controller c e)

  placed : (p : Part) → In p (parts draft) → (m : List ℕ) → In m p.messages → Placed p m
  placed p h m inside = let c = from_parts draft sound p h in at c.0 c.1 c.2
    where
      some : List ℕ → Option (List ℕ)
      some l = Some l

      at : (c : List ℕ × List (List ℕ)) → In c draft.controllers → In p (parts_of draft c) → Placed p m
      at c known g = by (labels_of draft c.0) refl g
        where
          all : (n : List ℕ) → In n c.1 → In n (keys_of draft.plan.messages)
          all n k = (sound.controllers.listed c known).known n k

          by : (labels : List Side) → labels_of draft c.0 ≡ labels → In p (split_by draft labels c.0 c.1) → Placed p m
          by [] are (inl e) = record {
            listed = all m (subst (λ (q : Part). In m q.messages) e inside);
            rest = λ none s k same i. subst (λ (ls : List Side). In s ls) are (own_label c.0 s k (same ∙ ap (λ (q : Part). q.side.controller) e));
            labelled = λ l is. let none : None ≡ Some l = sym (ap (λ (q : Part). q.side.label) e) ∙ is in absurd cc;
            nearest = λ l is. let none : None ≡ Some l = sym (ap (λ (q : Part). q.side.label) e) ∙ is in absurd cc;
          }
          by [] are (inr k) = absurd k
          by (t ∷ ts) are k = split (from_filter sends_any (rest_part draft (t ∷ ts) c.1 c.0 ∷ map (label_part draft (t ∷ ts) c.1) (t ∷ ts)) p k).0
            where
              own : (s : Side) → In s draft.labels → s.controller ≡ c.0 → In s (t ∷ ts)
              own s i e = subst (λ (ls : List Side). In s ls) are (own_label c.0 s i e)

              split : In p (rest_part draft (t ∷ ts) c.1 c.0 ∷ map (label_part draft (t ∷ ts) c.1) (t ∷ ts)) → Placed p m
              split (inl e) =
                  let test = λ (message : List ℕ). not (list_any (λ other. bytes_eq other message) (flat_map (label_messages draft) (t ∷ ts))) in
                  let f = from_filter test c.1 m (subst (λ (q : Part). In m q.messages) e inside) in
                  record {
                    listed = all m f.0;
                    rest = λ none s i same j.
                        not_both (holds m (flat_map (label_messages draft) (t ∷ ts))) (in_holds m _ (in_flat (label_messages draft) (t ∷ ts) s m (own s i (same ∙ ap (λ (q : Part). q.side.controller) e)) j)) (not_true _ f.1);
                    labelled = λ l is. let none : None ≡ Some l = sym (ap (λ (q : Part). q.side.label) e) ∙ is in absurd cc;
                    nearest = λ l is. let none : None ≡ Some l = sym (ap (λ (q : Part). q.side.label) e) ∙ is in absurd cc;
                  }
              split (inr i) = of_label f.0 f.1 f.2
                where
                  f : (s : Side) × In s (t ∷ ts) × (p ≡ label_part draft (t ∷ ts) c.1 s)
                  f = from_map (label_part draft (t ∷ ts) c.1) (t ∷ ts) p i

                  of_label : (s : Side) → In s (t ∷ ts) → p ≡ label_part draft (t ∷ ts) c.1 s → Placed p m
                  of_label s j e =
                      let g = from_filter (is_in_part draft (t ∷ ts) s) c.1 m (subst (λ (q : Part). In m q.messages) e inside) in
                      let both = and_parts (holds m (label_messages draft s)) (is_own_or_free (t ∷ ts) s m && not (is_of_device draft (t ∷ ts) s m)) g.1 in
                      let inner = and_parts (is_own_or_free (t ∷ ts) s m) (not (is_of_device draft (t ∷ ts) s m)) both.1 in
                      let known_label = from_filter (λ (side : Side). bytes_eq side.controller c.0) draft.labels s (subst (λ (ls : List Side). In s ls) (sym are) j) in
                      let side_is = ap (λ (q : Part). q.side) e in
                      let label = sound.labels.each s known_label.0 in
                      let owner = same-bytes_eq s.controller c.0 known_label.1 in
                      record {
                        listed = all m g.0;
                        rest = λ none. let no_label : None ≡ Some label.label = sym none ∙ ap (λ (x : Side). x.label) side_is ∙ label.is in absurd cc;
                        labelled = λ l is.
                            let label_now = sym (ap (λ (x : Side). x.label) side_is) ∙ is in (
                              subst (λ (names : List (List ℕ)). In m names) (messages_by s l label_now) (holds_in m (label_messages draft s) both.0),
                              which s l label_now (or_either (is_label m s) (not (list_any (is_label m) (t ∷ ts))) inner.0) (ap (λ (x : Side). x.controller) side_is ∙ owner),
                            );
                        nearest = λ l is r k same h named made alone.
                            let label_now = sym (ap (λ (x : Side). x.label) side_is) ∙ is in
                            not_both (is_of_device draft (t ∷ ts) s m)
                            (in_any (is_of_labelled draft (t ∷ ts) m) (label_names draft s) h (subst (λ (names : List (List ℕ)). In h names) (sym (names_by s l label_now)) made)
                            (both_true (list_any (is_label h) (t ∷ ts)) (holds m (stands_alone_for draft h)) (in_any (is_label h) (t ∷ ts) r (own r k (same ∙ ap (λ (x : Side). x.controller) side_is ∙ owner)) (is_labelled r h named)) (in_holds m (stands_alone_for draft h) alone)))
                            (not_true _ inner.1);
                      }
                    where
                      which : (s : Side) (l : List ℕ) → s.label ≡ Some l → (is_label m s ≡ true) ⊎ (not (list_any (is_label m) (t ∷ ts)) ≡ true) → p.side.controller ≡ c.0
                          → (l ≡ m) ⊎ ((r : Side) → In r draft.labels → r.controller ≡ p.side.controller → r.label ≡ Some m → ⊥)
                      which s l is (inl own_one) there = inl (let same : some l ≡ some m = sym is ∙ label_is s m own_one in cc)
                      which s l is (inr none) there = inr (λ r k same labelled. not_both (list_any (is_label m) (t ∷ ts)) (in_any (is_label m) (t ∷ ts) r (own r k (same ∙ there)) (is_labelled r m labelled)) (not_true _ none))

  -- ---- a side of a `never` means a part exactly where it covers what the part sends

  module _ (p : Part) (m : List ℕ) (at : Placed p m) where
    -- a member of a family, what is made by a group, or the label itself
    stands : (l label : List ℕ) → In l (stands_for draft label) → (l ≡ label) ⊎ (In l (names_made draft label) ⊎ In l (keys_of draft.plan.messages))
    stands l label h = by (stands_cases draft sound l label h)
      where
        member : (n : List ℕ) → Alone draft sound l n → (l ≡ n) ⊎ In l (keys_of draft.plan.messages)
        member n (inl same) = inl same
        member n (inr r) = inr (sound.families.known l n r.0 r.1 r.2)

        of_head : (k : List ℕ) → In k (names_made draft label) → (l ≡ k) ⊎ In l (keys_of draft.plan.messages) → (l ≡ label) ⊎ (In l (names_made draft label) ⊎ In l (keys_of draft.plan.messages))
        of_head k made (inl same) = inr (inl (subst (λ (n : List ℕ). In n (names_made draft label)) (sym same) made))
        of_head k made (inr known) = inr (inr known)

        itself : (l ≡ label) ⊎ In l (keys_of draft.plan.messages) → (l ≡ label) ⊎ (In l (names_made draft label) ⊎ In l (keys_of draft.plan.messages))
        itself (inl same) = inl same
        itself (inr known) = inr (inr known)

        by : Stands draft sound l label → (l ≡ label) ⊎ (In l (names_made draft label) ⊎ In l (keys_of draft.plan.messages))
        by (inl x) = itself (member label (alone_cases draft sound l label x.1))
        by (inr k) = of_head k.0 k.1 (member k.0 (alone_cases draft sound l k.0 k.2))

    -- the names that a label makes, and its messages
    abbrev meant_by : List ℕ → List (List ℕ)
    meant_by label = names_made draft label ++ stands_for draft label

    by_labels : (s : Side) (label l : List ℕ) → In s draft.labels → s.controller ≡ p.side.controller → s.label ≡ Some label → p.side.label ≡ Some l
        → (bytes_eq label l || holds l (meant_by label)) ≡ holds m (stands_for draft label)
    by_labels s label l h owner is own = same_test _ _ there back
      where
        here : In m (stands_for draft l)
        here = (at.labelled l own).0

        -- of a name that is made all messages are among those of the label
        of_made : In l (names_made draft label) → In m (stands_for draft label)
        of_made made = by (grouped_of label draft.grouped) refl made
          where
            plain : grouped_of l draft.grouped ≡ None
            plain = known_plain draft sound l (head_known draft sound label l made)

            alone : In m (stands_alone_for draft l)
            alone = subst (λ (names : List (List ℕ)). In m names) (stands_plain draft sound l plain) here

            by : (o : Option (List (List ℕ))) → grouped_of label draft.grouped ≡ o → In l (unwrap_or o []) → In m (stands_for draft label)
            by None e k = absurd k
            by (Some names) e k = subst (λ (o : Option (List (List ℕ))). In m (all_or draft label o)) (sym e) (in_flat (stands_alone_for draft) names l m k alone)

        member : (l ≡ label) ⊎ (In l (names_made draft label) ⊎ In l (keys_of draft.plan.messages)) → In l (stands_for draft label) → In m (stands_for draft label)
        member (inl same) k = subst (λ (n : List ℕ). In m (stands_for draft n)) same here
        member (inr (inl made)) k = of_made made
        member (inr (inr known)) k =
            let single = subst (λ (names : List (List ℕ)). In m names) (is_plain draft sound l known) here in
            elim single [ inl same ↦ subst (λ (n : List ℕ). In n (stands_for draft label)) (sym same) k | inr none ↦ absurd none ]

        there : (bytes_eq label l || holds l (meant_by label)) ≡ true → holds m (stands_for draft label) ≡ true
        there k = in_holds m (stands_for draft label) (by (or_either (bytes_eq label l) (holds l (meant_by label)) k))
          where
            among : In l (names_made draft label) ⊎ In l (stands_for draft label) → In m (stands_for draft label)
            among (inl made) = of_made made
            among (inr inside) = member (stands l label inside) inside

            by : (bytes_eq label l ≡ true) ⊎ (holds l (meant_by label) ≡ true) → In m (stands_for draft label)
            by (inl same) = subst (λ (n : List ℕ). In m (stands_for draft n)) (sym (same-bytes_eq label l same)) here
            by (inr k) = among (in_either l (names_made draft label) (stands_for draft label) (holds_in l (meant_by label) k))

        back : holds m (stands_for draft label) ≡ true → (bytes_eq label l || holds l (meant_by label)) ≡ true
        back k = by (nested draft sound m l label here inside) (at.labelled l own).1
          where
            inside : In m (stands_for draft label)
            inside = holds_in m (stands_for draft label) k

            found : In l (meant_by label) → (bytes_eq label l || holds l (meant_by label)) ≡ true
            found i = or_second (bytes_eq label l) (holds l (meant_by label)) (in_holds l (meant_by label) i)

            itself : l ≡ m → (bytes_eq label l || holds l (meant_by label)) ≡ true
            itself e = found (in_right l (names_made draft label) (stands_for draft label) (subst (λ (n : List ℕ). In n (stands_for draft label)) (sym e) inside))

            by : (m ≡ l) ⊎ ((m ≡ label) ⊎ ((l ≡ label) ⊎ (In label (names_made draft l) ⊎ In l (names_made draft label)))) → (l ≡ m) ⊎ ((r : Side) → In r draft.labels → r.controller ≡ p.side.controller → r.label ≡ Some m → ⊥) → (bytes_eq label l || holds l (meant_by label)) ≡ true
            by (inl e) which = itself (sym e)
            by (inr (inl e)) (inl same) = itself same
            by (inr (inl e)) (inr none) = absurd (none s h owner (is ∙ ap (λ (n : List ℕ). Some n) (sym e)))
            by (inr (inr (inl e))) which = or_first (bytes_eq label l) (holds l (meant_by label)) (bytes_eq-same label l (sym e))
            by (inr (inr (inr (inl made)))) which =
                let plain = known_plain draft sound label (head_known draft sound l label made) in
                absurd (at.nearest l own s h owner label is made (subst (λ (names : List (List ℕ)). In m names) (stands_plain draft sound label plain) inside))
            by (inr (inr (inr (inr made)))) which = found (in_left l (names_made draft label) (stands_for draft label) made)

    means_covers : (s : Side) → (s.label ≡ None) ⊎ In s draft.labels → s.controller ≡ p.side.controller → label_means draft s.label p.side.label ≡ label_covers draft s.label m
    means_covers s (inl none) owner = rw none refl
    means_covers s (inr h) owner = by s.label p.side.label refl refl
      where
        by : (o q : Option (List ℕ)) → s.label ≡ o → p.side.label ≡ q → label_means draft o q ≡ label_covers draft o m
        by None q e f = refl
        by (Some label) None e f = sym (is_false (holds m (stands_for draft label)) (λ k. at.rest f s h owner (subst (λ (names : List (List ℕ)). In m names) (sym (messages_by s label e)) (holds_in m (stands_for draft label) k))))
        by (Some label) (Some l) e f = by_labels s label l h owner e f

    means_is : (s : Side) → (s.label ≡ None) ⊎ In s draft.labels → side_means draft s p ≡ side_covers draft s (record { controller = p.side.controller; message = m })
    means_is s known = grind (arith, common_steps, means_covers, same-bytes_eq)

  -- ---- the plan

  abbrev messages : List (List ℕ × FrameTree)
  messages = draft.plan.messages

  abbrev base : Contents
  base = with_parts draft.plan (parts draft)

  base_controllers : base.controllers ≡ map (entry messages) (parts draft)
  base_controllers = ap (λ (q : Contents). q.controllers) (parts_are (parts draft) draft.plan) ∙ ap (λ (cs : List (List ℕ × List ℕ)). cs ++ map (entry messages) (parts draft)) sound.no_controllers

  base_messages : base.messages ≡ messages
  base_messages = ap (λ (q : Contents). q.messages) (parts_are (parts draft) draft.plan)

  base_nevers : base.nevers ≡ []
  base_nevers = ap (λ (q : Contents). q.nevers) (parts_are (parts draft) draft.plan) ∙ sound.no_nevers

  pub plan_controllers : (plan_meant draft).controllers ≡ map (entry messages) (parts draft)
  unfolding plan_meant
  plan_controllers = pairs_controllers (pairs_apart draft) base ∙ base_controllers

  pub plan_messages : (plan_meant draft).messages ≡ messages
  unfolding plan_meant
  plan_messages = pairs_messages (pairs_apart draft) base ∙ base_messages

  keys_are : (ps : List Part) → keys_of (map (entry messages) ps) ≡ map part_name ps
  keys_are [] = refl
  keys_are (p ∷ ps) = ap (λ (names : List (List ℕ)). part_name p ∷ names) (keys_are ps)

  base_keys : keys_of base.controllers ≡ map part_name (parts draft)
  base_keys = ap (λ (cs : List (List ℕ × List ℕ)). keys_of cs) base_controllers ∙ keys_are (parts draft)

  pub plan_keys : keys_of (plan_meant draft).controllers ≡ map part_name (parts draft)
  plan_keys = ap (λ (cs : List (List ℕ × List ℕ)). keys_of cs) plan_controllers ∙ keys_are (parts draft)

  number_is : (c : ℕ) (p : Part) → slice_get (parts draft) c ≡ Some p → number_of (part_name p) base.controllers ≡ Some c
  number_is c p at =
      key_number (part_name p) base.controllers c (subst Distinct (sym base_keys) (part_names_once draft sound))
      (ap (λ (names : List (List ℕ)). slice_get names c) base_keys ∙ slice_map part_name (parts draft) c p at)

  abbrev some_name : List ℕ → Option (List ℕ)
  some_name name = Some name

  named_part : (name : List ℕ) (c : ℕ) (p : Part) → number_of name base.controllers ≡ Some c → slice_get (parts draft) c ≡ Some p → name ≡ part_name p
  named_part name c p number at =
      let same : some_name name ≡ some_name (part_name p) = sym (number_key name base.controllers c number) ∙ ap (λ (names : List (List ℕ)). slice_get names c) base_keys ∙ slice_map part_name (parts draft) c p at in
      cc

  abbrev some_part : Part → Option Part
  some_part p = Some p

  -- ---- a sending

  module _ (p : ℕ) (sent : Sent) (x : SendsFor draft p sent) where
    pub among_parts : In x.part (parts draft)
    among_parts = slice_in (parts draft) x.c x.part x.is_part

    pub named_inside : In sent.message x.part.messages × (number_of sent.message messages ≡ Some x.k)
    named_inside =
        let sending = sending_at (plan_meant draft) p x.c x.k x.participant in
        let at = ap (λ (cs : List (List ℕ × List ℕ)). slice_get cs x.c) (sym plan_controllers) ∙ sending.at in
        let f = slice_from_map (entry messages) (parts draft) x.c sending.entry at in
        let one : some_part f.0 ≡ some_part x.part = sym f.1 ∙ x.is_part in
        let same : f.0 ≡ x.part = cc in
        let numbers = subst (λ (e : List ℕ × List ℕ). In x.k e.1) (f.2 ∙ ap (entry messages) same) sending.sends in
        let n = from_numbers messages x.part.messages x.k numbers in
        let named = number_key n.0 messages x.k n.2 in
        let here = slice_map (λ (e : List ℕ × FrameTree). e.0) messages x.k (sent.message, x.frame) (ap (λ (ms : List (List ℕ × FrameTree)). slice_get ms x.k) (sym plan_messages) ∙ x.is_message) in
        let both : some_name n.0 ≡ some_name sent.message = sym named ∙ here in
        let name : n.0 ≡ sent.message = cc in
        (subst (λ (m : List ℕ). In m x.part.messages) name n.1, ap (λ (m : List ℕ). number_of m messages) (sym name) ∙ n.2)

    inside : In sent.message x.part.messages
    inside = named_inside.0

    pub means : (s : Side) → (s.label ≡ None) ⊎ In s draft.labels → side_means draft s x.part ≡ side_covers draft s sent
    means s known = grind (arith, common_steps, means_is, placed, among_parts, inside)

  -- ---- two sendings

  abbrev told_pairs : List (Part × Part)
  told_pairs = filter are_of_one (pairs_among (parts draft)) ++ flat_map (pairs_meant draft) draft.nevers

  -- why two parts are apart
  abbrev Why : Part → Part → Type 0
  Why v w = (v.side.controller ≡ w.side.controller) ⊎ ((n : Side × Side) × In n draft.nevers × (side_means draft n.0 v ≡ true) × (side_means draft n.1 w ≡ true))

  why : (pair : Part × Part) → In pair told_pairs → In pair.0 (parts draft) × In pair.1 (parts draft) × Why pair.0 pair.1
  why pair h = by (in_either pair (filter are_of_one (pairs_among (parts draft))) (flat_map (pairs_meant draft) draft.nevers) h)
    where
      by : In pair (filter are_of_one (pairs_among (parts draft))) ⊎ In pair (flat_map (pairs_meant draft) draft.nevers) → In pair.0 (parts draft) × In pair.1 (parts draft) × Why pair.0 pair.1
      by (inl k) =
          let f = from_filter are_of_one (pairs_among (parts draft)) pair k in
          let two_parts = from_among (parts draft) pair f.0 in
          (two_parts.0, two_parts.1, inl (same-bytes_eq pair.0.side.controller pair.1.side.controller f.1))
      by (inr k) =
          let n = from_flat (pairs_meant draft) draft.nevers pair k in
          let b = from_between (parts_meant draft n.0.0) (parts_meant draft n.0.1) pair n.2 in
          let first = from_filter (side_means draft n.0.0) (parts draft) pair.0 b.0 in
          let second = from_filter (side_means draft n.0.1) (parts draft) pair.1 b.1 in
          (first.0, second.0, inr (n.0, n.1, first.1, second.1))

  of_one : (v w : Part) → In (two v w) (pairs_among (parts draft)) → v.side.controller ≡ w.side.controller → In (two v w) told_pairs
  of_one v w h e = grind (arith, common_steps, in_left, in_filter, bytes_eq-same)

  of_never : (v w : Part) (n : Side × Side) → In v (parts draft) → In w (parts draft) → In n draft.nevers → side_means draft n.0 v ≡ true → side_means draft n.1 w ≡ true → In (two v w) told_pairs
  of_never v w n h g k e f =
      in_right (two v w) (filter are_of_one (pairs_among (parts draft))) (flat_map (pairs_meant draft) draft.nevers)
      (in_flat (pairs_meant draft) draft.nevers n (two v w) k
      (in_between (parts_meant draft n.0) (parts_meant draft n.1) v w (in_filter (side_means draft n.0) (parts draft) v h e) (in_filter (side_means draft n.1) (parts draft) w g f)))

  abbrev names : Part × Part → List ℕ × List ℕ
  names pair = (part_name pair.0, part_name pair.1)

  -- so the plan keeps them apart
  kept_apart : (v w : Part) (c d : ℕ) → In (two v w) told_pairs → slice_get (parts draft) c ≡ Some v → slice_get (parts draft) d ≡ Some w → (c ≡ d → ⊥) → is_never (plan_meant draft) c d ≡ true
  unfolding plan_meant pairs_apart
  kept_apart v w c d h at other differ =
      pairs_added (map names told_pairs) base (part_name v) (part_name w) c d (in_map names told_pairs (two v w) h) (number_is c v at) (number_is d w other) differ

  asked : (c d : ℕ) → is_never (plan_meant draft) c d ≡ true → (pair : List ℕ × List ℕ) × In pair (map names told_pairs) × (((number_of pair.0 base.controllers ≡ Some c) × (number_of pair.1 base.controllers ≡ Some d)) ⊎ ((number_of pair.0 base.controllers ≡ Some d) × (number_of pair.1 base.controllers ≡ Some c)))
  unfolding plan_meant pairs_apart
  asked c d h = elim (pairs_from (map names told_pairs) base c d h) [ inl none ↦ absurd (true≢false (sym none ∙ ap (λ (ns : List (ℕ × ℕ)). list_any (λ n. (n.0 == c && n.1 == d) || (n.0 == d && n.1 == c)) ns) base_nevers)) | inr pair ↦ pair ]

  one_part : (v w : Part) → In v (parts draft) → In w (parts draft) → part_name v ≡ part_name w → v ≡ w
  one_part v w h g e = distinct_one part_name (parts draft) (part_names_once draft sound) v w h g e

  module _ (p q : ℕ) (one other : Sent) (x : SendsFor draft p one) (y : SendsFor draft q other) where
    abbrev both_told : Side × Side → Bool
    both_told = covers_both draft one other

    apart_is : apart (plan_meant draft) p q ≡ (x.c == y.c || is_never (plan_meant draft) x.c y.c)
    unfolding same_controller forbidden
    apart_is = rw (x.participant, y.participant) refl

    -- one controller has both parts
    owners : x.part.side.controller ≡ y.part.side.controller → told_apart draft one other ≡ true
    owners e = or_first (bytes_eq one.controller other.controller) (list_any both_told draft.nevers) (bytes_eq-same one.controller other.controller (sym x.owner ∙ e ∙ y.owner))

    covered : (n : Side × Side) → In n draft.nevers → both_told n ≡ true → told_apart draft one other ≡ true
    covered n h e = or_second (bytes_eq one.controller other.controller) (list_any both_told draft.nevers) (in_any both_told draft.nevers n h e)

    means_one : (s : Side) → (s.label ≡ None) ⊎ In s draft.labels → side_means draft s x.part ≡ side_covers draft s one
    means_one s known = means p one x s known

    means_other : (s : Side) → (s.label ≡ None) ⊎ In s draft.labels → side_means draft s y.part ≡ side_covers draft s other
    means_other s known = means q other y s known

    -- the pair that says so
    told : (v w : Part) → Why v w → ((v ≡ x.part) × (w ≡ y.part)) ⊎ ((v ≡ y.part) × (w ≡ x.part)) → told_apart draft one other ≡ true
    told v w (inl e) (inl are) = owners (ap (λ (r : Part). r.side.controller) (sym are.0) ∙ e ∙ ap (λ (r : Part). r.side.controller) are.1)
    told v w (inl e) (inr are) = owners (ap (λ (r : Part). r.side.controller) (sym are.1) ∙ sym e ∙ ap (λ (r : Part). r.side.controller) are.0)
    told v w (inr n) (inl are) =
        let known = sound.nevers n.0 n.1 in
        let first = sym (means_one n.0.0 known.0.1) ∙ ap (side_means draft n.0.0) (sym are.0) ∙ n.2 in
        let second = sym (means_other n.0.1 known.1.1) ∙ ap (side_means draft n.0.1) (sym are.1) ∙ n.3 in
        covered n.0 n.1 (or_first (side_covers draft n.0.0 one && side_covers draft n.0.1 other) (side_covers draft n.0.0 other && side_covers draft n.0.1 one) (both_true _ _ first second))
    told v w (inr n) (inr are) =
        let known = sound.nevers n.0 n.1 in
        let first = sym (means_other n.0.0 known.0.1) ∙ ap (side_means draft n.0.0) (sym are.0) ∙ n.2 in
        let second = sym (means_one n.0.1 known.1.1) ∙ ap (side_means draft n.0.1) (sym are.1) ∙ n.3 in
        covered n.0 n.1 (or_second (side_covers draft n.0.0 one && side_covers draft n.0.1 other) (side_covers draft n.0.0 other && side_covers draft n.0.1 one) (both_true _ _ first second))

    abbrev here : In x.part (parts draft)
    here = among_parts p one x

    abbrev there : In y.part (parts draft)
    there = among_parts q other y

    -- what the plan keeps apart is told
    from_plan : (x.c == y.c || is_never (plan_meant draft) x.c y.c) ≡ true → told_apart draft one other ≡ true
    from_plan h = by (or_either (x.c == y.c) (is_never (plan_meant draft) x.c y.c) h)
      where
        by_pair : (pair : List ℕ × List ℕ) → In pair (map names told_pairs)
            → ((number_of pair.0 base.controllers ≡ Some x.c) × (number_of pair.1 base.controllers ≡ Some y.c)) ⊎ ((number_of pair.0 base.controllers ≡ Some y.c) × (number_of pair.1 base.controllers ≡ Some x.c))
            → told_apart draft one other ≡ true
        by_pair pair g which =
            let f = from_map names told_pairs pair g in
            let w = why f.0 f.1 in
            told f.0.0 f.0.1 w.2 (order f.0 f.2 w.0 w.1 which)
          where
            order : (r : Part × Part) → pair ≡ names r → In r.0 (parts draft) → In r.1 (parts draft)
                → ((number_of pair.0 base.controllers ≡ Some x.c) × (number_of pair.1 base.controllers ≡ Some y.c)) ⊎ ((number_of pair.0 base.controllers ≡ Some y.c) × (number_of pair.1 base.controllers ≡ Some x.c))
                → ((r.0 ≡ x.part) × (r.1 ≡ y.part)) ⊎ ((r.0 ≡ y.part) × (r.1 ≡ x.part))
            order r e i j (inl numbers) = inl (
              one_part r.0 x.part i here (sym (ap (λ (n : List ℕ × List ℕ). n.0) e) ∙ named_part pair.0 x.c x.part numbers.0 x.is_part),
              one_part r.1 y.part j there (sym (ap (λ (n : List ℕ × List ℕ). n.1) e) ∙ named_part pair.1 y.c y.part numbers.1 y.is_part),
            )
            order r e i j (inr numbers) = inr (
              one_part r.0 y.part i there (sym (ap (λ (n : List ℕ × List ℕ). n.0) e) ∙ named_part pair.0 y.c y.part numbers.0 y.is_part),
              one_part r.1 x.part j here (sym (ap (λ (n : List ℕ × List ℕ). n.1) e) ∙ named_part pair.1 x.c x.part numbers.1 x.is_part),
            )

        by : (x.c == y.c ≡ true) ⊎ (is_never (plan_meant draft) x.c y.c ≡ true) → told_apart draft one other ≡ true
        by (inl e) =
            let same : some_part x.part ≡ some_part y.part = sym x.is_part ∙ ap (λ (n : ℕ). slice_get (parts draft) n) (eqb-true x.c y.c e) ∙ y.is_part in
            let part : x.part ≡ y.part = cc in
            owners (ap (λ (r : Part). r.side.controller) part)
        by (inr e) = let a = asked x.c y.c e in by_pair a.0 a.1 a.2

    -- what is told the plan keeps apart
    to_plan : told_apart draft one other ≡ true → (x.c == y.c || is_never (plan_meant draft) x.c y.c) ≡ true
    to_plan h = by_number (x.c == y.c) refl
      where
        differ : x.c == y.c ≡ false → x.c ≡ y.c → ⊥
        differ e same = true≢false (sym (eq-eqb x.c y.c same) ∙ e)

        turned : x.c == y.c ≡ false → y.c ≡ x.c → ⊥
        turned e same = differ e (sym same)

        owned : x.c == y.c ≡ false → one.controller ≡ other.controller → is_never (plan_meant draft) x.c y.c ≡ true
        owned e same = places (among_places (parts draft) x.c y.c x.part y.part x.is_part y.is_part)
          where
            owner : x.part.side.controller ≡ y.part.side.controller
            owner = x.owner ∙ same ∙ sym y.owner

            places : (x.c ≡ y.c) ⊎ (In (two x.part y.part) (pairs_among (parts draft)) ⊎ In (two y.part x.part) (pairs_among (parts draft))) → is_never (plan_meant draft) x.c y.c ≡ true
            places (inl number) = absurd (differ e number)
            places (inr (inl k)) = kept_apart x.part y.part x.c y.c (of_one x.part y.part k owner) x.is_part y.is_part (differ e)
            places (inr (inr k)) = never_turned (plan_meant draft) x.c y.c ∙ kept_apart y.part x.part y.c x.c (of_one y.part x.part k (sym owner)) y.is_part x.is_part (turned e)

        said : x.c == y.c ≡ false → (n : Side × Side) → In n draft.nevers → both_told n ≡ true → is_never (plan_meant draft) x.c y.c ≡ true
        said e n k covers = sides (or_either (side_covers draft n.0 one && side_covers draft n.1 other) (side_covers draft n.0 other && side_covers draft n.1 one) covers)
          where
            sides : ((side_covers draft n.0 one && side_covers draft n.1 other) ≡ true) ⊎ ((side_covers draft n.0 other && side_covers draft n.1 one) ≡ true) → is_never (plan_meant draft) x.c y.c ≡ true
            sides (inl c) =
                let known = sound.nevers n k in
                let parts_of_both = and_parts (side_covers draft n.0 one) (side_covers draft n.1 other) c in
                kept_apart x.part y.part x.c y.c (of_never x.part y.part n here there k (means_one n.0 known.0.1 ∙ parts_of_both.0) (means_other n.1 known.1.1 ∙ parts_of_both.1)) x.is_part y.is_part (differ e)
            sides (inr c) =
                let known = sound.nevers n k in
                let parts_of_both = and_parts (side_covers draft n.0 other) (side_covers draft n.1 one) c in
                never_turned (plan_meant draft) x.c y.c
                ∙ kept_apart y.part x.part y.c x.c (of_never y.part x.part n there here k (means_other n.0 known.0.1 ∙ parts_of_both.0) (means_one n.1 known.1.1 ∙ parts_of_both.1)) y.is_part x.is_part (turned e)

        by_number : (b : Bool) → x.c == y.c ≡ b → (b || is_never (plan_meant draft) x.c y.c) ≡ true
        by_number true e = refl
        by_number false e = why_told (or_either (bytes_eq one.controller other.controller) (list_any both_told draft.nevers) h)
          where
            why_told : (bytes_eq one.controller other.controller ≡ true) ⊎ (list_any both_told draft.nevers ≡ true) → is_never (plan_meant draft) x.c y.c ≡ true
            why_told (inl same) = owned e (same-bytes_eq one.controller other.controller same)
            why_told (inr some) = let n = any_in both_told draft.nevers some in said e n.0 n.1 n.2

    pub apart_told : apart (plan_meant draft) p q ≡ told_apart draft one other
    apart_told = apart_is ∙ same_test (x.c == y.c || is_never (plan_meant draft) x.c y.c) (told_apart draft one other) from_plan to_plan

-- ---- each message that a controller lists has one participant, and there are no others but interrupts

module _ {A : Type 0} where
  in_slice : (xs : List A) (x : A) → In x xs → (k : ℕ) × (slice_get xs k ≡ Some x)
  in_slice [] x h = absurd h
  in_slice (y ∷ xs) x (inl e) = (0, ap (λ (z : A). Some z) (sym e))
  in_slice (y ∷ xs) x (inr h) = let r = in_slice xs x h in (suc r.0, r.1)

  -- one alone passes
  count_single : (p : A → Bool) (xs : List A) (x y : A) → count_by p xs ≡ 1 → In x xs → In y xs → p x ≡ true → p y ≡ true → x ≡ y
  count_single p [] x y one h g e f = absurd h
  count_single p (z ∷ xs) x y one h g e f = by (p z) refl h g (λ less i j. count_single p xs x y less i j e f)
    where
      total : count_by p (z ∷ xs) ≡ cond (p z) 1 0 + count_by p xs
      total = count-cons p z xs

      none_later : (w : A) → p z ≡ true → In w xs → p w ≡ true → ⊥
      none_later w here k is =
          let first = ap (λ (b : Bool). cond b 1 0 + count_by p xs) here in
          some_counted xs w k is (omega (arith, total, one, first))
        where
          some_counted : (ys : List A) (v : A) → In v ys → p v ≡ true → count_by p ys ≡ 0 → ⊥
          some_counted [] v i t zero_is = absurd i
          some_counted (u ∷ ys) v (inl same) t zero_is =
              let all = count-cons p u ys in
              let now = ap (λ (b : Bool). cond b 1 0 + count_by p ys) (ap p (sym same) ∙ t) in
              absurd (omega (arith, all, now, zero_is))
          some_counted (u ∷ ys) v (inr i) t zero_is =
              let all = count-cons p u ys in
              some_counted ys v i t (omega (arith, all, zero_is))

      by : (b : Bool) → p z ≡ b → In x (z ∷ xs) → In y (z ∷ xs) → (count_by p xs ≡ 1 → In x xs → In y xs → x ≡ y) → x ≡ y
      by true is (inl i) (inl j) later = i ∙ sym j
      by true is (inl i) (inr j) later = absurd (none_later y is j f)
      by true is (inr i) (inl j) later = absurd (none_later x is i e)
      by true is (inr i) (inr j) later = absurd (none_later x is i e)
      by false is (inl i) w later = absurd (true≢false (sym e ∙ ap p i ∙ is))
      by false is (inr i) (inl j) later = absurd (true≢false (sym f ∙ ap p j ∙ is))
      by false is (inr i) (inr j) later =
          let first = ap (λ (b : Bool). cond b 1 0 + count_by p xs) is in
          later (omega (arith, total, one, first)) i j

to_sendings : (a : ℕ) (cs : List (List ℕ × List ℕ)) (j k : ℕ) (e : List ℕ × List ℕ) → slice_get cs j ≡ Some e → In k e.1 → In (Sending (a + j) k) (sendings_from a cs)
to_sendings a [] j k e at h = absurd cc
to_sendings a (c ∷ cs) zero k e at h = grind (arith, common_steps, in_left, in_map)
to_sendings a (c ∷ cs) (suc j) k e at h = grind (arith, common_steps, in_right, (to_sendings (a + 1) cs j k e at h))

has_sending : (plan : Contents) (c k : ℕ) (e : List ℕ × List ℕ) → slice_get plan.controllers c ≡ Some e → In k e.1 → (p : ℕ) × (slice_get (participants_of plan) p ≡ Some (Sending c k))
has_sending plan c k e at h =
    let zero_more : 0 + c ≡ c = omega arith in
    let sending = subst (λ (n : ℕ). In (Sending n k) (sendings_from 0 plan.controllers)) zero_more (to_sendings 0 plan.controllers c k e at h) in
    in_slice (participants_of plan) (Sending c k) (in_left (Sending c k) (sendings_from 0 plan.controllers) (map Interrupt (range_with_len 0 (length plan.interrupts))) sending)

in_numbers : (messages : List (List ℕ × FrameTree)) (names : List (List ℕ)) (name : List ℕ) (k : ℕ) → In name names → number_of name messages ≡ Some k → In k (filter_map (λ n. number_of n messages) names)
in_numbers messages [] name k h e = absurd h
in_numbers messages (n ∷ names) name k h e = grind (arith, common_steps, (in_numbers messages names name k))

module _ (draft : Draft) (sound : Sound draft) where
  owner_is : (c : List ℕ × List (List ℕ)) → In c draft.controllers → (v : Part) → In v (parts_of draft c) → v.side.controller ≡ c.0
  owner_is c at v h = by (part_of draft sound c at v h).side
    where
      by : (v.side ≡ whole c.0) ⊎ In v.side (labels_of draft c.0) → v.side.controller ≡ c.0
      by e = grind (arith, common_steps, labels_within)

  message_number : (m : List ℕ) → In m (keys_of draft.plan.messages) → (k : ℕ) × (number_of m draft.plan.messages ≡ Some k)
  message_number m h = by (number_of m draft.plan.messages) refl
    where
      by : (o : Option ℕ) → number_of m draft.plan.messages ≡ o → (k : ℕ) × (number_of m draft.plan.messages ≡ Some k)
      by o e = grind (arith, common_steps, none_number)

  -- each message that is listed is sent by a participant
  pub somebody : (c : List ℕ × List (List ℕ)) → In c draft.controllers → (m : List ℕ) → In m c.1 → (p : ℕ) × SendsFor draft p (record { controller = c.0; message = m })
  unfolding parts
  somebody c at m h =
      let one = parts_once draft sound c at m h in
      let found = any_in (sends m) (parts_of draft c) (some_one one) in
      let place = in_slice (parts draft) found.0 (in_flat (parts_of draft) draft.controllers c found.0 at found.1) in
      let number = message_number m ((sound.controllers.listed c at).known m h) in
      let sending = has_sending (plan_meant draft) place.0 number.0 (entry draft.plan.messages found.0)
      (ap (λ (cs : List (List ℕ × List ℕ)). slice_get cs place.0) (plan_controllers draft sound) ∙ slice_map (entry draft.plan.messages) (parts draft) place.0 found.0 place.1)
      (in_numbers draft.plan.messages found.0.messages m number.0 (holds_in m found.0.messages found.2) number.1) in
      let message = slice_from_map (λ (e : List ℕ × FrameTree). e.0) draft.plan.messages number.0 m (number_key m draft.plan.messages number.0 number.1) in (
        sending.0,
        record {
          c = place.0;
          k = number.0;
          participant = sending.1;
          part = found.0;
          is_part = place.1;
          owner = owner_is c at found.0 found.1;
          frame = message.0.1;
          is_message = ap (λ (ms : List (List ℕ × FrameTree)). slice_get ms number.0) (plan_messages draft sound) ∙ message.1 ∙ ap (λ (n : List ℕ). Some (n, message.0.1)) (sym message.2);
        },
      )
    where
      some_one : count_by (sends m) (parts_of draft c) ≡ 1 → list_any (sends m) (parts_of draft c) ≡ true
      some_one one = grind (arith, common_steps, true_or_false, count_none)

  -- what a participant sends is listed
  pub listed_by : (p : ℕ) (x : Sent) → SendsFor draft p x → (c : List ℕ × List (List ℕ)) × In c draft.controllers × (c.0 ≡ x.controller) × In x.message c.1
  listed_by p x s =
      let c = from_parts draft sound s.part (among_parts draft sound p x s) in
      (c.0, c.1, sym (owner_is c.0 c.1 s.part c.2) ∙ s.owner, (part_of draft sound c.0 c.1 s.part c.2).within x.message (named_inside draft sound p x s).0)

  -- each participant but interrupts sends a message for a controller
  pub each_sending : (p c k : ℕ) → slice_get (participants_of (plan_meant draft)) p ≡ Some (Sending c k) → (x : Sent) × SendsFor draft p x
  each_sending p c k at =
      let sending = sending_at (plan_meant draft) p c k at in
      let f = slice_from_map (entry draft.plan.messages) (parts draft) c sending.entry (ap (λ (cs : List (List ℕ × List ℕ)). slice_get cs c) (sym (plan_controllers draft sound)) ∙ sending.at) in
      let n = from_numbers draft.plan.messages f.0.messages k (subst (λ (e : List ℕ × List ℕ). In k e.1) f.2 sending.sends) in
      let message = slice_from_map (λ (e : List ℕ × FrameTree). e.0) draft.plan.messages k n.0 (number_key n.0 draft.plan.messages k n.2) in (
        record { controller = f.0.side.controller; message = n.0 },
        record {
          c = c;
          k = k;
          participant = at;
          part = f.0;
          is_part = f.1;
          owner = refl;
          frame = message.0.1;
          is_message = ap (λ (ms : List (List ℕ × FrameTree)). slice_get ms k) (plan_messages draft sound) ∙ message.1 ∙ ap (λ (name : List ℕ). Some (name, message.0.1)) (sym message.2);
        },
      )

  -- two that send one message for one controller are one
  module _ (p q : ℕ) (x : Sent) (s : SendsFor draft p x) (t : SendsFor draft q x) where
    same_part : s.part ≡ t.part
    same_part =
        let a = from_parts draft sound s.part (among_parts draft sound p x s) in
        let b = from_parts draft sound t.part (among_parts draft sound q x t) in
        let names = sym (owner_is a.0 a.1 s.part a.2) ∙ s.owner ∙ sym t.owner ∙ owner_is b.0 b.1 t.part b.2 in
        let same = distinct_one (λ (e : List ℕ × List (List ℕ)). e.0) draft.controllers sound.controllers.keys a.0 b.0 a.1 b.1 names in
        let there = subst (λ (c : List ℕ × List (List ℕ)). In t.part (parts_of draft c)) (sym same) b.2 in
        let first = (named_inside draft sound p x s).0 in
        let second = (named_inside draft sound q x t).0 in
        count_single (sends x.message) (parts_of draft a.0) s.part t.part (parts_once draft sound a.0 a.1 x.message ((part_of draft sound a.0 a.1 s.part a.2).within x.message first))
        a.2 there (in_holds x.message s.part.messages first) (in_holds x.message t.part.messages second)

    one_number : s.c ≡ t.c
    one_number = distinct_at (parts draft) s.c t.c t.part (distinct_from_map part_name (parts draft) (part_names_once draft sound)) (s.is_part ∙ ap (λ (v : Part). Some v) same_part) t.is_part

    one_message : s.k ≡ t.k
    one_message = let same : Some s.k ≡ Some t.k = sym (named_inside draft sound p x s).1 ∙ (named_inside draft sound q x t).1 in cc

    pub one_participant : p ≡ q
    unfolding label_of
    one_participant =
        let plan = plan_meant draft in
        let same = s.participant ∙ ap (λ (c : ℕ). Some (Sending c s.k)) one_number ∙ ap (λ (k : ℕ). Some (Sending t.c k)) one_message ∙ sym t.participant in
        labels_differ_of plan (meant_within draft sound) p q (slice_get_within (participants_of plan) p (Sending s.c s.k) s.participant) (slice_get_within (participants_of plan) q (Sending t.c t.k) t.participant) (ap (participant_label plan) same)
