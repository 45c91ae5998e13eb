-- What names stand for, in a sound draft.
use Rattle.std.proofs.Common.{◌≡◌, ℕ, ◌⊎◌, inl, inr, List, [], ◌∷◌, Option, Some, None, refl, ap, sym, ◌∙◌, subst}
use Rattle.std.specs.Prelude.{unwrap_or}
use Rattle.std.specs.List.{flat_map}
use Rattle.std.specs.Map.{keys_of}
use Rattle.brief_text.specs.declared.syntax.Lengths.{Lengths}
use Rattle.brief_text.specs.Drafts.{Draft, members, members_or, stands_alone_for, all_or, stands_for, names_made}
use Rattle.text_laws.proofs.Membership.{In, Distinct, from_flat, distinct_both}
use Rattle.text_laws.proofs.SoundDrafts.{family_of, grouped_of, Known, Labels, Sound}

single : (x m : List ℕ) → In m (x ∷ []) → m ≡ x
single x m (inl e) = e
single x m (inr k) = absurd k

module _ (draft : Draft) (sound : Sound draft) where
  -- ---- by itself: the name, or a member of its family

  abbrev pub Alone : List ℕ → List ℕ → Type 0
  Alone m n = (m ≡ n) ⊎ ((r : Lengths) × (family_of n draft.families ≡ Some r) × In m (members n r))

  pub alone_cases : (m n : List ℕ) → In m (stands_alone_for draft n) → Alone m n
  alone_cases m n h = by (family_of n draft.families) refl h
    where
      by : (o : Option Lengths) → family_of n draft.families ≡ o → In m (members_or n o) → Alone m n
      by None e i = inl (single n m i)
      by (Some r) e i = inr (r, e, i)

  pub alone_one : (m a b : List ℕ) → In m (stands_alone_for draft a) → In m (stands_alone_for draft b) → (m ≡ a) ⊎ ((m ≡ b) ⊎ (a ≡ b))
  alone_one m a b h g = by (alone_cases m a h) (alone_cases m b g)
    where
      by : Alone m a → Alone m b → (m ≡ a) ⊎ ((m ≡ b) ⊎ (a ≡ b))
      by (inl e) other = inl e
      by (inr r) (inl f) = inr (inl f)
      by (inr r) (inr s) = inr (inr (sound.families.one m a b r.0 s.0 r.1 s.1 r.2 s.2))

  pub alone_once : (n : List ℕ) → Distinct (stands_alone_for draft n)
  alone_once n = by (family_of n draft.families) refl
    where
      by : (o : Option Lengths) → family_of n draft.families ≡ o → Distinct (members_or n o)
      by None e = ((λ h. absurd h), tt)
      by (Some r) e = sound.families.once n r e

  pub alone_known : (m n : List ℕ) → Known draft.plan.messages draft.families n → In m (stands_alone_for draft n) → In m (keys_of draft.plan.messages)
  alone_known m n known h = by (family_of n draft.families) refl h known
    where
      by : (o : Option Lengths) → family_of n draft.families ≡ o → In m (members_or n o) → Known draft.plan.messages draft.families n → In m (keys_of draft.plan.messages)
      by (Some r) e i k = sound.families.known m n r e i
      by None e i (inl r) = let none = sym e ∙ r.1 in absurd cc
      by None e i (inr k) = subst (λ (x : List ℕ). In x (keys_of draft.plan.messages)) (sym (single n m i)) k

  -- ---- the names that are made by a group

  pub made_by : (a h : List ℕ) → In h (names_made draft a) → (names : List (List ℕ)) × (grouped_of a draft.grouped ≡ Some names) × In h names
  made_by a h i = by (grouped_of a draft.grouped) refl i
    where
      by : (o : Option (List (List ℕ))) → grouped_of a draft.grouped ≡ o → In h (unwrap_or o []) → (names : List (List ℕ)) × (grouped_of a draft.grouped ≡ Some names) × In h names
      by None e k = absurd k
      by (Some names) e k = (names, e, k)

  pub head_known : (a h : List ℕ) → In h (names_made draft a) → Known draft.plan.messages draft.families h
  head_known a h i = let f = made_by a h i in sound.grouped.known a h f.0 f.1 f.2

  -- what is known has no group itself
  pub known_plain : (h : List ℕ) → Known draft.plan.messages draft.families h → grouped_of h draft.grouped ≡ None
  known_plain h known = by (grouped_of h draft.grouped) refl known
    where
      by : (o : Option (List (List ℕ))) → grouped_of h draft.grouped ≡ o → Known draft.plan.messages draft.families h → grouped_of h draft.grouped ≡ None
      by None e k = e
      by (Some names) e (inl r) = let none = sym r.1 ∙ sound.grouped.no_family h names e in absurd cc
      by (Some names) e (inr k) = absurd (sound.grouped.no_message h names e k)

  pub stands_plain : (h : List ℕ) → grouped_of h draft.grouped ≡ None → stands_for draft h ≡ stands_alone_for draft h
  stands_plain h e = ap (all_or draft h) e

  pub makes_none : (h : List ℕ) → grouped_of h draft.grouped ≡ None → names_made draft h ≡ []
  makes_none h e = ap (λ (o : Option (List (List ℕ))). unwrap_or o []) e

  -- ---- a name has a group or not

  abbrev pub Stands : List ℕ → List ℕ → Type 0
  Stands m a = ((grouped_of a draft.grouped ≡ None) × In m (stands_alone_for draft a)) ⊎ ((h : List ℕ) × In h (names_made draft a) × In m (stands_alone_for draft h))

  pub stands_cases : (m a : List ℕ) → In m (stands_for draft a) → Stands m a
  stands_cases m a i = by (grouped_of a draft.grouped) refl i
    where
      by : (o : Option (List (List ℕ))) → grouped_of a draft.grouped ≡ o → In m (all_or draft a o) → Stands m a
      by None e k = inl (e, k)
      by (Some names) e k =
          let f = from_flat (stands_alone_for draft) names m k in
          inr (f.0, subst (λ (o : Option (List (List ℕ))). In f.0 (unwrap_or o [])) (sym e) f.1, f.2)

  -- a name that is made is a member of no family
  loose_head : (m a h b : List ℕ) → In h (names_made draft a) → m ≡ h → In m (stands_alone_for draft b) → m ≡ b
  loose_head m a h b i e k = by (alone_cases m b k)
    where
      by : Alone m b → m ≡ b
      by (inl f) = f
      by (inr r) = let g = made_by a h i in absurd (sound.grouped.loose h a b g.0 r.0 g.1 r.1 g.2 (subst (λ (x : List ℕ). In x (members b r.0)) e r.2))

  heads_one : (m a b h k : List ℕ) → In h (names_made draft a) → In k (names_made draft b) → In m (stands_alone_for draft h) → In m (stands_alone_for draft k) → h ≡ k
  heads_one m a b h k i j f g = by (alone_one m h k f g)
    where
      by : (m ≡ h) ⊎ ((m ≡ k) ⊎ (h ≡ k)) → h ≡ k
      by (inl e) = sym e ∙ loose_head m a h k i e g
      by (inr (inl e)) = sym (loose_head m b k h j e f) ∙ e
      by (inr (inr e)) = e

  same_maker : (a b h : List ℕ) → In h (names_made draft a) → In h (names_made draft b) → a ≡ b
  same_maker a b h i j = let f = made_by a h i in let g = made_by b h j in sound.grouped.one h a b f.0 g.0 f.1 g.1 f.2 g.2

  -- two names that stand for a message: it is one of them, or they are one, or one makes the other
  abbrev pub Nested : List ℕ → List ℕ → List ℕ → Type 0
  Nested m a b = (m ≡ a) ⊎ ((m ≡ b) ⊎ ((a ≡ b) ⊎ (In b (names_made draft a) ⊎ In a (names_made draft b))))

  pub nested : (m a b : List ℕ) → In m (stands_for draft a) → In m (stands_for draft b) → Nested m a b
  nested m a b f g = by (stands_cases m a f) (stands_cases m b g)
    where
      alone : (m ≡ a) ⊎ ((m ≡ b) ⊎ (a ≡ b)) → Nested m a b
      alone (inl e) = inl e
      alone (inr (inl e)) = inr (inl e)
      alone (inr (inr e)) = inr (inr (inl e))

      first : (h : List ℕ) → In h (names_made draft a) → In m (stands_alone_for draft b) → (m ≡ h) ⊎ ((m ≡ b) ⊎ (h ≡ b)) → Nested m a b
      first h i k (inl e) = inr (inl (loose_head m a h b i e k))
      first h i k (inr (inl e)) = inr (inl e)
      first h i k (inr (inr e)) = inr (inr (inr (inl (subst (λ (x : List ℕ). In x (names_made draft a)) e i))))

      second : (h : List ℕ) → In h (names_made draft b) → In m (stands_alone_for draft a) → (m ≡ a) ⊎ ((m ≡ h) ⊎ (a ≡ h)) → Nested m a b
      second h i k (inl e) = inl e
      second h i k (inr (inl e)) = inl (loose_head m b h a i e k)
      second h i k (inr (inr e)) = inr (inr (inr (inr (subst (λ (x : List ℕ). In x (names_made draft b)) (sym e) i))))

      by : Stands m a → Stands m b → Nested m a b
      by (inl x) (inl y) = alone (alone_one m a b x.1 y.1)
      by (inr h) (inl y) = first h.0 h.1 y.1 (alone_one m h.0 b h.2 y.1)
      by (inl x) (inr k) = second k.0 k.1 x.1 (alone_one m a k.0 x.1 k.2)
      by (inr h) (inr k) =
          let same = heads_one m a b h.0 k.0 h.1 k.1 h.2 k.2 in
          inr (inr (inl (same_maker a b h.0 h.1 (subst (λ (x : List ℕ). In x (names_made draft b)) (sym same) k.1))))

  -- ---- messages

  pub message_plain : (m : List ℕ) → In m (keys_of draft.plan.messages) → grouped_of m draft.grouped ≡ None
  message_plain m h = known_plain m (inr h)

  -- a message is no family, and has no group
  pub is_plain : (m : List ℕ) → In m (keys_of draft.plan.messages) → stands_for draft m ≡ m ∷ []
  is_plain m h = stands_plain m (message_plain m h) ∙ by (family_of m draft.families) refl
    where
      by : (o : Option Lengths) → family_of m draft.families ≡ o → members_or m o ≡ m ∷ []
      by None e = refl
      by (Some r) e = absurd (sound.families.apart m r e h)

  -- ---- what may be listed

  flat_once : (a : List ℕ) (names : List (List ℕ)) → ((h : List ℕ) → In h names → In h (names_made draft a)) → Distinct names → Distinct (flat_map (stands_alone_for draft) names)
  flat_once a [] within once = tt
  flat_once a (h ∷ names) within once =
      distinct_both (stands_alone_for draft h) (flat_map (stands_alone_for draft) names) (alone_once h) (flat_once a names (λ k i. within k (inr i)) once.1) apart
    where
      apart : (m : List ℕ) → In m (stands_alone_for draft h) → In m (flat_map (stands_alone_for draft) names) → ⊥
      apart m f g =
          let k = from_flat (stands_alone_for draft) names m g in
          let same = heads_one m a a h k.0 (within h (inl refl)) (within k.0 (inr k.1)) f k.2 in
          once.0 (subst (λ (x : List ℕ). In x names) (sym same) k.1)

  pub stands_once : (name : List ℕ) → Distinct (stands_for draft name)
  stands_once name = by (grouped_of name draft.grouped) refl
    where
      by : (o : Option (List (List ℕ))) → grouped_of name draft.grouped ≡ o → Distinct (all_or draft name o)
      by None e = alone_once name
      by (Some names) e = flat_once name names (λ h i. subst (λ (o : Option (List (List ℕ))). In h (unwrap_or o [])) (sym e) i) (sound.grouped.once name names e)

  pub stands_known : (name : List ℕ) → Labels draft.plan.messages draft.families draft.grouped name → (m : List ℕ) → In m (stands_for draft name) → In m (keys_of draft.plan.messages)
  stands_known name known m h = by (stands_cases m name h) known
    where
      by : Stands m name → Labels draft.plan.messages draft.families draft.grouped name → In m (keys_of draft.plan.messages)
      by (inr f) k = alone_known m f.0 (head_known name f.0 f.1) f.2
      by (inl x) (inr k) = alone_known m name k x.1
      by (inl x) (inl k) = let none = sym x.0 ∙ k.1 in absurd cc
