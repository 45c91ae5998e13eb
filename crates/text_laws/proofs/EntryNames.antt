-- Names of entries, and what stands at which place of a list.
use Rattle.std.proofs.Common.{◌≡◌, ℕ, zero, suc, ◌<◌, ◌⊎◌, inl, inr, Bool, true, false, cond, List, [], ◌∷◌, ◌++◌, length, get_or, Option, Some, None, refl, ap, sym, subst, arith, map, slice_get, ◌∙◌}
use Rattle.std.specs.Map.{keys_of, lookup}
use Rattle.std.specs.Str.{bytes_eq}
use Rattle.std.proofs.lemmas.List.Quantifiers.{position-Some}
use Rattle.std.proofs.lemmas.Grind.{common_steps}
use Rattle.plan_core.specs.Building.{number_of, has_name}
use Rattle.plan_core.proofs.BuildingLemmas.{bytes_eq-same, same-bytes_eq, position-None, none_from_is_some}
use Rattle.text_laws.proofs.Membership.{In, in_left, in_right, in_either, is_false, not_both, Distinct, in_map, from_map, in_flat, from_flat}
use Rattle.std.proofs.lemmas.Option.{get_or_from_slice_get}
use Rattle.plan_core.proofs.ListLemmas.{some_at}
use Rattle.brief_text.specs.Splitting.{pairs_among, pairs_between}

module _ {A : Type 0} where
  pub at_in : (xs : List A) (k : ℕ) (d : A) → k < length xs → In (get_or xs k d) xs
  at_in [] k d h = absurd (omega arith)
  at_in (x ∷ xs) zero d h = inl refl
  at_in (x ∷ xs) (suc k) d h = inr (at_in xs k d (omega arith))

  pub in_at : (xs : List A) (x d : A) → In x xs → (k : ℕ) × (k < length xs) × (get_or xs k d ≡ x)
  in_at [] x d h = absurd h
  in_at (y ∷ xs) x d (inl e) = (0, omega arith, sym e)
  in_at (y ∷ xs) x d (inr h) = let r = in_at xs x d h in (suc r.0, omega (arith, r.1), r.2)

module _ {X : Type 0} where
  pub number_in : (name : List ℕ) (entries : List (List ℕ × X)) (k : ℕ) → number_of name entries ≡ Some k → In name (keys_of entries)
  number_in name entries k e =
      let found = position-Some (bytes_eq name) (keys_of entries) k [] e in
      subst (λ (n : List ℕ). In n (keys_of entries)) (sym (same-bytes_eq name (get_or (keys_of entries) k []) found.1)) (at_in (keys_of entries) k [] found.0)

  pub has_name_in : (name : List ℕ) (entries : List (List ℕ × X)) → has_name name entries ≡ true → In name (keys_of entries)
  has_name_in name entries h = grind (arith, common_steps, number_in)

  pub number_none : (name : List ℕ) (entries : List (List ℕ × X)) → (In name (keys_of entries) → ⊥) → number_of name entries ≡ None
  number_none name entries new = none_from_is_some (number_of name entries) (is_false (has_name name entries) (λ h. new (has_name_in name entries h)))

  pub none_number : (name : List ℕ) (entries : List (List ℕ × X)) → number_of name entries ≡ None → In name (keys_of entries) → ⊥
  none_number name entries none h =
      let at = in_at (keys_of entries) name [] h in
      not_both (bytes_eq name (get_or (keys_of entries) at.0 [])) (bytes_eq-same name (get_or (keys_of entries) at.0 []) (sym at.2)) (position-None (bytes_eq name) (keys_of entries) none at.0 [] at.1)

  pub in_has_name : (name : List ℕ) (entries : List (List ℕ × X)) → In name (keys_of entries) → has_name name entries ≡ true
  in_has_name name entries h = grind (arith, common_steps, none_number)

  pub keys_both : (one other : List (List ℕ × X)) → keys_of (one ++ other) ≡ keys_of one ++ keys_of other
  keys_both [] other = refl
  keys_both (x ∷ one) other = ap (λ (names : List (List ℕ)). x.0 ∷ names) (keys_both one other)

  pub in_keys_either : (name : List ℕ) (one other : List (List ℕ × X)) → In name (keys_of (one ++ other)) → In name (keys_of one) ⊎ In name (keys_of other)
  in_keys_either name one other h = in_either name (keys_of one) (keys_of other) (subst (λ (names : List (List ℕ)). In name names) (keys_both one other) h)

  pub in_keys_left : (name : List ℕ) (one other : List (List ℕ × X)) → In name (keys_of one) → In name (keys_of (one ++ other))
  in_keys_left name one other h = subst (λ (names : List (List ℕ)). In name names) (sym (keys_both one other)) (in_left name (keys_of one) (keys_of other) h)

  pub in_keys_right : (name : List ℕ) (one other : List (List ℕ × X)) → In name (keys_of other) → In name (keys_of (one ++ other))
  in_keys_right name one other h = subst (λ (names : List (List ℕ)). In name names) (sym (keys_both one other)) (in_right name (keys_of one) (keys_of other) h)

  -- ---- looking up

  pub lookup_in : (name : List ℕ) (entries : List (List ℕ × X)) (x : X) → lookup (bytes_eq name) entries ≡ Some x → In (name, x) entries
  lookup_in name [] x e = absurd cc
  lookup_in name ((n, y) ∷ entries) x e = by (bytes_eq name n) refl e (lookup_in name entries x)
    where
      by : (t : Bool) → bytes_eq name n ≡ t → cond t (Some y) (lookup (bytes_eq name) entries) ≡ Some x → (lookup (bytes_eq name) entries ≡ Some x → In (name, x) entries) → In (name, x) ((n, y) ∷ entries)
      by true is h later = let same : y ≡ x = cc in let named = same-bytes_eq name n is in inl (λ i. (named i, sym same i))
      by false is h later = inr (later h)

  pub lookup_none : (name : List ℕ) (entries : List (List ℕ × X)) → lookup (bytes_eq name) entries ≡ None → In name (keys_of entries) → ⊥
  lookup_none name [] e h = h
  lookup_none name ((n, y) ∷ entries) e h = grind (arith, common_steps, not_both, bytes_eq-same, (lookup_none name entries))

  pub lookup_kept : (name : List ℕ) (entries more : List (List ℕ × X)) (x : X) → lookup (bytes_eq name) entries ≡ Some x → lookup (bytes_eq name) (entries ++ more) ≡ Some x
  lookup_kept name [] more x e = absurd cc
  lookup_kept name (f ∷ entries) more x e = grind (arith, common_steps, (lookup_kept name entries more x))

  pub lookup_last : (name : List ℕ) (entries : List (List ℕ × X)) (n : List ℕ) (y x : X) → lookup (bytes_eq name) (entries ++ (n, y) ∷ []) ≡ Some x → (lookup (bytes_eq name) entries ≡ Some x) ⊎ ((name ≡ n) × (y ≡ x))
  lookup_last name [] n y x e = grind (arith, common_steps, same-bytes_eq)
  lookup_last name (f ∷ entries) n y x e = grind (arith, common_steps, (lookup_last name entries n y x))

  -- a name that is new at the end changes no other
  pub lookup_other : (name : List ℕ) (entries : List (List ℕ × X)) (n : List ℕ) (y : X) → (name ≡ n → ⊥) → lookup (bytes_eq name) (entries ++ (n, y) ∷ []) ≡ lookup (bytes_eq name) entries
  lookup_other name [] n y differ = ap (λ (t : Bool). cond t (Some y) None) (is_false (bytes_eq name n) (λ h. differ (same-bytes_eq name n h)))
  lookup_other name (f ∷ entries) n y differ = ap (λ (o : Option X). cond (bytes_eq name f.0) (Some f.1) o) (lookup_other name entries n y differ)

-- ---- what stands at which place of a list

module _ {A : Type 0} where
  abbrev pub two : A → A → A × A
  two x y = (x, y)

  pub slice_in : (xs : List A) (k : ℕ) (x : A) → slice_get xs k ≡ Some x → In x xs
  slice_in [] k x e = absurd cc
  slice_in (y ∷ xs) zero x e = let same : y ≡ x = cc in inl (sym same)
  slice_in (y ∷ xs) (suc k) x e = inr (slice_in xs k x e)

  pub distinct_at : (xs : List A) (j k : ℕ) (x : A) → Distinct xs → slice_get xs j ≡ Some x → slice_get xs k ≡ Some x → j ≡ k
  distinct_at [] j k x one e f = absurd cc
  distinct_at (y ∷ xs) zero zero x one e f = refl
  distinct_at (y ∷ xs) zero (suc k) x one e f = let same : y ≡ x = cc in absurd (one.0 (subst (λ (z : A). In z xs) (sym same) (slice_in xs k x f)))
  distinct_at (y ∷ xs) (suc j) zero x one e f = let same : y ≡ x = cc in absurd (one.0 (subst (λ (z : A). In z xs) (sym same) (slice_in xs j x e)))
  distinct_at (y ∷ xs) (suc j) (suc k) x one e f = ap suc (distinct_at xs j k x one.1 e f)

  -- two places are in one order or the other, or they are one
  pub among_places : (xs : List A) (j k : ℕ) (x y : A) → slice_get xs j ≡ Some x → slice_get xs k ≡ Some y → (j ≡ k) ⊎ (In (two x y) (pairs_among xs) ⊎ In (two y x) (pairs_among xs))
  among_places [] j k x y e f = absurd cc
  among_places (z ∷ xs) zero zero x y e f = inl refl
  among_places (z ∷ xs) zero (suc k) x y e f =
      let same : z ≡ x = cc in
      inr (inl (in_left (x, y) (map (λ w. (z, w)) xs) (pairs_among xs) (subst (λ (v : A). In (two v y) (map (λ w. (z, w)) xs)) same (in_map (λ w. (z, w)) xs y (slice_in xs k y f)))))
  among_places (z ∷ xs) (suc j) zero x y e f =
      let same : z ≡ y = cc in
      inr (inr (in_left (y, x) (map (λ w. (z, w)) xs) (pairs_among xs) (subst (λ (v : A). In (two v x) (map (λ w. (z, w)) xs)) same (in_map (λ w. (z, w)) xs x (slice_in xs j x e)))))
  among_places (z ∷ xs) (suc j) (suc k) x y e f = later (among_places xs j k x y e f)
    where
      later : (j ≡ k) ⊎ (In (two x y) (pairs_among xs) ⊎ In (two y x) (pairs_among xs)) → (suc j ≡ suc k) ⊎ (In (two x y) (pairs_among (z ∷ xs)) ⊎ In (two y x) (pairs_among (z ∷ xs)))
      later e = grind (arith, common_steps, in_right)

  pub from_among : (xs : List A) (pair : A × A) → In pair (pairs_among xs) → In pair.0 xs × In pair.1 xs
  from_among [] pair h = absurd h
  from_among (z ∷ xs) pair h = by (in_either pair (map (λ w. (z, w)) xs) (pairs_among xs) h) (from_among xs pair)
    where
      by : In pair (map (λ w. (z, w)) xs) ⊎ In pair (pairs_among xs) → (In pair (pairs_among xs) → In pair.0 xs × In pair.1 xs) → In pair.0 (z ∷ xs) × In pair.1 (z ∷ xs)
      by (inl here) later =
          let f = from_map (λ w. (z, w)) xs pair here in
          (inl (ap (λ (p : A × A). p.0) f.2), inr (subst (λ (w : A). In w xs) (sym (ap (λ (p : A × A). p.1) f.2)) f.1))
      by (inr there) later = let r = later there in (inr r.0, inr r.1)

  pub in_between : (xs ys : List A) (x y : A) → In x xs → In y ys → In (two x y) (pairs_between xs ys)
  in_between xs ys x y h g = in_flat (λ v. map (λ w. (v, w)) ys) xs x (x, y) h (in_map (λ w. (x, w)) ys y g)

  pub from_between : (xs ys : List A) (pair : A × A) → In pair (pairs_between xs ys) → In pair.0 xs × In pair.1 ys
  from_between xs ys pair h = grind (arith, common_steps, from_flat, from_map)

module _ {A B : Type 0} (f : A → B) where
  pub slice_map : (xs : List A) (k : ℕ) (x : A) → slice_get xs k ≡ Some x → slice_get (map f xs) k ≡ Some (f x)
  slice_map [] k x e = absurd cc
  slice_map (y ∷ xs) zero x e = let same : y ≡ x = cc in ap (λ (z : A). Some (f z)) same
  slice_map (y ∷ xs) (suc k) x e = slice_map xs k x e

  pub slice_from_map : (xs : List A) (k : ℕ) (y : B) → slice_get (map f xs) k ≡ Some y → (x : A) × (slice_get xs k ≡ Some x) × (y ≡ f x)
  slice_from_map [] k y e = absurd cc
  slice_from_map (x ∷ xs) zero y e = let same : f x ≡ y = cc in (x, refl, sym same)
  slice_from_map (x ∷ xs) (suc k) y e = slice_from_map xs k y e

module _ {X : Type 0} where
  pub number_key : (name : List ℕ) (entries : List (List ℕ × X)) (k : ℕ) → number_of name entries ≡ Some k → slice_get (keys_of entries) k ≡ Some name
  number_key name entries k e =
      let found = position-Some (bytes_eq name) (keys_of entries) k [] e in
      let at = some_at (keys_of entries) k found.0 in
      at.1 ∙ ap (λ (n : List ℕ). Some n) (sym (get_or_from_slice_get (keys_of entries) k at.0 [] at.1) ∙ sym (same-bytes_eq name _ found.1))

  pub key_number : (name : List ℕ) (entries : List (List ℕ × X)) (k : ℕ) → Distinct (keys_of entries) → slice_get (keys_of entries) k ≡ Some name → number_of name entries ≡ Some k
  key_number name entries k one at = by (number_of name entries) refl
    where
      by : (o : Option ℕ) → number_of name entries ≡ o → number_of name entries ≡ Some k
      by None e = absurd (none_number name entries e (slice_in (keys_of entries) k name at))
      by (Some j) e = e ∙ ap (λ (i : ℕ). Some i) (distinct_at (keys_of entries) j k name one (number_key name entries j e) at)
