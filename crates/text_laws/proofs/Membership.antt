-- Elements of lists, and lists without equal elements, by recursion.
use Rattle.std.proofs.Common.{◌≡◌, ℕ, zero, suc, ◌+◌, ◌<◌, Bool, true, false, cond, ◌||◌, ◌⊎◌, inl, inr, List, [], ◌∷◌, ◌++◌, map, length, refl, ap, sym, ◌∙◌, subst, arith, true≢false}
use Rattle.std.specs.List.{list_any, filter, flat_map, Contains, slice_index_or, count_by}
use Rattle.std.specs.Str.{bytes_eq}
use Rattle.std.proofs.lemmas.List.Sums.{sum_by-cons}
use Rattle.std.proofs.lemmas.Grind.{common_steps}
use Rattle.plan_core.proofs.BuildingLemmas.{bytes_eq-same, same-bytes_eq}

abbrev pub In : {A : Type 0} → A → List A → Type 0
In x [] = ⊥
In x (y ∷ ys) = (x ≡ y) ⊎ In x ys

abbrev pub Distinct : {A : Type 0} → List A → Type 0
Distinct [] = Unit {0}
Distinct (x ∷ xs) = (In x xs → ⊥) × Distinct xs

-- ---- booleans

pub or_either : (a b : Bool) → (a || b) ≡ true → (a ≡ true) ⊎ (b ≡ true)
or_either a b e = grind (arith, common_steps)

pub or_first : (a b : Bool) → a ≡ true → (a || b) ≡ true
or_first a b h = rw h refl

pub or_second : (a b : Bool) → b ≡ true → (a || b) ≡ true
or_second a b e = grind (arith, common_steps)

pub or_neither : (a b : Bool) → (a || b) ≡ false → (a ≡ false) × (b ≡ false)
or_neither a b e = grind (arith, common_steps)

pub is_false : (t : Bool) → (t ≡ true → ⊥) → t ≡ false
is_false t e = grind (arith, common_steps)

pub not_both : (t : Bool) → t ≡ true → t ≡ false → ⊥
not_both t is isnt = true≢false (sym is ∙ isnt)

pub true_or_false : (t : Bool) → (t ≡ true) ⊎ (t ≡ false)
true_or_false t = grind (arith, common_steps)

-- ---- elements

module _ {A : Type 0} where
  pub in_left : (x : A) (xs ys : List A) → In x xs → In x (xs ++ ys)
  in_left x [] ys h = absurd h
  in_left x (y ∷ xs) ys (inl e) = inl e
  in_left x (y ∷ xs) ys (inr h) = inr (in_left x xs ys h)

  pub in_right : (x : A) (xs ys : List A) → In x ys → In x (xs ++ ys)
  in_right x [] ys h = h
  in_right x (y ∷ xs) ys h = inr (in_right x xs ys h)

  pub in_either : (x : A) (xs ys : List A) → In x (xs ++ ys) → In x xs ⊎ In x ys
  in_either x [] ys h = inr h
  in_either x (y ∷ xs) ys (inl e) = inl (inl e)
  in_either x (y ∷ xs) ys (inr h) = elim (in_either x xs ys h) [ inl a ↦ inl (inr a) | inr b ↦ inr b ]

  pub in_last : (x : A) (xs : List A) → In x (xs ++ x ∷ [])
  in_last x xs = in_right x xs (x ∷ []) (inl refl)

  pub distinct_both : (xs ys : List A) → Distinct xs → Distinct ys → ((x : A) → In x xs → In x ys → ⊥) → Distinct (xs ++ ys)
  distinct_both [] ys one other apart = other
  distinct_both (x ∷ xs) ys one other apart = (new, distinct_both xs ys one.1 other (λ y h. apart y (inr h)))
    where
      new : In x (xs ++ ys) → ⊥
      new h = elim (in_either x xs ys h) [ inl a ↦ one.0 a | inr b ↦ apart x (inl refl) b ]

  pub distinct_push : (xs : List A) (x : A) → Distinct xs → (In x xs → ⊥) → Distinct (xs ++ x ∷ [])
  distinct_push xs x one new = grind (arith, common_steps, distinct_both)

  pub any_in : (p : A → Bool) (xs : List A) → list_any p xs ≡ true → (x : A) × In x xs × (p x ≡ true)
  any_in p [] h = absurd (true≢false (sym h))
  any_in p (x ∷ xs) h = grind (arith, common_steps, or_either, (any_in p xs))

  pub in_any : (p : A → Bool) (xs : List A) (x : A) → In x xs → p x ≡ true → list_any p xs ≡ true
  in_any p [] x h is = absurd h
  in_any p (y ∷ xs) x (inl e) is = or_first (p y) (list_any p xs) (ap p (sym e) ∙ is)
  in_any p (y ∷ xs) x (inr h) is = or_second (p y) (list_any p xs) (in_any p xs x h is)

  pub in_filter : (p : A → Bool) (xs : List A) (x : A) → In x xs → p x ≡ true → In x (filter p xs)
  in_filter p [] x h is = absurd h
  in_filter p (y ∷ xs) x h is = grind (arith, common_steps, (in_filter p xs x))

  pub from_filter : (p : A → Bool) (xs : List A) (x : A) → In x (filter p xs) → In x xs × (p x ≡ true)
  from_filter p [] x h = absurd h
  from_filter p (y ∷ xs) x h = grind (arith, common_steps, (from_filter p xs x))

  pub distinct_filter : (p : A → Bool) (xs : List A) → Distinct xs → Distinct (filter p xs)
  distinct_filter p [] one = tt
  distinct_filter p (x ∷ xs) one = grind (arith, common_steps, from_filter, (distinct_filter p xs one.1))

  pub in_contained : (xs : List A) (x : A) → Contains xs x → In x xs
  in_contained xs x c = at xs c.0 c.1 c.2
    where
      at : (ys : List A) (k : ℕ) → k < length ys → slice_index_or ys k x ≡ x → In x ys
      at [] k h e = absurd (omega arith)
      at (y ∷ ys) zero h e = inl (sym e)
      at (y ∷ ys) (suc k) h e = inr (at ys k (omega arith) e)

  pub contained_in : (xs : List A) (x : A) → In x xs → Contains xs x
  contained_in [] x h = absurd h
  contained_in (y ∷ xs) x (inl e) = (0, omega arith, sym e)
  contained_in (y ∷ xs) x (inr h) = let r = contained_in xs x h in (suc r.0, omega (arith, r.1), r.2)

module _ {A B : Type 0} where
  pub in_map : (f : A → B) (xs : List A) (x : A) → In x xs → In (f x) (map f xs)
  in_map f [] x h = absurd h
  in_map f (y ∷ xs) x (inl e) = inl (ap f e)
  in_map f (y ∷ xs) x (inr h) = inr (in_map f xs x h)

  pub from_map : (f : A → B) (xs : List A) (y : B) → In y (map f xs) → (x : A) × In x xs × (y ≡ f x)
  from_map f [] y h = absurd h
  from_map f (x ∷ xs) y (inl e) = (x, inl refl, e)
  from_map f (x ∷ xs) y (inr h) = let r = from_map f xs y h in (r.0, inr r.1, r.2)

  pub in_flat : (f : A → List B) (xs : List A) (x : A) (y : B) → In x xs → In y (f x) → In y (flat_map f xs)
  in_flat f [] x y h g = absurd h
  in_flat f (z ∷ xs) x y (inl e) g = in_left y (f z) (flat_map f xs) (subst (λ (w : A). In y (f w)) e g)
  in_flat f (z ∷ xs) x y (inr h) g = in_right y (f z) (flat_map f xs) (in_flat f xs x y h g)

  pub from_flat : (f : A → List B) (xs : List A) (y : B) → In y (flat_map f xs) → (x : A) × In x xs × In y (f x)
  from_flat f [] y h = absurd h
  from_flat f (x ∷ xs) y h = by (in_either y (f x) (flat_map f xs) h) (from_flat f xs y)
    where
      by : In y (f x) ⊎ In y (flat_map f xs) → (In y (flat_map f xs) → (z : A) × In z xs × In y (f z)) → (z : A) × In z (x ∷ xs) × In y (f z)
      by e f = grind (arith, common_steps)

  -- equal images come of equal elements alone
  pub distinct_from_map : (f : A → B) (xs : List A) → Distinct (map f xs) → Distinct xs
  distinct_from_map f [] one = tt
  distinct_from_map f (x ∷ xs) one = ((λ h. one.0 (in_map f xs x h)), distinct_from_map f xs one.1)

  pub distinct_map : (f : A → B) (xs : List A) → ((x y : A) → In x xs → In y xs → f x ≡ f y → x ≡ y) → Distinct xs → Distinct (map f xs)
  distinct_map f [] same one = tt
  distinct_map f (x ∷ xs) same one = (new, distinct_map f xs (λ y z h g. same y z (inr h) (inr g)) one.1)
    where
      new : In (f x) (map f xs) → ⊥
      new h = let r = from_map f xs (f x) h in one.0 (subst (λ (z : A). In z xs) (sym (same x r.0 (inl refl) (inr r.1) r.2)) r.1)

  pub distinct_kept : (f : A → B) (p : A → Bool) (xs : List A) → Distinct (map f xs) → Distinct (map f (filter p xs))
  distinct_kept f p [] one = tt
  distinct_kept f p (x ∷ xs) one = by (p x) (distinct_kept f p xs one.1)
    where
      new : In (f x) (map f (filter p xs)) → ⊥
      new h = let r = from_map f (filter p xs) (f x) h in one.0 (subst (λ (y : B). In y (map f xs)) (sym r.2) (in_map f xs r.0 (from_filter p xs r.0 r.1).0))

      by : (t : Bool) → Distinct (map f (filter p xs)) → Distinct (map f (cond t (x ∷ filter p xs) (filter p xs)))
      by t e = grind (arith, common_steps, new)

  -- of different images
  pub distinct_one : (f : A → B) (xs : List A) → Distinct (map f xs) → (x y : A) → In x xs → In y xs → f x ≡ f y → x ≡ y
  distinct_one f [] one x y h g e = absurd h
  distinct_one f (z ∷ xs) one x y (inl a) (inl b) e = a ∙ sym b
  distinct_one f (z ∷ xs) one x y (inl a) (inr b) e = absurd (one.0 (subst (λ (w : B). In w (map f xs)) (sym e ∙ ap f a) (in_map f xs y b)))
  distinct_one f (z ∷ xs) one x y (inr a) (inl b) e = absurd (one.0 (subst (λ (w : B). In w (map f xs)) (e ∙ ap f b) (in_map f xs x a)))
  distinct_one f (z ∷ xs) one x y (inr a) (inr b) e = distinct_one f xs one.1 x y a b e

-- ---- names

pub in_among : (name : List ℕ) (names : List (List ℕ)) → In name names → list_any (bytes_eq name) names ≡ true
in_among name names h = in_any (bytes_eq name) names name h (bytes_eq-same name name refl)

-- the same, where the test is turned
abbrev pub holds : List ℕ → List (List ℕ) → Bool
holds name names = list_any (λ other. bytes_eq other name) names

pub holds_in : (name : List ℕ) (names : List (List ℕ)) → holds name names ≡ true → In name names
holds_in name names h = let f = any_in (λ other. bytes_eq other name) names h in subst (λ (x : List ℕ). In x names) (same-bytes_eq f.0 name f.2) f.1

pub in_holds : (name : List ℕ) (names : List (List ℕ)) → In name names → holds name names ≡ true
in_holds name names h = in_any (λ other. bytes_eq other name) names name h (bytes_eq-same name name refl)

pub not_holds : (name : List ℕ) (names : List (List ℕ)) → holds name names ≡ false → In name names → ⊥
not_holds name names none h = not_both (holds name names) (in_holds name names h) none

-- ---- counts

module _ {A : Type 0} (p : A → Bool) where
  pub count-cons : (x : A) (xs : List A) → count_by p (x ∷ xs) ≡ cond (p x) 1 0 + count_by p xs
  count-cons x xs = sum_by-cons (λ y. cond (p y) 1 0) x xs

  -- no two pass
  abbrev pub AtMostOne : List A → Type 0
  AtMostOne [] = Unit {0}
  AtMostOne (x ∷ xs) = (p x ≡ true → list_any p xs ≡ false) × AtMostOne xs

  pub count_none : (xs : List A) → list_any p xs ≡ false → count_by p xs ≡ 0
  count_none [] none = refl
  count_none (x ∷ xs) none = grind (arith, common_steps, or_neither, count-cons, (count_none xs))

  pub count_one : (xs : List A) → AtMostOne xs → list_any p xs ≡ true → count_by p xs ≡ 1
  count_one [] few h = absurd (true≢false (sym h))
  count_one (x ∷ xs) few h = grind (arith, common_steps, count-cons, count_none, (count_one xs few.1))
