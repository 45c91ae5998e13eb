-- Lists that loops make, where each item adds some.
use Rattle.std.proofs.Common.{◌≡◌, ℕ, suc, ◌+◌, ◌<◌, Bool, true, false, List, [], ◌∷◌, ◌++◌, map, take, length, get_or, refl, ap, sym, ◌∙◌, arith}
use Rattle.std.specs.Prelude.{if◌then◌else◌}
use Rattle.std.specs.List.{filter, flat_map}
use Rattle.std.proofs.lemmas.List.{flat_map_more}
use Rattle.std.proofs.lemmas.List.Concat.{flat_map_single}
use Rattle.std.proofs.Math.Seq.{take-suc}

-- of the items, so many are done
module _ {A B : Type 0} (g : A → List B) (xs : List A) where
  pub one_further : (before done after : List B) (i : ℕ) (x : A) → i < length xs → x ≡ get_or xs i x → done ≡ before ++ flat_map g (take i xs) → after ≡ done ++ g x
      → after ≡ before ++ flat_map g (take (i + 1) xs)
  one_further before done after i x within is so_far adds =
      let next : i + 1 ≡ suc i = omega arith in
      adds ∙ ap (λ ys. ys ++ g x) so_far ∙ flat_map_more g before (take i xs) x
      ∙ ap (λ y. before ++ flat_map g (take i xs ++ y ∷ [])) is
      ∙ ap (λ ys. before ++ flat_map g ys) (sym (take-suc xs i x within))
      ∙ ap (λ n. before ++ flat_map g (take n xs)) (sym next)

-- where the items are taken by a test
module _ {A B C : Type 0} (f : A → B) (p : B → Bool) where
  pub flat_where : (h : B → List C) (xs : List A) → flat_map (λ x. if p (f x) then h (f x) else []) xs ≡ flat_map h (filter p (map f xs))
  flat_where h [] = refl
  flat_where h (x ∷ xs) = by (p (f x)) (flat_where h xs)
    where
      by : (t : Bool) {rest : List C} → rest ≡ flat_map h (filter p (map f xs)) → (if t then h (f x) else []) ++ rest ≡ flat_map h (if t then f x ∷ filter p (map f xs) else filter p (map f xs))
      by true same = ap (λ l. h (f x) ++ l) same
      by false same = same

  pub map_where : (k : B → C) (xs : List A) → flat_map (λ x. if p (f x) then k (f x) ∷ [] else []) xs ≡ map k (filter p (map f xs))
  map_where k xs = flat_where (λ y. k y ∷ []) xs ∙ flat_map_single k (filter p (map f xs))

-- the same of items that stay as they are
pub names_where : {A B : Type 0} (f : A → B) (p : B → Bool) (xs : List A) → flat_map (λ x. if p (f x) then f x ∷ [] else []) xs ≡ filter p (map f xs)
names_where f p xs = map_where f p (λ y. y) xs ∙ same (filter p (map f xs))
  where
    same : {B : Type 0} (ys : List B) → map (λ y. y) ys ≡ ys
    same [] = refl
    same (y ∷ ys) = ap (λ l. y ∷ l) (same ys)

-- each item by itself
pub filter_each : {A B : Type 0} (p : B → Bool) (k : A → B) (xs : List A) → filter p (map k xs) ≡ flat_map (λ x. filter p (k x ∷ [])) xs
filter_each p k [] = refl
filter_each {B = B} p k (x ∷ xs) = by (p (k x)) (filter_each p k xs)
  where
    by : (t : Bool) {rest : List B} → filter p (map k xs) ≡ rest → (if t then k x ∷ filter p (map k xs) else filter p (map k xs)) ≡ (if t then k x ∷ [] else []) ++ rest
    by true same = ap (λ l. k x ∷ l) same
    by false same = same
