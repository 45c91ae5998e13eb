-- The first of some names that is a word of briefs, name by name.
use Rattle.std.proofs.Common.{◌≡◌, ℕ, ◌+◌, Bool, true, false, ◌||◌, List, [], ◌∷◌, ◌++◌, length, drop, Option, Some, None, slice_get, ap, refl, sym, ◌∙◌, cond}
use Rattle.std.specs.List.{list_any, find}
use Rattle.std.specs.Option.{option_map, option_or, is_some}
use Rattle.std.specs.Map.{keys_of}
use Rattle.std.proofs.lemmas.List.{drop_more, length-map}
use Rattle.std.proofs.lemmas.List.Folds.{find-append, list_any-append}
use Rattle.std.proofs.lemmas.Option.{slice_get_within, get_or_from_slice_get}

find_from : (f : List ℕ → Bool) (names : List (List ℕ)) (k : ℕ) (name : List ℕ) → slice_get names k ≡ Some name →
    find f (drop k names) ≡ cond (f name) (Some name) (find f (drop (k + 1) names))
find_from f names k name at =
    let rest : drop k names ≡ name ∷ drop (k + 1) names =
    drop_more names k name (slice_get_within names k name at)
    ∙ ap (λ (y : List ℕ). y ∷ drop (k + 1) names) (get_or_from_slice_get names k name name at) in
    ap (find f) rest

-- a name that is such a word, where none before it is
pub found_at : (f : List ℕ → Bool) (names : List (List ℕ)) (k : ℕ) (name : List ℕ) → slice_get names k ≡ Some name →
    f name ≡ true → find f (drop k names) ≡ find f names → Some name ≡ find f names
found_at f names k name at is before =
    sym (find_from f names k name at ∙ ap (λ (b : Bool). cond b (Some name) (find f (drop (k + 1) names))) is) ∙ before

-- a name that is none
pub passed_at : (f : List ℕ → Bool) (names : List (List ℕ)) (k : ℕ) (name : List ℕ) → slice_get names k ≡ Some name →
    f name ≡ false → find f (drop k names) ≡ find f names → find f (drop (k + 1) names) ≡ find f names
passed_at f names k name at is before =
    sym (find_from f names k name at ∙ ap (λ (b : Bool). cond b (Some name) (find f (drop (k + 1) names))) is) ∙ before

-- each entry has one
pub all_named : {X : Type 0} (entries : List (List ℕ × X)) → length (keys_of entries) ≡ length entries
all_named entries = length-map entries (λ e. e.0)

or_apart : (a b c : Bool) → (a || (b || c)) ≡ ((a || b) || c)
or_apart true b c = refl
or_apart false b c = refl

-- names of three kinds, where the first of each kind is known, as something that has a name
module _ {N : Type 0} (name : N → List ℕ) (f : List ℕ → Bool) where
  map_or : (a b : Option N) → option_map name (option_or a b) ≡ option_or (option_map name a) (option_map name b)
  map_or None b = refl
  map_or (Some x) b = refl

  or_or : (a b c : Option (List ℕ)) → option_or (option_or a b) c ≡ option_or a (option_or b c)
  or_or None b c = refl
  or_or (Some x) b c = refl

  pub first_of_three : (a b c : Option N) (xs ys zs : List (List ℕ)) → option_map name a ≡ find f xs →
      option_map name b ≡ find f ys → option_map name c ≡ find f zs →
      option_map name (option_or (option_or a b) c) ≡ find f (xs ++ (ys ++ zs))
  first_of_three a b c xs ys zs one two three =
      map_or (option_or a b) c ∙ (ap (λ o. option_or o (option_map name c)) (map_or a b)
      ∙ (or_or (option_map name a) (option_map name b) (option_map name c)
      ∙ (ap (λ o. option_or o (option_or (option_map name b) (option_map name c))) one
      ∙ (ap (λ o. option_or (find f xs) (option_or o (option_map name c))) two
      ∙ (ap (λ o. option_or (find f xs) (option_or (find f ys) o)) three
      ∙ (ap (option_or (find f xs)) (sym (find-append f ys zs)) ∙ sym (find-append f xs (ys ++ zs))))))))

  finds_any : (xs : List (List ℕ)) → is_some (find f xs) ≡ list_any f xs
  finds_any [] = refl
  finds_any (x ∷ xs) = by (f x) (finds_any xs)
    where
      by : (b : Bool) → is_some (find f xs) ≡ list_any f xs → is_some (cond b (Some x) (find f xs)) ≡ (b || list_any f xs)
      by true rest = refl
      by false rest = rest

  is_mapped : (a : Option N) → is_some (option_map name a) ≡ is_some a
  is_mapped None = refl
  is_mapped (Some x) = refl

  pub some_of_three : (a : Option N) (xs ys zs : List (List ℕ)) → option_map name a ≡ find f (xs ++ (ys ++ zs)) →
      is_some a ≡ ((list_any f xs || list_any f ys) || list_any f zs)
  some_of_three a xs ys zs same =
      sym (is_mapped a) ∙ ap is_some same ∙ finds_any (xs ++ (ys ++ zs)) ∙ list_any-append f xs (ys ++ zs)
      ∙ ap (λ t. list_any f xs || t) (list_any-append f ys zs) ∙ or_apart (list_any f xs) (list_any f ys) (list_any f zs)
