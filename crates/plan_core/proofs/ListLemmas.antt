-- What stands in lists of places.
use Rattle.std.proofs.Common.{◌≡◌, ℕ, zero, suc, ◌+◌, ◌<◌, Some, List, [], ◌∷◌, ◌++◌, length, get_or, replicate, add-one, set, slice_get, refl, ap, sym, ◌∙◌, arith}

module _ {X : Type 0} where
  pub some_at : (xs : List X) (k : ℕ) → k < length xs → (x : X) × (slice_get xs k ≡ Some x)
  some_at [] k h = absurd (omega arith)
  some_at (y ∷ xs) zero h = (y, refl)
  some_at (y ∷ xs) (suc k) h = some_at xs k (omega arith)

  pub at_get : (xs : List X) (k : ℕ) (x : X) → slice_get xs k ≡ Some x → (k < length xs) × (get_or xs k x ≡ x)
  at_get [] k x e = cc
  at_get (y ∷ xs) zero x e = (omega arith, cc)
  at_get (y ∷ xs) (suc k) x e = let r = at_get xs k x e in (omega (arith, r.0), r.1)

  pub get_set_same : (xs : List X) (k : ℕ) (x : X) → k < length xs → slice_get (set xs k x) k ≡ Some x
  get_set_same [] k x h = absurd (omega arith)
  get_set_same (y ∷ xs) zero x h = refl
  get_set_same (y ∷ xs) (suc k) x h = get_set_same xs k x (omega arith)

  pub get_set_other : (xs : List X) (k j : ℕ) (x : X) → (j ≡ k → ⊥) → slice_get (set xs k x) j ≡ slice_get xs j
  get_set_other [] k j x n = refl
  get_set_other (y ∷ xs) zero zero x n = absurd (n refl)
  get_set_other (y ∷ xs) zero (suc j) x n = refl
  get_set_other (y ∷ xs) (suc k) zero x n = refl
  get_set_other (y ∷ xs) (suc k) (suc j) x n = get_set_other xs k j x (λ e. n (ap suc e))

  pub get_replicate : (n k : ℕ) (x y : X) → slice_get (replicate n x) k ≡ Some y → x ≡ y
  get_replicate zero k x y e = cc
  get_replicate (suc n) zero x y e = cc
  get_replicate (suc n) (suc k) x y e = get_replicate n k x y e

  pub length_of_all : (n : ℕ) (x : X) → length (replicate n x) ≡ n
  length_of_all zero x = refl
  length_of_all (suc n) x = ap suc (length_of_all n x)

  pub replicate_push : (n : ℕ) (x : X) → replicate n x ++ x ∷ [] ≡ replicate (suc n) x
  replicate_push zero x = refl
  replicate_push (suc n) x = ap (λ xs. x ∷ xs) (replicate_push n x)

  -- one more of the same
  pub one_more : (n : ℕ) (x : X) (before after : List X) → before ≡ replicate n x → after ≡ before ++ x ∷ [] → after ≡ replicate (n + 1) x
  one_more n x before after e f = rw add-one (f ∙ (ap (λ xs. xs ++ x ∷ []) e ∙ replicate_push n x))
