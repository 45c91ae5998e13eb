-- What stands in a list with one more at its end.
use Rattle.std.proofs.Common.{◌≡◌, ℕ, zero, suc, ◌<◌, ◌⊎◌, inl, inr, Some, List, [], ◌∷◌, ◌++◌, length, slice_get, refl, ap, arith}

module _ {X : Type 0} where
  pub push_same : (xs : List X) (k : ℕ) (y : X) → k < length xs → slice_get (xs ++ y ∷ []) k ≡ slice_get xs k
  push_same [] k y h = absurd (omega (arith, h))
  push_same (x ∷ xs) zero y h = refl
  push_same (x ∷ xs) (suc k) y h = push_same xs k y (omega (arith, h))

  pub push_old : (xs : List X) (k : ℕ) (x y : X) → slice_get xs k ≡ Some x → slice_get (xs ++ y ∷ []) k ≡ Some x
  push_old [] k x y e = cc
  push_old (z ∷ xs) zero x y e = e
  push_old (z ∷ xs) (suc k) x y e = push_old xs k x y e

  pub push_new : (xs : List X) (y : X) → slice_get (xs ++ y ∷ []) (length xs) ≡ Some y
  push_new [] y = refl
  push_new (x ∷ xs) y = push_new xs y

  pub push_cases : (xs : List X) (k : ℕ) (x y : X) → slice_get (xs ++ y ∷ []) k ≡ Some x → (slice_get xs k ≡ Some x) ⊎ ((k ≡ length xs) × (x ≡ y))
  push_cases [] zero x y e = inr (refl, cc)
  push_cases [] (suc k) x y e = cc
  push_cases (z ∷ xs) zero x y e = inl e
  push_cases (z ∷ xs) (suc k) x y e = elim (push_cases xs k x y e) [
    | inl old ↦ inl old
    | inr new ↦ inr (ap suc new.0, new.1)
  ]
