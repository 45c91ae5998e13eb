-- Numbers that rise strictly.
use Rattle.std.proofs.Common.{◌≡◌, ℕ, zero, suc, ◌+◌, ◌<◌, ◌≤◌, List, length, slice_index, All, sym, refl, arith}
use Rattle.std.specs.List.Sorted.{IsStrictlyIncreasing}

above_place : (xs : List ℕ) → IsStrictlyIncreasing xs → (k : ℕ) → k < length xs → k ≤ slice_index xs k
above_place xs up zero lt = omega arith
above_place xs up (suc k) lt =
    let before = above_place xs up k (omega arith) in
    let step : slice_index xs k < slice_index xs (k + 1) = up k (omega arith) in
    let s : k + 1 ≡ suc k = omega arith in
    rw (sym s) (omega arith)

-- there are at most n of them below n
pub rising_length : (xs : List ℕ) (n : ℕ) → IsStrictlyIncreasing xs → All (λ i. i < n) xs → length xs ≤ n
rising_length xs n up below = cases (length xs) refl
  where
    cases : (m : ℕ) → length xs ≡ m → m ≤ n
    cases zero e = omega arith
    cases (suc m) e =
        let a = above_place xs up m (omega arith) in
        let b : slice_index xs m < n = below m 0 (omega arith) in
        omega arith
