-- A run of numbers in another order, sorted.
use Rattle.std.proofs.Common.{◌≡◌, ℕ, zero, suc, ◌+◌, ◌<◌, ◌≤◌, Bool, cond, eqb, eq-eqb, ne_eqb, List, [], ◌∷◌, length, map, get_or, All, refl, ap, ◌∙◌, arith}
use native.Mathlib.Decide.{dec_le}
use Rattle.std.specs.List.{range_with_len}
use Rattle.std.specs.List.Sorted.{IsPermutation, IsNonDecreasing, IsNonDecreasingBy}
use Rattle.std.proofs.lemmas.List.Sorted.{sum_by-IsPermutation}
use Rattle.std.proofs.lemmas.List.Sums.{sum_by-cons}
use Rattle.std.proofs.lemmas.List.Elements.{All-nil, All-cons, All-head, All-tail}
use Rattle.pair_queue.specs.Rule.{times}

times_cons : (i x : ℕ) (xs : List ℕ) → times i (x ∷ xs) ≡ cond (eqb x i) 1 0 + times i xs
times_cons i x xs = sum_by-cons (λ j. cond (eqb j i) 1 0) x xs

times_here : (i : ℕ) (xs : List ℕ) → times i (i ∷ xs) ≡ 1 + times i xs
times_here i xs = times_cons i i xs ∙ ap (λ (b : Bool). cond b 1 0 + times i xs) (eq-eqb i i refl)

none_below : (i b : ℕ) (xs : List ℕ) → i < b → All (λ j. b ≤ j) xs → times i xs ≡ 0
none_below i b [] lt all = refl
none_below i b (x ∷ xs) lt all =
    let first : b ≤ x = All-head (λ j. b ≤ j) x xs all in
    let rest = none_below i b xs lt (All-tail (λ j. b ≤ j) x xs all) in
    times_cons i x xs ∙ ap (λ (t : Bool). cond t 1 0 + times i xs) (ne_eqb x i (λ e. absurd (omega arith))) ∙ omega arith

range_above : (a n b : ℕ) → b ≤ a → All (λ j. b ≤ j) (range_with_len a n)
range_above a zero b le = All-nil (λ j. b ≤ j)
range_above a (suc n) b le = All-cons (λ j. b ≤ j) a (range_with_len (a + 1) n) le (range_above (a + 1) n b (omega arith))

pub sorted_range : (xs : List ℕ) (a n : ℕ) → IsNonDecreasing xs → ((i : ℕ) → times i xs ≡ times i (range_with_len a n)) → xs ≡ range_with_len a n
sorted_range [] a zero up same = refl
sorted_range [] a (suc n) up same = let e = same a in let h = times_here a (range_with_len (a + 1) n) in absurd (omega arith)
sorted_range (x ∷ xs) a zero up same = let e = same x in let h = times_here x xs in absurd (omega arith)
sorted_range (x ∷ xs) a (suc n) up same =
    let rest : List ℕ = range_with_len (a + 1) n in
    let low : All (λ j. a ≤ j) (a ∷ rest) = range_above a (suc n) a (omega arith) in
    let least : All (λ j. x ≤ j) (x ∷ xs) = λ k d lt. up 0 k d (omega arith) lt in
    let not_less : a ≤ x = cases (dec_le a x) (λ lt. let z = none_below x a (a ∷ rest) lt low in let e = same x in let h = times_here x xs in omega arith) in
    let not_more : x ≤ a = cases (dec_le x a) (λ lt. let z = none_below a x (x ∷ xs) lt least in let e = same a in let h = times_here a rest in omega arith) in
    let first : x ≡ a = omega arith in
    let tail : (i : ℕ) → times i xs ≡ times i rest = λ i. let e = same i in let f = times_cons i a xs in let g = times_cons i a rest in let h : times i (x ∷ xs) ≡ times i (a ∷ xs) = ap (λ (y : ℕ). times i (y ∷ xs)) first in omega arith in
    let more = sorted_range xs (a + 1) n (λ i j d le lt. up (suc i) (suc j) d (omega arith) (omega arith)) tail in
    cc
  where
    cases : {p q : ℕ} → Dec (p ≤ q) → (q < p → ⊥) → p ≤ q
    cases (yes d) f = d
    cases (no d) f = absurd (f (omega arith))

pub sorted_permutation : (xs : List ℕ) (n : ℕ) → IsNonDecreasing xs → IsPermutation (range_with_len 0 n) xs → xs ≡ range_with_len 0 n
sorted_permutation xs n up p = sorted_range xs 0 n up (λ i. sum_by-IsPermutation (λ j. cond (eqb j i) 1 0) (range_with_len 0 n) xs p)

pub length_mapped : {X : Type 0} (f : X → ℕ) (xs : List X) → length (map f xs) ≡ length xs
length_mapped f [] = refl
length_mapped f (x ∷ xs) = let e = length_mapped f xs in omega arith

pub mapped_at : {X : Type 0} (f : X → ℕ) (xs : List X) (i d : ℕ) (e : X) → i < length xs → get_or (map f xs) i d ≡ f (get_or xs i e)
mapped_at f [] i d e lt = absurd (omega arith)
mapped_at f (x ∷ xs) zero d e lt = refl
mapped_at f (x ∷ xs) (suc i) d e lt = mapped_at f xs i d e (omega arith)

pub mapped_rises : {X : Type 0} (f : X → ℕ) (xs : List X) → IsNonDecreasingBy f xs → IsNonDecreasing (map f xs)
mapped_rises f [] up i j d le lt = absurd (omega arith)
mapped_rises f (x ∷ xs) up i j d le lt =
    let n : length (map f (x ∷ xs)) ≡ length (x ∷ xs) = length_mapped f (x ∷ xs) in
    let a = mapped_at f (x ∷ xs) i d x (omega arith) in
    let b = mapped_at f (x ∷ xs) j d x (omega arith) in
    let c = up i j x le (omega arith) in
    omega arith
