-- What the owner learns once all seats are back.
use Rattle.std.proofs.Common.{◌≡◌, ℕ, ◌+◌, ◌<◌, Bool, true, false, cond, eqb, eq-eqb, eqb-true, List, [], ◌∷◌, ◌++◌, sym, refl, ap, ◌∙◌, subst, arith}
use Rattle.std.specs.List.Sorted.{IsPermutation}
use Rattle.std.proofs.lemmas.List.Sorted.{IsPermutation-refl, IsPermutation-cons, IsPermutation-sym, IsPermutation-middle, IsPermutation-trans}
use Rattle.std.proofs.lemmas.List.Sums.{sum_by-append, sum_by-cons}
use Rattle.pair_queue.specs.declared.tickets.Hand.{Hand}
use Rattle.pair_queue.specs.Dispatch.{first_numbers}
use Rattle.pair_queue.specs.Returns.{HasTakenBack}
use Rattle.pair_queue.specs.Rule.{times}
use Rattle.pair_queue.specs.Seats.{Seat}
use Rattle.pair_queue.specs.Settling.{TookEachOnce}
use Rattle.pair_queue.specs.Steps.{TookAll}

pub times_cons : (i x : ℕ) (xs : List ℕ) → times i (x ∷ xs) ≡ cond (eqb x i) 1 0 + times i xs
times_cons i x xs = sum_by-cons (λ j. cond (eqb j i) 1 0) x xs

times_append : (i : ℕ) (xs ys : List ℕ) → times i (xs ++ ys) ≡ times i xs + times i ys
times_append i xs ys = sum_by-append (λ j. cond (eqb j i) 1 0) xs ys

here : (i : ℕ) (xs : List ℕ) → 0 < times i (i ∷ xs)
here i xs = let e : times i (i ∷ xs) ≡ 1 + times i xs = times_cons i i xs ∙ ap (λ (b : Bool). cond b 1 0 + times i xs) (eq-eqb i i refl) in omega arith

abbrev Split : ℕ → List ℕ → Type 0
Split i xs = (left : List ℕ) × (right : List ℕ) × (xs ≡ left ++ i ∷ right)

split_more : (i x : ℕ) (xs : List ℕ) (b : Bool) → eqb x i ≡ b → (0 < times i xs → Split i xs) → 0 < times i (x ∷ xs) → Split i (x ∷ xs)
split_more i x xs true e later some_ = ([], xs, ap (λ (y : ℕ). y ∷ xs) (eqb-true x i e))
split_more i x xs false e later some_ =
    let rest : times i (x ∷ xs) ≡ 0 + times i xs = times_cons i x xs ∙ ap (λ (b : Bool). cond b 1 0 + times i xs) e in
    let found = later (omega arith) in
    (x ∷ found.0, found.1, ap (λ (ys : List ℕ). x ∷ ys) found.2)

-- a number that stands in a list splits it
split_at : (i : ℕ) (xs : List ℕ) → 0 < times i xs → Split i xs
split_at i [] some_ = absurd (omega arith)
split_at i (x ∷ xs) some_ = split_more i x xs (eqb x i) refl (λ more. split_at i xs more) some_

-- two lists in which each number stands equally often are the same list in two orders
pub permutation_from_times : (xs ys : List ℕ) → ((i : ℕ) → times i ys ≡ times i xs) → IsPermutation xs ys
permutation_from_times [] [] same = IsPermutation-refl []
permutation_from_times [] (y ∷ ys) same = let some_ = here y ys in let none = same y in absurd (omega arith)
permutation_from_times (x ∷ xs) ys same =
    let some_ = here x xs in
    let found = split_at x ys (let e = same x in omega arith) in
    let left : List ℕ = found.0 in
    let right : List ℕ = found.1 in
    let rest : (i : ℕ) → times i (left ++ right) ≡ times i xs = λ i.
    let e = same i in
    let a : times i ys ≡ times i (left ++ x ∷ right) = ap (times i) found.2 in
    let b = times_append i left (x ∷ right) in
    let c = times_append i left right in
    let d = times_cons i x right in
    let f = times_cons i x xs in
    omega arith in
    let moved = IsPermutation-cons x xs (left ++ right) (permutation_from_times xs (left ++ right) rest) in
    let back = IsPermutation-sym (left ++ x ∷ right) (x ∷ (left ++ right)) (IsPermutation-middle left x right) in
    subst (IsPermutation (x ∷ xs)) (sym found.2) (IsPermutation-trans (x ∷ xs) (x ∷ (left ++ right)) (left ++ x ∷ right) moved back)

pub each_once : (owner : Seat) (thieves : List Seat) (v : Hand) → HasTakenBack owner thieves v → TookAll v → TookEachOnce owner thieves
each_once owner thieves v back all =
    subst (λ (p : ℕ × List ℕ). IsPermutation (first_numbers p.0) p.1) (λ k. (back.made k, back.takes k)) (permutation_from_times (first_numbers v.made) v.taken all)
