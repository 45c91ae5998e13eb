-- What a legal log hands out.
use Rattle.std.proofs.Common.{◌≡◌, ℕ, zero, suc, ◌+◌, ◌<◌, ◌≤◌, Bool, true, false, cond, eqb, List, [], ◌∷◌, ◌++◌, length, slice_index, All, sym, refl, ap, ◌∙◌, subst, append_assoc, arith}
use native.Mathlib.Decide.{dec_le}
use Rattle.std.specs.List.{range_with_len}
use Rattle.std.specs.List.Sorted.{IsStrictlyIncreasing}
use Rattle.std.proofs.lemmas.List.{get_or_append_left, get_or_push, length-append}
use Rattle.std.proofs.lemmas.List.Elements.{All-nil, All-cons, All-push}
use Rattle.pair_queue.specs.Dispatch.{Event, Push, Take, Empty, Leaves, pushed, taken, taken_by, first_numbers, IsHandedOut}

-- what was pushed was taken or is left
pub taken_then_left : (log : List Event) (rest : List ℕ) → Leaves log rest → pushed log ≡ taken log ++ rest
taken_then_left [] rest h = sym h
taken_then_left (Push i ∷ log) rest h =
    let before : List ℕ = h.0 in
    let e : rest ≡ before ++ i ∷ [] = h.2 in
    rw e (ap (λ (xs : List ℕ). xs ++ i ∷ []) (taken_then_left log before h.1) ∙ append_assoc (taken log) before (i ∷ []))
taken_then_left (Take seat i ∷ log) rest h =
    let before : List ℕ = h.0 in
    let e : before ≡ i ∷ rest = h.2 in
    taken_then_left log before h.1 ∙ ap (λ (xs : List ℕ). taken log ++ xs) e ∙ sym (append_assoc (taken log) (i ∷ []) rest)
taken_then_left (Empty seat ∷ log) rest h =
    let before : List ℕ = h.0 in
    let e : before ≡ [] = h.2.0 in
    let f : rest ≡ [] = h.2.1 in
    taken_then_left log before h.1 ∙ ap (λ (xs : List ℕ). taken log ++ xs) (e ∙ sym f)

-- two parts of a run of numbers are such runs
pub parts_of_range : (xs ys : List ℕ) (a n : ℕ) → xs ++ ys ≡ range_with_len a n → (left : ℕ) × (length xs + left ≡ n) × (xs ≡ range_with_len a (length xs)) × (ys ≡ range_with_len (a + length xs) left)
parts_of_range [] ys a n e = let s : a ≡ a + 0 = omega arith in (n, omega arith, refl, subst (λ b. ys ≡ range_with_len b n) s e)
parts_of_range (x ∷ xs) ys a zero e = absurd cc
parts_of_range (x ∷ xs) ys a (suc n) e =
    let first : x ≡ a = cc in
    let rest : xs ++ ys ≡ range_with_len (a + 1) n = cc in
    let more = parts_of_range xs ys (a + 1) n rest in
    let left : ℕ = more.0 in
    let count : length xs + left ≡ n = more.1 in
    let here : xs ≡ range_with_len (a + 1) (length xs) = more.2 in
    let there : ys ≡ range_with_len (a + 1 + length xs) left = more.3 in
    let s : a + 1 + length xs ≡ a + suc (length xs) = omega arith in
    (left, omega arith, cc, subst (λ b. ys ≡ range_with_len b left) s there)

-- the same where the second is one number
last_of_range : (xs : List ℕ) (x n : ℕ) → xs ++ x ∷ [] ≡ first_numbers n → (xs ≡ first_numbers (length xs)) × (x ≡ length xs)
last_of_range xs x n e =
    let both = parts_of_range xs (x ∷ []) 0 n e in
    let here : xs ≡ first_numbers (length xs) = both.2 in
    (here, one_number (0 + length xs) both.0 x both.3 ∙ omega arith)
  where
    one_number : (a left x : ℕ) → x ∷ [] ≡ range_with_len a left → x ≡ a
    one_number a zero x e = absurd cc
    one_number a (suc left) x e = cc

range_below : (a n b : ℕ) → a + n ≤ b → All (λ i. i < b) (range_with_len a n)
range_below a zero b h = All-nil (λ i. i < b)
range_below a (suc n) b h = All-cons (λ i. i < b) a (range_with_len (a + 1) n) (omega arith) (range_below (a + 1) n b (omega arith))

pub first_numbers_below : (n : ℕ) → All (λ i. i < n) (first_numbers n)
first_numbers_below n = range_below 0 n n (omega arith)

either_push : (P : ℕ → Type 0) (b : Bool) (xs : List ℕ) (i : ℕ) → All P xs → P i → All P (cond b (xs ++ i ∷ []) xs)
either_push P true xs i h here = All-push P xs i h here
either_push P false xs i h here = h

push_left : (P : ℕ → Type 0) (xs : List ℕ) (i : ℕ) → All P (xs ++ i ∷ []) → All P xs
push_left P xs i h k d lt = subst P (get_or_append_left xs (i ∷ []) d k lt) (h k d (simp length-append (omega arith)))

push_right : (P : ℕ → Type 0) (xs : List ℕ) (i : ℕ) → All P (xs ++ i ∷ []) → P i
push_right P xs i h = subst P (get_or_push xs i 0 (length xs) refl) (h (length xs) 0 (simp length-append (omega arith)))

-- what holds of all that were taken holds of those that a seat took
pub all_taken_by : (P : ℕ → Type 0) (seat : ℕ) (log : List Event) → All P (taken log) → All P (taken_by seat log)
all_taken_by P seat [] h = h
all_taken_by P seat (Push i ∷ log) h = all_taken_by P seat log h
all_taken_by P seat (Take other i ∷ log) h = either_push P (eqb other seat) (taken_by seat log) i (all_taken_by P seat log (push_left P (taken log) i h)) (push_right P (taken log) i h)
all_taken_by P seat (Empty other ∷ log) h = all_taken_by P seat log h

pub rising_push : (xs : List ℕ) (i : ℕ) → IsStrictlyIncreasing xs → All (λ j. j < i) xs → IsStrictlyIncreasing (xs ++ i ∷ [])
rising_push xs i up below k lt = cases (dec_le (k + 2) (length xs))
  where
    here : k < length xs
    here = let l = length-append xs (i ∷ []) in omega arith

    cases : Dec (k + 2 ≤ length xs) → slice_index (xs ++ i ∷ []) k < slice_index (xs ++ i ∷ []) (k + 1)
    cases (yes d) = rw (get_or_append_left xs (i ∷ []) 0 k here, get_or_append_left xs (i ∷ []) 0 (k + 1) (omega arith)) (up k (omega arith))
    cases (no d) =
        let at : length xs ≡ k + 1 = let l = length-append xs (i ∷ []) in omega arith in
        rw (get_or_append_left xs (i ∷ []) 0 k here, get_or_push xs i 0 (k + 1) at) (below k 0 here)

either_rising : (b : Bool) (xs : List ℕ) (i : ℕ) → IsStrictlyIncreasing xs → All (λ j. j < i) xs → IsStrictlyIncreasing (cond b (xs ++ i ∷ []) xs)
either_rising true xs i up below = rising_push xs i up below
either_rising false xs i up below = up

pub rising_taken_by : (seat : ℕ) (log : List Event) (k : ℕ) → taken log ≡ first_numbers k → IsStrictlyIncreasing (taken_by seat log)
rising_taken_by seat [] k e = λ j lt. absurd (omega arith)
rising_taken_by seat (Push i ∷ log) k e = rising_taken_by seat log k e
rising_taken_by seat (Take other i ∷ log) k e =
    let before = last_of_range (taken log) i k e in
    let P : ℕ → Type 0 = λ j. j < i in
    let all : All P (taken log) = subst (λ (xs : List ℕ). All P xs) (sym before.0) (subst (λ (n : ℕ). All P (first_numbers n)) before.1 (first_numbers_below i)) in
    either_rising (eqb other seat) (taken_by seat log) i (rising_taken_by seat log (length (taken log)) before.0) (all_taken_by P seat log all)
rising_taken_by seat (Empty other ∷ log) k e = rising_taken_by seat log k e

pub handed_out : (log : List Event) (rest : List ℕ) (n : ℕ) → Leaves log rest → pushed log ≡ first_numbers n → IsHandedOut n log rest
handed_out log rest n h e =
    let both = parts_of_range (taken log) rest 0 n (sym (taken_then_left log rest h) ∙ e) in
    let k : ℕ = length (taken log) in
    let count : k + both.0 ≡ n = both.1 in
    let takes : taken log ≡ first_numbers k = both.2 in
    let all : All (λ i. i < k) (taken log) = subst (λ (xs : List ℕ). All (λ i. i < k) xs) (sym takes) (first_numbers_below k) in
    record {
      k = k;
      left = both.0;
      all = count;
      takes = takes;
      rest_is = subst (λ (a : ℕ). rest ≡ range_with_len a both.0) (omega arith) both.3;
      rising = λ seat. rising_taken_by seat log k takes;
      below = λ seat. all_taken_by (λ i. i < k) seat log all;
    }
