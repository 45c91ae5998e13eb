-- Marked lists, from place to place; sums that stay at their greatest.
use Rattle.std.proofs.Common.{◌≡◌, ℕ, zero, suc, ◌+◌, ◌<◌, ◌≤◌, Bool, true, false, List, [], ◌∷◌, ◌++◌, All, map, sum_by, length, get_or, take, drop, refl, sym, ◌∙◌, ap, arith, add-one}
use Rattle.std.proofs.Math.Seq.{drop-nil}
use Rattle.std.proofs.lemmas.List.Sums.{sum_by-cons}
use Rattle.std.proofs.lemmas.List.{take_more, drop_all, map-append, length-take-le}
use Rattle.std.proofs.lemmas.List.Elements.{All-append, All-cons, All-nil}
use Rattle.lessons.specs.declared.paths.Step.{Step}
use Rattle.lessons.specs.declared.seen.Sight.{Sight}
use Rattle.lessons.specs.Lessons.{marked, unmarked, is_marked, path_seen, times_seen}

module _ {A : Type 0} where
  pub marked_push : (marks : List Bool) (xs : List A) (m : Bool) (x : A) → length marks ≡ length xs → marked (marks ++ m ∷ []) (xs ++ x ∷ []) ≡ marked marks xs ++ marked (m ∷ []) (x ∷ [])
  marked_push [] [] m x e = refl
  marked_push [] (y ∷ ys) m x e = cc
  marked_push (k ∷ ks) [] m x e = cc
  marked_push (true ∷ ks) (y ∷ ys) m x e = ap (λ (zs : List A). y ∷ zs) (marked_push ks ys m x (cc))
  marked_push (false ∷ ks) (y ∷ ys) m x e = marked_push ks ys m x (cc)

  pub unmarked_none : (marks : List Bool) → unmarked {A = A} marks [] ≡ []
  unmarked_none [] = refl
  unmarked_none (true ∷ marks) = refl
  unmarked_none (false ∷ marks) = refl

  -- an element that is marked, and one that is not
  pub pass_marked : (marks : List Bool) (xs : List A) (i : ℕ) → is_marked marks i ≡ true → i < length xs → unmarked (drop i marks) (drop i xs) ≡ unmarked (drop (suc i) marks) (drop (suc i) xs)
  pass_marked [] [] zero e h = cc
  pass_marked [] (x ∷ xs) zero e h = cc
  pass_marked (true ∷ marks) [] zero e h = absurd (omega (arith, h))
  pass_marked (true ∷ marks) (x ∷ xs) zero e h = refl
  pass_marked (false ∷ marks) xs zero e h = cc
  pass_marked [] xs (suc i) e h = cc
  pass_marked (m ∷ marks) [] (suc i) e h = absurd (omega (arith, h))
  pass_marked (m ∷ marks) (x ∷ xs) (suc i) e h = pass_marked marks xs i e (omega (arith, h))

  pub pass_unmarked : (marks : List Bool) (xs : List A) (i : ℕ) (d : A) → is_marked marks i ≡ false → i < length xs → unmarked (drop i marks) (drop i xs) ≡ get_or xs i d ∷ unmarked (drop (suc i) marks) (drop (suc i) xs)
  pass_unmarked marks [] i d e h = absurd (omega (arith, h))
  pass_unmarked [] (x ∷ xs) zero d e h = refl
  pass_unmarked (true ∷ marks) (x ∷ xs) zero d e h = cc
  pass_unmarked (false ∷ marks) (x ∷ xs) zero d e h = refl
  pass_unmarked [] (x ∷ xs) (suc i) d e h =
      let on = pass_unmarked [] xs i d e (omega (arith, h)) in
      rw (drop-nil {A = Bool} i) at on
  pass_unmarked (m ∷ marks) (x ∷ xs) (suc i) d e h = pass_unmarked marks xs i d e (omega (arith, h))

-- ---- places that are counted by a sum

pub pass : {A : Type 0} (marks : List Bool) (xs : List A) (i : ℕ) → is_marked marks i ≡ true → i < length xs → unmarked (drop i marks) (drop i xs) ≡ unmarked (drop (i + 1) marks) (drop (i + 1) xs)
pass marks xs i e h = rw add-one (pass_marked marks xs i e h)

pub count_on : (marks : List Bool) (xs : List Sight) (i : ℕ) (d : Sight) → is_marked marks i ≡ false → i < length xs →
    sum_by times_seen (unmarked (drop i marks) (drop i xs)) ≡ times_seen (get_or xs i d) + sum_by times_seen (unmarked (drop (i + 1) marks) (drop (i + 1) xs))
count_on marks xs i d e h = rw add-one (
    ap (sum_by times_seen) (pass_unmarked marks xs i d e h)
    ∙ sum_by-cons times_seen (get_or xs i d) (unmarked (drop (suc i) marks) (drop (suc i) xs)))

pub none_left : {A : Type 0} (marks : List Bool) (xs : List A) (i : ℕ) → length xs ≤ i → unmarked (drop i marks) (drop i xs) ≡ []
none_left marks xs i h = let all : drop i xs ≡ [] = drop_all i xs h in rw all (unmarked_none (drop i marks))

-- ---- paths that are had

one_had : (P : List Step → Type 0) (m : Bool) (x : Sight) → (m ≡ true → P (path_seen x)) → All P (map path_seen (marked (m ∷ []) (x ∷ [])))
one_had P true x h = All-cons P (path_seen x) [] (h refl) (All-nil P)
one_had P false x h = All-nil P

pub one_more : (P : List Step → Type 0) (marks : List Bool) (xs : List Sight) (n : ℕ) (m : Bool) (d : Sight) → length marks ≡ n → n < length xs →
    (m ≡ true → P (path_seen (get_or xs n d))) → All P (map path_seen (marked marks (take n xs))) →
    All P (map path_seen (marked (marks ++ m ∷ []) (take (n + 1) xs)))
one_more P marks xs n m d l lt h all =
    let x = get_or xs n d in
    let size : length (take n xs) ≡ n = length-take-le n xs (omega arith) in
    let same : length marks ≡ length (take n xs) = l ∙ sym size in
    rw (take_more xs n d lt, marked_push marks (take n xs) m x same, map-append path_seen (marked marks (take n xs)) (marked (m ∷ []) (x ∷ [])))
    (All-append P (map path_seen (marked marks (take n xs))) (map path_seen (marked (m ∷ []) (x ∷ []))) all (one_had P m x h))
