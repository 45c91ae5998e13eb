-- The word of a slot: how large it gets, and what a put adds.
use Rattle.std.proofs.Common.{◌≡◌, ◌≢◌, ℕ, zero, suc, ◌+◌, ◌*◌, ◌^◌, ◌<◌, ◌≤◌, inl, inr, true, false, ◌==◌, Option, Some, None, List, [], ◌∷◌, ◌++◌, length, slice_get, get_or, refl, ap, sym, ◌∙◌, subst, arith}
use Rattle.std.proofs.lemmas.Bool.Decides.{nat_tests}
use Rattle.std.proofs.lemmas.List.Elements.{All-from_get_or}
use Rattle.std.proofs.lemmas.List.Sums.{sum_by-cons, sum_by-le}
use Rattle.std.specs.List.{AllPairs, sum_by}
use Rattle.plan_core.specs.Lawful.{In}
use Rattle.plays.specs.declared.puts.Put.{Put}
use Rattle.plays.specs.declared.puts.Put.TheVariants.{Drive, Listen, Again, Stop, Claim}
use Rattle.plays.specs.Games.{those}
use Rattle.plays.specs.Plays.{Puts, with_put}
use Rattle.plays.specs.Words.{contribution, contribution_of, word_of}
use Rattle.plays.proofs.PlayLemmas.{put_here, put_there, same_or_other, or_true, or_right}

-- ---- how large it gets

pub contribution_small : (x : Put) → contribution x < 2 ^ 51
contribution_small (Drive true) = omega arith
contribution_small (Drive false) = omega arith
contribution_small Listen = omega arith
contribution_small Again = omega arith
contribution_small Stop = omega arith
contribution_small Claim = omega arith

contribution_of_small : (o : Option Put) → contribution_of o ≤ 2251799813685247
contribution_of_small None = omega arith
contribution_of_small (Some x) = omega (arith, contribution_small x)

-- a sum of terms that are no more than m
sum_small : (f : ℕ → ℕ) (m : ℕ) → ((p : ℕ) → f p ≤ m) → (xs : List ℕ) → sum_by f xs ≤ length xs * m
sum_small f m h xs = sum_by-le f m xs (All-from_get_or (λ p. f p ≤ m) xs 0 (λ i lt. h (get_or xs i 0)))

pub word_small : (xs : List ℕ) (puts : Puts) (k : ℕ) → length xs ≤ 64 → word_of xs puts k < 2 ^ 57
word_small xs puts k few =
    let s : word_of xs puts k ≤ length xs * 2251799813685247 = sum_small (λ p. contribution_of (slice_get (puts p) k)) 2251799813685247 (λ p. contribution_of_small (slice_get (puts p) k)) xs in
    omega arith

-- ---- what a put adds

pub word_none : (xs : List ℕ) (k : ℕ) → word_of xs (λ p. []) k ≡ 0
word_none [] k = refl
word_none (y ∷ ys) k = omega (arith, sum_by-cons (λ (p : ℕ). contribution_of (slice_get [] k)) y ys, word_none ys k)

get_past : (l : List Put) (k : ℕ) → length l ≤ k → slice_get l k ≡ None
get_past [] k h = refl
get_past (y ∷ l) zero h = absurd (omega arith)
get_past (y ∷ l) (suc k) h = get_past l k (omega arith)

get_seam : (l : List Put) (x : Put) → slice_get (l ++ x ∷ []) (length l) ≡ Some x
get_seam [] x = refl
get_seam (y ∷ l) x = get_seam l x

get_elsewhere : (l : List Put) (x : Put) (k : ℕ) → length l ≢ k → slice_get (l ++ x ∷ []) k ≡ slice_get l k
get_elsewhere [] x zero n = absurd (n refl)
get_elsewhere [] x (suc k) n = refl
get_elsewhere (y ∷ l) x zero n = refl
get_elsewhere (y ∷ l) x (suc k) n = get_elsewhere l x k (λ e. n (omega arith))

pub first_in : (y : ℕ) (ys : List ℕ) → In y (those (y ∷ ys))
first_in y ys = grind (arith, nat_tests)

pub later_in : (y : ℕ) (ys : List ℕ) (q : ℕ) → In q (those ys) → In q (those (y ∷ ys))
later_in y ys q i = or_right (y == q) (those ys q) i

-- where two play alike in this slot, their words are one
word_same : (xs : List ℕ) (puts after : Puts) (k : ℕ) → ((q : ℕ) → In q (those xs) → slice_get (after q) k ≡ slice_get (puts q) k) → word_of xs after k ≡ word_of xs puts k
word_same [] puts after k h = refl
word_same (y ∷ ys) puts after k h =
    let first : contribution_of (slice_get (after y) k) ≡ contribution_of (slice_get (puts y) k) = ap contribution_of (h y (first_in y ys)) in
    let rest : word_of ys after k ≡ word_of ys puts k = word_same ys puts after k (λ q i. h q (later_in y ys q i)) in
    omega (arith, first, rest, sum_by-cons (λ (p : ℕ). contribution_of (slice_get (after p) k)) y ys, sum_by-cons (λ (p : ℕ). contribution_of (slice_get (puts p) k)) y ys)

pub word_put_elsewhere : (xs : List ℕ) (puts : Puts) (p k : ℕ) (x : Put) → length (puts p) ≢ k → word_of xs (with_put puts p x) k ≡ word_of xs puts k
word_put_elsewhere xs puts p k x n =
    word_same xs puts (with_put puts p x) k (λ q i. elim (same_or_other q p) [
      | inl e ↦ subst (λ (r : ℕ). slice_get (with_put puts p x r) k ≡ slice_get (puts r) k) (sym e) (ap (λ (l : List Put). slice_get l k) (put_here puts p x) ∙ get_elsewhere (puts p) x k n)
      | inr other ↦ ap (λ (l : List Put). slice_get l k) (put_there puts p q x other)
    ])

-- where a listed number stands
place_of : (ys : List ℕ) (p : ℕ) → In p (those ys) → (j : ℕ) × (j < length ys) × (get_or ys j 0 ≡ p)
place_of [] p i = cc
place_of (y ∷ ys) p i = elim (or_true (y == p) (those ys p) i) [
  | inl same ↦ let e : y ≡ p = grind (arith, nat_tests) in (0, omega arith, e)
  | inr later ↦ let r = place_of ys p later in (suc r.0, omega (arith, r.1), r.2)
]

-- one that stands in front stands nowhere else
not_again : (y : ℕ) (ys : List ℕ) → AllPairs ◌≢◌ (y ∷ ys) → (q : ℕ) → In q (those ys) → q ≢ y
not_again y ys once q i e = let r = place_of ys q i in once 0 (suc r.0) 0 (omega arith) (omega (arith, r.1)) (sym e ∙ sym r.2)

once_later : (y : ℕ) (ys : List ℕ) → AllPairs ◌≢◌ (y ∷ ys) → AllPairs ◌≢◌ ys
once_later y ys once i j d lt small = once (suc i) (suc j) d (omega arith) (omega arith)

pub word_put_here : (xs : List ℕ) (puts : Puts) (p k : ℕ) (x : Put) → AllPairs ◌≢◌ xs → In p (those xs) → length (puts p) ≡ k → word_of xs (with_put puts p x) k ≡ word_of xs puts k + contribution x
word_put_here [] puts p k x once i e = cc
word_put_here (y ∷ ys) puts p k x once i e =
    let after : Puts = with_put puts p x in
    let sum_before = sum_by-cons (λ (q : ℕ). contribution_of (slice_get (puts q) k)) y ys in
    let sum_after = sum_by-cons (λ (q : ℕ). contribution_of (slice_get (after q) k)) y ys in
    elim (same_or_other y p) [
      | inl same ↦
          let none : contribution_of (slice_get (puts y) k) ≡ 0 = ap contribution_of (ap (λ (q : ℕ). slice_get (puts q) k) same ∙ get_past (puts p) k (omega arith)) in
          let now : contribution_of (slice_get (after y) k) ≡ contribution x = ap contribution_of (ap (λ (q : ℕ). slice_get (after q) k) same ∙ ap (λ (l : List Put). slice_get l k) (put_here puts p x) ∙ subst (λ (n : ℕ). slice_get (puts p ++ x ∷ []) n ≡ Some x) e (get_seam (puts p) x)) in
          let rest : word_of ys after k ≡ word_of ys puts k = word_same ys puts after k (λ q j. ap (λ (l : List Put). slice_get l k) (put_there puts p q x (λ d. not_again y ys once q j (d ∙ sym same)))) in
          omega (arith, sum_before, sum_after, none, now, rest)
      | inr other ↦
          let first : contribution_of (slice_get (after y) k) ≡ contribution_of (slice_get (puts y) k) = ap contribution_of (ap (λ (l : List Put). slice_get l k) (put_there puts p y x other)) in
          let later : In p (those ys) = elim (or_true (y == p) (those ys p) i) [ inl same ↦ absurd (other (let d : y ≡ p = grind (arith, nat_tests) in d)) | inr there ↦ there ] in
          let rest = word_put_here ys puts p k x (once_later y ys once) later e in
          omega (arith, sum_before, sum_after, first, rest)
    ]
