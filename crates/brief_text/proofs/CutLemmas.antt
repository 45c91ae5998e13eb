-- The blocks of a choice have its values, stand in ascending order, and no fewer blocks have these values.
use Rattle.std.proofs.Common.{◌≡◌, ℕ, zero, suc, ◌+◌, ◌*◌, ◌%◌, ◌^◌, ◌<◌, ◌≤◌, Bool, true, false, List, [], ◌∷◌, ◌++◌, refl, ap, sym, ◌∙◌, subst, arith}
use Rattle.std.specs.Prelude.{All, nat_lt, if◌then◌else◌}
use Rattle.std.specs.List.{count_by, list_any}
use Rattle.std.proofs.Math.Nat.{two-pow-succ, mul-mod_left}
use Rattle.std.proofs.lemmas.Bool.Decides.{nat_tests}
use Rattle.std.proofs.lemmas.List.Elements.{All-append, All-nil}
use Rattle.std.proofs.lemmas.List.Sums.{sum_by-cons}
use Rattle.std.proofs.lemmas.Nat.{pow_pos}
use Rattle.brief_text.specs.Choices.{allows, allows_all, Block, blocks_in, blocks, holds, IsBlock, Cuts, AreAscending}
use Rattle.brief_text.specs.Trees.{Choice}
use Rattle.brief_text.proofs.BlockLemmas.{block, whole_block, no_block, both_halves, once_inside, one_if}

-- ---- each value of the choice is in one block, and no other is in any

pub one_more : {A : Type 0} (test : A → Bool) (x : A) (xs : List A) (t : Bool) → test x ≡ t → count_by test (x ∷ xs) ≡ (if t then 1 else 0) + count_by test xs
one_more test x xs t e = sum_by-cons (λ y. if test y then 1 else 0) x xs ∙ ap (λ u. (if u then 1 else 0) + count_by test xs) e

pub any_counted : {A : Type 0} (test : A → Bool) (xs : List A) → list_any test xs ≡ nat_lt 0 (count_by test xs)
any_counted test [] = refl
any_counted {A} test (x ∷ xs) = by_test (test x) refl (any_counted test xs)
  where
    by_test : (t : Bool) → test x ≡ t → list_any test xs ≡ nat_lt 0 (count_by test xs) → list_any test (x ∷ xs) ≡ nat_lt 0 (count_by test (x ∷ xs))
    by_test true e others = any_first e ∙ sym (some (count_by test (x ∷ xs)) (count_by test xs) (one_more test x xs true e))
      where
        any_first : test x ≡ true → list_any test (x ∷ xs) ≡ true
        any_first h = rw h refl

        some : (n m : ℕ) → n ≡ 1 + m → nat_lt 0 n ≡ true
        some n m h = grind (arith, nat_tests)
    by_test false e others = not_first e ∙ others ∙ ap (nat_lt 0) (same (one_more test x xs false e))
      where
        same : count_by test (x ∷ xs) ≡ 0 + count_by test xs → count_by test xs ≡ count_by test (x ∷ xs)
        same h = omega (arith, h)

        not_first : test x ≡ false → list_any test (x ∷ xs) ≡ list_any test xs
        not_first h = rw h refl

pub once : (choice : Choice) (value : ℕ) → value < 256 → allows choice value ≡ true → count_by (holds value) (blocks choice) ≡ 1
once choice value below is = once_inside choice 8 0 value (omega arith, omega arith) ∙ ap (one_if choice) is

held : (choice : Choice) (value : ℕ) → value < 256 → list_any (holds value) (blocks choice) ≡ allows choice value
held choice value below =
    any_counted (holds value) (blocks choice) ∙ ap (nat_lt 0) (once_inside choice 8 0 value (omega arith, omega arith)) ∙ some (allows choice value)
  where
    some : (t : Bool) → nat_lt 0 (one_if choice t) ≡ t
    some true = refl
    some false = refl

-- ---- they are blocks

module _ (choice : Choice) where
  only : (P : Block → Type 0) (b : Block) → P b → All P (b ∷ [])
  only P b p zero d h = p
  only P b p (suc k) d h = absurd (omega arith)

  pub twice : (k first m : ℕ) → first ≡ m * 2 ^ suc k → first ≡ m * 2 * 2 ^ k
  twice k first m e = e ∙ ap (λ q. m * q) (two-pow-succ k) ∙ omega arith

  pub twice_more : (k first m : ℕ) → first ≡ m * 2 ^ suc k → first + 2 ^ k ≡ (m * 2 + 1) * 2 ^ k
  twice_more k first m e = let t = twice k first m e in omega (arith, t)

  is_block : (k first m : ℕ) → first ≡ m * 2 ^ k → first + 2 ^ k ≤ 256 → All IsBlock (block k first ∷ [])
  is_block k first m e fits = only IsBlock (block k first) (ap (λ x. x % 2 ^ k) e ∙ mul-mod_left m (2 ^ k), fits)

  are_blocks : (k first m : ℕ) → first ≡ m * 2 ^ k → first + 2 ^ k ≤ 256 → All IsBlock (blocks_in choice k first)
  are_blocks zero first m e fits = by_test (allows_all choice first 1) refl
    where
      by_test : (t : Bool) → allows_all choice first 1 ≡ t → All IsBlock (blocks_in choice 0 first)
      by_test true h = subst (All IsBlock) (sym (whole_block choice 0 first h)) (is_block 0 first m e fits)
      by_test false h = subst (All IsBlock) (sym (no_block choice first h)) (All-nil IsBlock)
  are_blocks (suc k) first m e fits =
      let p = two-pow-succ k in
      by_test (allows_all choice first (2 ^ suc k)) refl (are_blocks k first (m * 2) (twice k first m e) (omega (arith, fits, p))) (are_blocks k (first + 2 ^ k) (m * 2 + 1) (twice_more k first m e) (omega (arith, fits, p)))
    where
      by_test : (t : Bool) → allows_all choice first (2 ^ suc k) ≡ t → All IsBlock (blocks_in choice k first) → All IsBlock (blocks_in choice k (first + 2 ^ k)) → All IsBlock (blocks_in choice (suc k) first)
      by_test true h l r = subst (All IsBlock) (sym (whole_block choice (suc k) first h)) (is_block (suc k) first m e fits)
      by_test false h l r = subst (All IsBlock) (sym (both_halves choice k first h)) (All-append IsBlock (blocks_in choice k first) (blocks_in choice k (first + 2 ^ k)) l r)

pub cut : (choice : Choice) → Cuts choice (blocks choice)
cut choice = (are_blocks choice 8 0 0 (omega arith) (omega arith), held choice)

-- ---- they stand in ascending order

abbrev From : ℕ → List Block → Type 0
From least [] = Unit {0}
From least (b ∷ bs) = (least ≤ b.first) × From least bs

abbrev Below : ℕ → List Block → Type 0
Below end [] = Unit {0}
Below end (b ∷ bs) = (b.first < end) × Below end bs

from_less : (least other : ℕ) (bs : List Block) → other ≤ least → From least bs → From other bs
from_less least other [] h f = tt
from_less least other (b ∷ bs) h f = (omega (arith, h, f.0), from_less least other bs h f.1)

below_more : (end other : ℕ) (bs : List Block) → end ≤ other → Below end bs → Below other bs
below_more end other [] h f = tt
below_more end other (b ∷ bs) h f = (omega (arith, h, f.0), below_more end other bs h f.1)

from_both : (least : ℕ) (bs cs : List Block) → From least bs → From least cs → From least (bs ++ cs)
from_both least [] cs f g = g
from_both least (b ∷ bs) cs f g = (f.0, from_both least bs cs f.1 g)

below_both : (end : ℕ) (bs cs : List Block) → Below end bs → Below end cs → Below end (bs ++ cs)
below_both end [] cs f g = g
below_both end (b ∷ bs) cs f g = (f.0, below_both end bs cs f.1 g)

in_turn : (middle : ℕ) (bs cs : List Block) → AreAscending bs → Below middle bs → AreAscending cs → From middle cs → AreAscending (bs ++ cs)
in_turn middle [] cs a b c f = c
in_turn middle (x ∷ []) [] a b c f = tt
in_turn middle (x ∷ []) (y ∷ cs) a b c f = (omega (arith, b.0, f.0), c)
in_turn middle (x ∷ y ∷ bs) cs a b c f = (a.0, in_turn middle (y ∷ bs) cs a.1 b.1 c f)

record InOrder (least end : ℕ) (bs : List Block) : Type 0 where
  from : From least bs
  below : Below end bs
  ascending : AreAscending bs

in_order : (choice : Choice) (k first : ℕ) → InOrder first (first + 2 ^ k) (blocks_in choice k first)
in_order choice zero first = by_test (allows_all choice first 1) refl
  where
    by_test : (t : Bool) → allows_all choice first 1 ≡ t → InOrder first (first + 1) (blocks_in choice 0 first)
    by_test true h = subst (InOrder first (first + 1)) (sym (whole_block choice 0 first h)) record { from = (omega arith, tt); below = (omega arith, tt); ascending = tt }
    by_test false h = subst (InOrder first (first + 1)) (sym (no_block choice first h)) record { from = tt; below = tt; ascending = tt }
in_order choice (suc k) first = by_test (allows_all choice first (2 ^ suc k)) refl (in_order choice k first) (in_order choice k (first + 2 ^ k))
  where
    by_test : (t : Bool) → allows_all choice first (2 ^ suc k) ≡ t → InOrder first (first + 2 ^ k) (blocks_in choice k first) → InOrder (first + 2 ^ k) (first + 2 ^ k + 2 ^ k) (blocks_in choice k (first + 2 ^ k))
        → InOrder first (first + 2 ^ suc k) (blocks_in choice (suc k) first)
    by_test true h l r =
        let p = pow_pos (suc k) in
        subst (InOrder first (first + 2 ^ suc k)) (sym (whole_block choice (suc k) first h)) record { from = (omega arith, tt); below = (omega (arith, p), tt); ascending = tt }
    by_test false h l r =
        let p = two-pow-succ k in
        let left = blocks_in choice k first in
        let right = blocks_in choice k (first + 2 ^ k) in
        subst (InOrder first (first + 2 ^ suc k)) (sym (both_halves choice k first h))
        record {
          from = from_both first left right l.from (from_less (first + 2 ^ k) first right (omega arith) r.from);
          below = below_both (first + 2 ^ suc k) left right (below_more (first + 2 ^ k) (first + 2 ^ suc k) left (omega (arith, p)) l.below) (below_more (first + 2 ^ k + 2 ^ k) (first + 2 ^ suc k) right (omega (arith, p)) r.below);
          ascending = in_turn (first + 2 ^ k) left right l.ascending l.below r.ascending r.from;
        }

pub ascending : (choice : Choice) → AreAscending (blocks choice)
ascending choice = (in_order choice 8 0).ascending
