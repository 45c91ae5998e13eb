-- The blocks that a choice is cut into: one step of the cut, how many there are, and which values they have.
use Rattle.std.proofs.Common.{◌≡◌, ℕ, zero, suc, ◌+◌, ◌^◌, ◌<◌, ◌≤◌, ◌⊎◌, Bool, true, false, [], ◌∷◌, ◌++◌, Some, length, refl, ap, sym, ◌∙◌, subst, arith, inl, inr}
use Rattle.std.specs.Prelude.{◌&&◌, nat_le, nat_lt, if◌then◌else◌}
use Rattle.std.specs.List.{count_by}
use Rattle.std.proofs.Math.Nat.{two-pow-succ}
use Rattle.std.proofs.lemmas.Bool.Decides.{nat_tests}
use Rattle.std.proofs.lemmas.List.{length-append}
use Rattle.std.proofs.lemmas.List.Sums.{count_by-le-length, sum_by-append}
use Rattle.std.proofs.lemmas.Nat.{pow_pos}
use Rattle.brief_text.specs.Choices.{allows, allows_all, Block, blocks_in, blocks, numbers, is_choice, holds}
use Rattle.brief_text.specs.Trees.{Choice, span, all_but}
use Rattle.brief_text.specs.Words.{is_range}
use Rattle.brief_text.specs.declared.syntax.Lengths.{Lengths}

abbrev pub block : ℕ → ℕ → Block
block power first = record { power = power; first = first }

-- ---- values that are all among them

module _ (first : ℕ) where
  -- in particular each
  pub each_allowed : (c : Choice) (count value : ℕ) → allows_all c first count ≡ true → first ≤ value → value < first + count → allows c value ≡ true
  each_allowed (span least greatest) count value e from below = grind (arith, nat_tests)
  each_allowed (all_but least greatest) count value e from below = grind (arith, nat_tests)

  -- a single one
  pub one_allowed : (c : Choice) → allows_all c first 1 ≡ allows c first
  one_allowed (span least greatest) = grind (arith, nat_tests)
  one_allowed (all_but least greatest) = grind (arith, nat_tests)

  -- two of them
  two_allowed : (c : Choice) → is_choice c ≡ true → allows_all c first 1 ≡ true → allows_all c (first + 1) 1 ≡ true → allows_all c first 2 ≡ true
  two_allowed (span least greatest) is e f = grind (arith, nat_tests)
  two_allowed (all_but least greatest) is e f = grind (arith, nat_tests)

module _ (choice : Choice) where
  -- ---- one step

  pub whole_block : (power first : ℕ) → allows_all choice first (2 ^ power) ≡ true → blocks_in choice power first ≡ block power first ∷ []
  unfolding blocks_in
  whole_block zero first e = rw e refl
  whole_block (suc k) first e = rw e refl

  pub no_block : (first : ℕ) → allows_all choice first 1 ≡ false → blocks_in choice 0 first ≡ []
  unfolding blocks_in
  no_block first e = rw e refl

  pub both_halves : (k first : ℕ) → allows_all choice first (2 ^ suc k) ≡ false → blocks_in choice (suc k) first ≡ blocks_in choice k first ++ blocks_in choice k (first + 2 ^ k)
  unfolding blocks_in
  both_halves k first e = rw e refl

  -- ---- how many there are

  pub length_halves : (k first : ℕ) → allows_all choice first (2 ^ suc k) ≡ false → length (blocks_in choice (suc k) first) ≡ length (blocks_in choice k first) + length (blocks_in choice k (first + 2 ^ k))
  length_halves k first e = ap length (both_halves k first e) ∙ length-append (blocks_in choice k first) (blocks_in choice k (first + 2 ^ k))

  pub few : (k first : ℕ) → length (blocks_in choice k first) ≤ 2 ^ k
  few zero first = by_test (allows_all choice first 1) refl
    where
      by_test : (t : Bool) → allows_all choice first 1 ≡ t → length (blocks_in choice 0 first) ≤ 1
      by_test true e = let l = ap length (whole_block 0 first e) in omega (arith, l)
      by_test false e = let l = ap length (no_block first e) in omega (arith, l)
  few (suc k) first = by_test (allows_all choice first (2 ^ suc k)) refl (few k first) (few k (first + 2 ^ k))
    where
      by_test : (t : Bool) → allows_all choice first (2 ^ suc k) ≡ t → length (blocks_in choice k first) ≤ 2 ^ k → length (blocks_in choice k (first + 2 ^ k)) ≤ 2 ^ k → length (blocks_in choice (suc k) first) ≤ 2 ^ suc k
      by_test true e a b = let l = ap length (whole_block (suc k) first e) in let p = pow_pos (suc k) in omega (arith, l, p)
      by_test false e a b = let l = length_halves k first e in let p = two-pow-succ k in omega (arith, l, a, b, p)

  -- of two values that are chosen both are one block
  fewer : (k first : ℕ) → is_choice choice ≡ true → length (blocks_in choice (suc k) first) ≤ 2 ^ k
  fewer zero first is = by_test (allows_all choice first 2) refl
    where
      by_tests : (a b : Bool) → allows_all choice first 1 ≡ a → allows_all choice (first + 1) 1 ≡ b → allows_all choice first 2 ≡ false → length (blocks_in choice 0 first) + length (blocks_in choice 0 (first + 1)) ≤ 1
      by_tests true true e f h = absurd (let g = two_allowed first choice is e f in cc)
      by_tests true false e f h = let l = ap length (whole_block 0 first e) in let m = ap length (no_block (first + 1) f) in omega (arith, l, m)
      by_tests false b e f h = let l = ap length (no_block first e) in let m = few 0 (first + 1) in omega (arith, l, m)

      by_test : (t : Bool) → allows_all choice first 2 ≡ t → length (blocks_in choice 1 first) ≤ 1
      by_test true e = let l = ap length (whole_block 1 first e) in omega (arith, l)
      by_test false e = let l = length_halves 0 first e in let s = by_tests (allows_all choice first 1) (allows_all choice (first + 1) 1) refl refl e in omega (arith, l, s)
  fewer (suc k) first is = by_test (allows_all choice first (2 ^ suc (suc k))) refl (fewer k first is) (fewer k (first + 2 ^ suc k) is)
    where
      by_test : (t : Bool) → allows_all choice first (2 ^ suc (suc k)) ≡ t → length (blocks_in choice (suc k) first) ≤ 2 ^ k → length (blocks_in choice (suc k) (first + 2 ^ suc k)) ≤ 2 ^ k → length (blocks_in choice (suc (suc k)) first) ≤ 2 ^ suc k
      by_test true e a b = let l = ap length (whole_block (suc (suc k)) first e) in let p = pow_pos (suc k) in omega (arith, l, p)
      by_test false e a b = let l = length_halves (suc k) first e in let p = two-pow-succ k in omega (arith, l, a, b, p)

  -- ---- which values they have

  abbrev Inside : ℕ → ℕ → ℕ → Type 0
  Inside k first value = (first ≤ value) × (value < first + 2 ^ k)

  abbrev Outside : ℕ → ℕ → ℕ → Type 0
  Outside k first value = (value < first) ⊎ (first + 2 ^ k ≤ value)

  abbrev how_many : ℕ → ℕ → ℕ → ℕ
  how_many k first value = count_by (holds value) (blocks_in choice k first)

  abbrev pub one_if : Bool → ℕ
  one_if t = if t then 1 else 0

  alone : (value power first : ℕ) → count_by (holds value) (block power first ∷ []) ≡ one_if (nat_le first value && nat_lt value (first + 2 ^ power))
  alone value power first = by_test (nat_le first value && nat_lt value (first + 2 ^ power)) refl
    where
      by_test : (t : Bool) → (nat_le first value && nat_lt value (first + 2 ^ power)) ≡ t → count_by (holds value) (block power first ∷ []) ≡ one_if t
      by_test true e = rw e refl
      by_test false e = rw e refl

  within : (value power first : ℕ) → Inside power first value → (nat_le first value && nat_lt value (first + 2 ^ power)) ≡ true
  within value power first i = let a = i.0 in let b = i.1 in grind (arith, nat_tests)

  beside : (value power first : ℕ) → Outside power first value → (nat_le first value && nat_lt value (first + 2 ^ power)) ≡ false
  beside value power first (inl o) = grind (arith, nat_tests)
  beside value power first (inr o) = grind (arith, nat_tests)

  count_halves : (k first value : ℕ) → allows_all choice first (2 ^ suc k) ≡ false → how_many (suc k) first value ≡ how_many k first value + how_many k (first + 2 ^ k) value
  count_halves k first value e =
      ap (count_by (holds value)) (both_halves k first e) ∙ sum_by-append (λ b. one_if (holds value b)) (blocks_in choice k first) (blocks_in choice k (first + 2 ^ k))

  pub none_outside : (k first value : ℕ) → Outside k first value → how_many k first value ≡ 0
  none_outside zero first value o = by_test (allows_all choice first 1) refl
    where
      by_test : (t : Bool) → allows_all choice first 1 ≡ t → how_many 0 first value ≡ 0
      by_test true e = ap (count_by (holds value)) (whole_block 0 first e) ∙ alone value 0 first ∙ ap one_if (beside value 0 first o)
      by_test false e = ap (count_by (holds value)) (no_block first e)
  none_outside (suc k) first value o = by_test (allows_all choice first (2 ^ suc k)) refl (none_outside k first value (left o)) (none_outside k (first + 2 ^ k) value (right o))
    where
      left : Outside (suc k) first value → Outside k first value
      left (inl h) = inl h
      left (inr h) = let p = two-pow-succ k in inr (omega (arith, h, p))

      right : Outside (suc k) first value → Outside k (first + 2 ^ k) value
      right (inl h) = inl (omega (arith, h))
      right (inr h) = let p = two-pow-succ k in inr (omega (arith, h, p))

      by_test : (t : Bool) → allows_all choice first (2 ^ suc k) ≡ t → how_many k first value ≡ 0 → how_many k (first + 2 ^ k) value ≡ 0 → how_many (suc k) first value ≡ 0
      by_test true e a b = ap (count_by (holds value)) (whole_block (suc k) first e) ∙ alone value (suc k) first ∙ ap one_if (beside value (suc k) first o)
      by_test false e a b = let c = count_halves k first value e in omega (arith, c, a, b)

  pub once_inside : (k first value : ℕ) → Inside k first value → how_many k first value ≡ one_if (allows choice value)
  once_inside zero first value i = by_test (allows_all choice first 1) refl
    where
      same : first ≡ value
      same = omega (arith, i.0, i.1)

      by_test : (t : Bool) → allows_all choice first 1 ≡ t → how_many 0 first value ≡ one_if (allows choice value)
      by_test true e = ap (count_by (holds value)) (whole_block 0 first e) ∙ alone value 0 first ∙ ap one_if (within value 0 first i) ∙ ap one_if (sym (each_allowed first choice 1 value e i.0 i.1))
      by_test false e = ap (count_by (holds value)) (no_block first e) ∙ ap one_if (sym e ∙ one_allowed first choice ∙ ap (allows choice) same)
  once_inside (suc k) first value i = by_test (allows_all choice first (2 ^ suc k)) refl (λ j. once_inside k first value j) (λ j. once_inside k (first + 2 ^ k) value j)
    where
      by_side : (Inside k first value → how_many k first value ≡ one_if (allows choice value)) → (Inside k (first + 2 ^ k) value → how_many k (first + 2 ^ k) value ≡ one_if (allows choice value))
          → (t : Bool) → nat_lt value (first + 2 ^ k) ≡ t → how_many k first value + how_many k (first + 2 ^ k) value ≡ one_if (allows choice value)
      by_side l r true h =
          let below : value < first + 2 ^ k = grind (arith, nat_tests) in
          let a = l (i.0, below) in let b = none_outside k (first + 2 ^ k) value (inl below) in
          omega (arith, a, b)
      by_side l r false h =
          let from : first + 2 ^ k ≤ value = grind (arith, nat_tests) in
          let p = two-pow-succ k in
          let a = none_outside k first value (inr from) in let b = r (from, omega (arith, i.1, p)) in
          omega (arith, a, b)

      by_test : (t : Bool) → allows_all choice first (2 ^ suc k) ≡ t → (Inside k first value → how_many k first value ≡ one_if (allows choice value)) → (Inside k (first + 2 ^ k) value → how_many k (first + 2 ^ k) value ≡ one_if (allows choice value))
          → how_many (suc k) first value ≡ one_if (allows choice value)
      by_test true e l r = ap (count_by (holds value)) (whole_block (suc k) first e) ∙ alone value (suc k) first ∙ ap one_if (within value (suc k) first i) ∙ ap one_if (sym (each_allowed first choice (2 ^ suc k) value e i.0 i.1))
      by_test false e l r = count_halves k first value e ∙ by_side l r (nat_lt value (first + 2 ^ k)) refl

-- ---- the numbers of the blocks are those of a family

some_value : (choice : Choice) → is_choice choice ≡ true → (value : ℕ) × (value < 256) × (allows choice value ≡ true)
some_value (span least greatest) is = (least, grind (arith, nat_tests), grind (arith, nat_tests))
some_value (all_but zero greatest) is = (suc greatest, grind (arith, nat_tests), grind (arith, nat_tests))
some_value (all_but (suc least) greatest) is = (0, omega arith, grind (arith, nat_tests))

pub some_blocks : (choice : Choice) → is_choice choice ≡ true → 1 ≤ length (blocks choice)
some_blocks choice is =
    let v = some_value choice is in
    let once = once_inside choice 8 0 v.0 (omega arith, omega (arith, v.1)) ∙ ap (one_if choice) v.2 in
    let most = count_by-le-length (holds v.0) (blocks choice) in
    omega (arith, once, most)

pub few_blocks : (choice : Choice) → is_choice choice ≡ true → length (blocks choice) ≤ 128
few_blocks choice is = fewer choice 7 0 is

pub choice_range : (choice : Choice) (range : Lengths) → is_choice choice ≡ true → Some range ≡ Some (numbers choice) → is_range range.least range.greatest ≡ true
choice_range choice range is whole =
    subst (λ (r : Lengths). is_range r.least r.greatest ≡ true) (sym (same range (numbers choice) whole)) (ranges (length (blocks choice)) (some_blocks choice is) (few_blocks choice is))
  where
    same : (a b : Lengths) → Some a ≡ Some b → a ≡ b
    same a b e = cc

    ranges : (n : ℕ) → 1 ≤ n → n ≤ 128 → is_range 1 n ≡ true
    ranges n some most = grind (arith, nat_tests)
