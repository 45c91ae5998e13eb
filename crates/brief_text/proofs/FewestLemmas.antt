-- No fewer blocks have the values of a choice.
use Rattle.std.proofs.Common.{◌≡◌, ℕ, zero, suc, ◌+◌, ◌-◌, ◌*◌, ◌/◌, ◌^◌, ◌<◌, ◌≤◌, Bool, true, false, List, [], ◌∷◌, length, slice_index_or, refl, ap, sym, ◌∙◌, subst, arith}
use Rattle.std.specs.Prelude.{All, ◌&&◌, nat_le, nat_lt, if◌then◌else◌}
use Rattle.std.specs.List.{count_by}
use Rattle.std.proofs.Math.Nat.{two-pow-succ, lt_of_mul-lt-mul_right, mul-le-mul}
use Rattle.std.proofs.lemmas.Bool.Decides.{nat_tests}
use Rattle.std.proofs.lemmas.List.Folds.{Any-from_list_any, list_any_at}
use Rattle.std.proofs.lemmas.List.Sums.{count_by-le-length}
use Rattle.std.proofs.lemmas.Nat.{pow_pos, pow_below, pow-add, div-add-mod'}
use Rattle.brief_text.specs.Choices.{allows, allows_all, Block, blocks_in, blocks, is_choice, holds, IsBlock, Cuts}
use Rattle.brief_text.specs.Trees.{Choice, span, all_but}
use Rattle.brief_text.proofs.BlockLemmas.{each_allowed, whole_block, no_block, length_halves}
use Rattle.brief_text.proofs.CutLemmas.{one_more, any_counted, twice, twice_more}

-- ---- what is no block of the choice has a value that is none of the choice

missing : (choice : Choice) (first count : ℕ) → is_choice choice ≡ true → 0 < count → allows_all choice first count ≡ false → (value : ℕ) × (first ≤ value) × (value < first + count) × (allows choice value ≡ false)
missing (span least greatest) first count is some e = by_test (nat_lt first least) refl
  where
    by_test : (t : Bool) → nat_lt first least ≡ t → (value : ℕ) × (first ≤ value) × (value < first + count) × (allows (span least greatest) value ≡ false)
    by_test true h = (first, omega arith, omega arith, grind (arith, nat_tests))
    by_test false h = (first + count - 1, omega arith, omega arith, grind (arith, nat_tests))
missing (all_but least greatest) first count is some e = by_test (nat_lt first least) refl
  where
    by_test : (t : Bool) → nat_lt first least ≡ t → (value : ℕ) × (first ≤ value) × (value < first + count) × (allows (all_but least greatest) value ≡ false)
    by_test true h = (least, grind (arith, nat_tests), grind (arith, nat_tests), grind (arith, nat_tests))
    by_test false h = (first, omega arith, omega arith, grind (arith, nat_tests))

-- ---- blocks lie in one another, or beside one another

-- this block is one of 2^k values from this one on
abbrev inside : ℕ → ℕ → Block → Bool
inside k first b = nat_le b.power k && nat_le first b.first && nat_lt b.first (first + 2 ^ k)

-- the multiple of its size at which a block begins
begins : (b : Block) → IsBlock b → (c : ℕ) × (b.first ≡ c * 2 ^ b.power)
begins b is = (b.first / 2 ^ b.power, let d = div-add-mod' b.first (2 ^ b.power) in omega (arith, d, is.0))

-- multiples of m
not_before : (m a c x : ℕ) → c * m ≤ x → x < a * m + m → c * m ≤ a * m
not_before m a c x h l =
    let less : c < suc a = lt_of_mul-lt-mul_right m (omega (arith, h, l)) in
    mul-le-mul (omega (arith, less)) (omega arith)

not_after : (m a e x : ℕ) → a * m ≤ x → x < e * m → a * m + m ≤ e * m
not_after m a e x h l =
    let less : a < e = lt_of_mul-lt-mul_right m (omega (arith, h, l)) in
    let product : suc a * m ≤ e * m = mul-le-mul (omega (arith, less)) (omega arith) in
    omega (arith, product)

holding : (x : ℕ) (b : Block) → holds x b ≡ true → (b.first ≤ x) × (x < b.first + 2 ^ b.power)
holding x b h = (grind (arith, nat_tests), grind (arith, nat_tests))

-- a block of 2^k values and more that has one of these has all
has_all : (b : Block) → IsBlock b → (k m first x value : ℕ) → first ≡ m * 2 ^ k → k ≤ b.power → holds x b ≡ true → first ≤ x → x < first + 2 ^ k → first ≤ value → value < first + 2 ^ k → holds value b ≡ true
has_all b is k m first x value e long has from below low high =
    let c = begins b is in
    let d = b.power - k in
    let size : 2 ^ b.power ≡ 2 ^ d * 2 ^ k = ap (λ n. 2 ^ n) (omega arith) ∙ pow-add 2 d k in
    let start : b.first ≡ c.0 * 2 ^ d * 2 ^ k = c.1 ∙ ap (λ n. c.0 * n) size ∙ omega arith in
    let end : b.first + 2 ^ b.power ≡ (c.0 * 2 ^ d + 2 ^ d) * 2 ^ k = omega (arith, start, size) in
    let h = holding x b has in
    let left = not_before (2 ^ k) m (c.0 * 2 ^ d) x (omega (arith, h.0, start)) (omega (arith, below, e)) in
    let right = not_after (2 ^ k) m (c.0 * 2 ^ d + 2 ^ d) x (omega (arith, from, e)) (omega (arith, h.1, end)) in
    let first_too : b.first ≤ value = omega (arith, left, start, e, low) in
    let last_too : value < b.first + 2 ^ b.power = omega (arith, right, end, e, high) in
    grind (arith, nat_tests)

-- a shorter one that has the first of them is one of them
is_inside : (b : Block) → IsBlock b → (k m first : ℕ) → first ≡ m * 2 ^ k → b.power ≤ k → holds first b ≡ true → inside k first b ≡ true
is_inside b is k m first e short has =
    let c = begins b is in
    let d = k - b.power in
    let size : 2 ^ k ≡ 2 ^ d * 2 ^ b.power = ap (λ n. 2 ^ n) (omega arith) ∙ pow-add 2 d b.power in
    let start : first ≡ m * 2 ^ d * 2 ^ b.power = e ∙ ap (λ n. m * n) size ∙ omega arith in
    let h = holding first b has in
    let same : first ≤ b.first = (let l = not_before (2 ^ b.power) c.0 (m * 2 ^ d) first (omega (arith, start)) (omega (arith, h.1, c.1)) in omega (arith, l, start, c.1)) in
    let p = pow_pos k in
    let high : b.first < first + 2 ^ k = omega (arith, h.0, p) in
    grind (arith, nat_tests)

-- ---- how many of the blocks are needed

abbrev one_if : Bool → ℕ
one_if t = if t then 1 else 0

module _ (k first : ℕ) (b : Block) where
  halves_of_one : one_if (inside k first b) + one_if (inside k (first + 2 ^ k) b) ≤ one_if (inside (suc k) first b)
  halves_of_one = by_tests (inside k first b) (inside k (first + 2 ^ k) b) (inside (suc k) first b) refl refl refl
    where
      size : 2 ^ suc k ≡ 2 ^ k + 2 ^ k
      size = two-pow-succ k

      in_left : inside k first b ≡ true → inside (suc k) first b ≡ true
      in_left e = let p = size in grind (arith, nat_tests)

      in_right : inside k (first + 2 ^ k) b ≡ true → inside (suc k) first b ≡ true
      in_right e = let p = size in grind (arith, nat_tests)

      in_one : inside k first b ≡ true → inside k (first + 2 ^ k) b ≡ true → ⊥
      in_one e f = grind (arith, nat_tests)

      by_tests : (l r w : Bool) → inside k first b ≡ l → inside k (first + 2 ^ k) b ≡ r → inside (suc k) first b ≡ w → one_if l + one_if r ≤ one_if w
      by_tests false false w e f h = omega arith
      by_tests true false true e f h = omega arith
      by_tests false true true e f h = omega arith
      by_tests true true w e f h = absurd (in_one e f)
      by_tests true false false e f h = let g = in_left e in absurd cc
      by_tests false true false e f h = let g = in_right f in absurd cc

halves_beside : (k first : ℕ) (bs : List Block) → count_by (inside k first) bs + count_by (inside k (first + 2 ^ k)) bs ≤ count_by (inside (suc k) first) bs
halves_beside k first [] = omega arith
halves_beside k first (b ∷ bs) =
    let others = halves_beside k first bs in
    let one = halves_of_one k first b in
    let l = one_more (inside k first) b bs (inside k first b) refl in
    let r = one_more (inside k (first + 2 ^ k)) b bs (inside k (first + 2 ^ k) b) refl in
    let w = one_more (inside (suc k) first) b bs (inside (suc k) first b) refl in
    omega (arith, others, one, l, r, w)

module _ (choice : Choice) (is : is_choice choice ≡ true) (others : List Block) (cut : Cuts choice others) where
  -- no longer one has the first of these values
  abbrev NoLonger : ℕ → ℕ → Type 0
  NoLonger k first = All (λ b. k < b.power → holds first b ≡ true → ⊥) others

  one_inside : (k first m : ℕ) → first ≡ m * 2 ^ k → first < 256 → NoLonger k first → allows choice first ≡ true → 1 ≤ count_by (inside k first) others
  one_inside k first m e small none chosen =
      let any = Any-from_list_any (holds first) others (cut.1 first small ∙ chosen) in
      by_block any.0 any.1 any.2 any.3 any.4
    where
      by_block : (i : ℕ) (b : Block) → i < length others → slice_index_or others i b ≡ b → holds first b ≡ true → 1 ≤ count_by (inside k first) others
      by_block i b short at has =
          let is_block : IsBlock b = subst IsBlock at (cut.0 i b short) in
          let longer : k < b.power → ⊥ = λ l. subst (λ c. k < c.power → holds first c ≡ true → ⊥) at (none i b short) l has in
          let in_it = is_inside b is_block k m first e (not_longer b.power longer) has in
          let found = list_any_at (inside k first) others i b short (subst (λ c. inside k first c ≡ true) (sym at) in_it) in
          let counted = sym (any_counted (inside k first) others) ∙ found in
          grind (arith, nat_tests)
        where
          not_longer : (p : ℕ) → (k < p → ⊥) → p ≤ k
          not_longer p f = by_test (nat_lt k p) refl
            where
              by_test : (t : Bool) → nat_lt k p ≡ t → p ≤ k
              by_test true h = absurd (f (grind (arith, nat_tests)))
              by_test false h = grind (arith, nat_tests)

  -- where not all of these are chosen, no block that has one of them has them all
  none_in_half : (k first m x : ℕ) → first ≡ m * 2 ^ suc k → first + 2 ^ suc k ≤ 256 → allows_all choice first (2 ^ suc k) ≡ false → first ≤ x → x < first + 2 ^ suc k → NoLonger k x
  none_in_half k first m x e fits not_all from below i d short long has =
      let v = missing choice first (2 ^ suc k) is (pow_pos (suc k)) not_all in
      let whole = has_all (slice_index_or others i d) (cut.0 i d short) (suc k) m first x v.0 e (omega (arith, long)) has from below v.1 v.2 in
      let found = list_any_at (holds v.0) others i d short whole in
      let chosen = sym (cut.1 v.0 (omega (arith, v.2, fits))) ∙ found in
      let not_chosen = v.3 in
      cc

  needed : (k first m : ℕ) → first ≡ m * 2 ^ k → first + 2 ^ k ≤ 256 → NoLonger k first → length (blocks_in choice k first) ≤ count_by (inside k first) others
  needed zero first m e fits none = by_test (allows_all choice first 1) refl
    where
      by_test : (t : Bool) → allows_all choice first 1 ≡ t → length (blocks_in choice 0 first) ≤ count_by (inside 0 first) others
      by_test true h =
          let l = ap length (whole_block choice 0 first h) in
          let one = one_inside 0 first m e (omega (arith, fits)) none (each_allowed first choice 1 first h (omega arith) (omega arith)) in
          omega (arith, l, one)
      by_test false h = let l = ap length (no_block choice first h) in omega (arith, l)
  needed (suc k) first m e fits none = by_test (allows_all choice first (2 ^ suc k)) refl (λ f l. needed k first (m * 2) (twice choice k first m e) f l) (λ f l. needed k (first + 2 ^ k) (m * 2 + 1) (twice_more choice k first m e) f l)
    where
      by_test : (t : Bool) → allows_all choice first (2 ^ suc k) ≡ t → (first + 2 ^ k ≤ 256 → NoLonger k first → length (blocks_in choice k first) ≤ count_by (inside k first) others)
          → (first + 2 ^ k + 2 ^ k ≤ 256 → NoLonger k (first + 2 ^ k) → length (blocks_in choice k (first + 2 ^ k)) ≤ count_by (inside k (first + 2 ^ k)) others) → length (blocks_in choice (suc k) first) ≤ count_by (inside (suc k) first) others
      by_test true h left right =
          let l = ap length (whole_block choice (suc k) first h) in
          let p = pow_pos (suc k) in
          let one = one_inside (suc k) first m e (omega (arith, fits, p)) none (each_allowed first choice (2 ^ suc k) first h (omega arith) (omega (arith, p))) in
          omega (arith, l, one)
      by_test false h left right =
          let l = length_halves choice k first h in
          let size = two-pow-succ k in
          let p = pow_pos k in
          let a = left (omega (arith, fits, size)) (none_in_half k first m first e fits h (omega arith) (omega (arith, size, p))) in
          let b = right (omega (arith, fits, size)) (none_in_half k first m (first + 2 ^ k) e fits h (omega arith) (omega (arith, size, p))) in
          let both = halves_beside k first others in
          omega (arith, l, a, b, both)

  pub fewest : length (blocks choice) ≤ length others
  fewest =
      let least = needed 8 0 0 (omega arith) (omega arith) (λ i d short long has. let is_block = cut.0 i d short in let p = pow_below 8 _ long in omega (arith, is_block.1, p)) in
      let most = count_by-le-length (inside 8 0) others in
      omega (arith, least, most)
