-- One step of what counts the blocks of a choice, and of what finds one by its number.
use Rattle.std.proofs.Common.{◌≡◌, ℕ, zero, suc, ◌+◌, ◌-◌, ◌^◌, ◌<◌, ◌≤◌, true, false, List, [], ◌∷◌, ◌++◌, Option, Some, None, length, refl, ap, sym, ◌∙◌, arith}
use Rattle.std.specs.Prelude.{slice_get}
use Rattle.std.specs.Option.{option_map}
use Rattle.std.proofs.Math.Nat.{two-pow-succ}
use Rattle.std.proofs.lemmas.List.{length-append}
use Rattle.message_tree.specs.declared.bits.Pattern.{Pattern}
use Rattle.brief_text.specs.Choices.{allows_all, Block, blocks_in, block_bits}
use Rattle.brief_text.specs.Trees.{Choice}
use Rattle.brief_text.proofs.BlockLemmas.{block, whole_block, no_block, both_halves}

pub half_power : (power : ℕ) → 0 < power → 2 ^ power ≡ 2 ^ (power - 1) + 2 ^ (power - 1)
half_power zero some = absurd (omega arith)
half_power (suc k) some = let one : suc k - 1 ≡ k = omega arith in rw one (two-pow-succ k)

get_left : {A : Type 0} (xs ys : List A) (n : ℕ) → n < length xs → slice_get (xs ++ ys) n ≡ slice_get xs n
get_left [] ys n h = absurd (omega arith)
get_left (x ∷ xs) ys zero h = refl
get_left (x ∷ xs) ys (suc n) h = get_left xs ys n (omega arith)

get_right : {A : Type 0} (xs ys : List A) (n : ℕ) → length xs ≤ n → slice_get (xs ++ ys) n ≡ slice_get ys (n - length xs)
get_right [] ys n h = let same : n ≡ n - 0 = omega arith in ap (slice_get ys) same
get_right (x ∷ xs) ys zero h = absurd (omega arith)
get_right (x ∷ xs) ys (suc n) h = let same : n - length xs ≡ suc n - suc (length xs) = omega arith in get_right xs ys n (omega arith) ∙ ap (slice_get ys) same

module _ (choice : Choice) (power first : ℕ) where
  abbrev These : List Block
  These = blocks_in choice power first

  -- all values are one block
  module _ (e : allows_all choice first (2 ^ power) ≡ true) where
    pub one_block : 1 ≡ length These
    one_block = sym (ap length (whole_block choice power first e))

    pub at_block : (n : ℕ) (p : Pattern) → n ≡ 0 → p ≡ block_bits (block power first) → Some p ≡ option_map block_bits (slice_get These n)
    at_block n p none is = ap (λ q. Some q) is ∙ sym (ap (λ k. option_map block_bits (slice_get These k)) none ∙ ap (λ (bs : List Block). option_map block_bits (slice_get bs 0)) (whole_block choice power first e))

    pub past_block : (n : ℕ) → 0 < n → None ≡ option_map block_bits (slice_get These n)
    past_block zero some = absurd (omega arith)
    past_block (suc n) some = sym (ap (λ (bs : List Block). option_map block_bits (slice_get bs (suc n))) (whole_block choice power first e))

  module _ (e : allows_all choice first (2 ^ power) ≡ false) where
    -- a single value that is none
    none_is : power ≡ 0 → These ≡ []
    none_is same = ap (λ k. blocks_in choice k first) same ∙ no_block choice first (ap (λ k. allows_all choice first (2 ^ k)) (sym same) ∙ e)

    pub zero_blocks : power ≡ 0 → 0 ≡ length These
    zero_blocks same = sym (ap length (none_is same))

    pub at_none : (n : ℕ) → power ≡ 0 → None ≡ option_map block_bits (slice_get These n)
    at_none n same = sym (ap (λ (bs : List Block). option_map block_bits (slice_get bs n)) (none_is same))

    -- both halves, the second of which begins in the middle
    module _ (some : 0 < power) (middle : ℕ) (half : middle ≡ first + 2 ^ (power - 1)) where
      abbrev Left : List Block
      Left = blocks_in choice (power - 1) first

      abbrev Right : List Block
      Right = blocks_in choice (power - 1) middle

      halves_are : These ≡ Left ++ Right
      halves_are = by_power power refl
        where
          by_power : (k : ℕ) → k ≡ power → These ≡ Left ++ Right
          by_power zero same = absurd (omega (arith, some))
          by_power (suc k) same =
              let less : k ≡ power - 1 = omega arith in
              ap (λ n. blocks_in choice n first) (sym same) ∙ both_halves choice k first (ap (λ n. allows_all choice first (2 ^ n)) same ∙ e)
              ∙ ap (λ n. blocks_in choice n first ++ blocks_in choice n (first + 2 ^ n)) less ∙ ap (λ m. Left ++ blocks_in choice (power - 1) m) (sym half)

      pub both_counts : (a b : ℕ) → a ≡ length Left → b ≡ length Right → a + b ≡ length These
      both_counts a b left right = let l = ap length halves_are ∙ length-append Left Right in omega (arith, l, left, right)

      pub in_left : (n count : ℕ) (p : Option Pattern) → count ≡ length Left → n < count → p ≡ option_map block_bits (slice_get Left n) → p ≡ option_map block_bits (slice_get These n)
      in_left n count p counted less is = is ∙ sym (ap (λ (bs : List Block). option_map block_bits (slice_get bs n)) halves_are ∙ ap (option_map block_bits) (get_left Left Right n (omega (arith, counted, less))))

      pub in_right : (n count : ℕ) (p : Option Pattern) → count ≡ length Left → count ≤ n → p ≡ option_map block_bits (slice_get Right (n - count)) → p ≡ option_map block_bits (slice_get These n)
      in_right n count p counted more is =
          is ∙ ap (λ k. option_map block_bits (slice_get Right (n - k))) counted
          ∙ sym (ap (λ (bs : List Block). option_map block_bits (slice_get bs n)) halves_are ∙ ap (option_map block_bits) (get_right Left Right n (omega (arith, counted, more))))
