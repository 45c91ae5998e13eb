-- Lists of bits, by the digits of the two bytes that they come from.
use Rattle.std.proofs.Common.{◌≡◌, ℕ, zero, suc, ◌+◌, ◌-◌, ◌/◌, ◌%◌, ◌^◌, ◌<◌, ◌≤◌, min, ◌⊎◌, inl, inr, Option, Some, None, length, bit_and, bit_xor, slice_get, MatchOption, refl, sym, ◌∙◌, ap, arith}
use Rattle.std.specs.Int.{bit_at}
use Rattle.std.specs.Int.Count.{count_leading_zeros}
use Rattle.std.proofs.Math.Nat.{div-eq_of_lt-le}
use Rattle.std.proofs.Math.Pow.{pow_mono}
use Rattle.std.proofs.lemmas.Nat.{leading_top, and_le_r}
use Rattle.std.proofs.lemmas.Nat.Bits.{bit_at_and, bit_at_xor, bit_at-lt, bit_at_above, bit_at_ones, bit_at-zero, same_from_bits_below}
use Rattle.std.proofs.lemmas.Bool.{cases_lt}
use Rattle.std.proofs.lemmas.Option.{slice_get_within}
use Rattle.message_tree.specs.declared.bits.Bit.{Bit}
use Rattle.message_tree.specs.declared.bits.Bit.TheVariants.{Zero, One}
use Rattle.message_tree.specs.Bits.{bit_from, bits_below, SplitAt, IsFirstSplit, NeverSplit}
use Rattle.message_tree.specs.Digits.{IsHighestOne}

-- the digit i stands at the place j
pub get_bit : (n known value j i : ℕ) → j + suc i ≡ n → slice_get (bits_below n known value) j ≡ Some (bit_from (bit_at known i) (bit_at value i))
get_bit zero known value j i e = absurd (omega arith)
get_bit (suc n) known value zero i e = let same : n ≡ i = omega arith in rw same refl
get_bit (suc n) known value (suc j) i e = get_bit n known value j i (omega arith)

pub length-bits_below : (n known value : ℕ) → length (bits_below n known value) ≡ n
length-bits_below zero known value = refl
length-bits_below (suc n) known value = ap suc (length-bits_below n known value)

-- an open bit has no value
bit_from-masked : (known value : ℕ) → bit_from known (min value known) ≡ bit_from known value
bit_from-masked zero value = refl
bit_from-masked (suc k) zero = let none : min 0 (suc k) ≡ 0 = omega arith in rw none refl
bit_from-masked (suc k) (suc v) = let some : min (suc v) (suc k) ≡ suc (min v k) = omega arith in rw some refl

pub bits_below-masked : (n known value : ℕ) → bits_below n known (bit_and value known) ≡ bits_below n known value
bits_below-masked zero known value = refl
bits_below-masked (suc n) known value = rw (bit_at_and value known n, bit_from-masked (bit_at known n) (bit_at value n), bits_below-masked n known value) refl

-- of the known bits only those within the width are used
pub bits_below-low : (m n known value : ℕ) → n ≤ m → bits_below n (bit_and known (2 ^ m - 1)) value ≡ bits_below n known value
bits_below-low m zero known value h = refl
bits_below-low m (suc n) known value h =
    let same : bit_at (bit_and known (2 ^ m - 1)) n ≡ bit_at known n = rw (bit_at_and known (2 ^ m - 1) n, bit_at_ones m n (omega arith)) (omega (arith, bit_at-lt known n)) in
    rw (same, bits_below-low m n known value (omega arith)) refl

bit_at-top : (digits i : ℕ) → 2 ^ i ≤ digits → digits < 2 ^ suc i → bit_at digits i ≡ 1
bit_at-top digits i le lt =
    let quotient : digits / 2 ^ i ≡ 1 = div-eq_of_lt-le (2 ^ i) (omega arith) (omega arith) in
    rw quotient refl

highest_from : (width digits z i : ℕ) → width ≤ 8 → digits < 2 ^ width → z + suc i ≡ 8 → 2 ^ i ≤ digits → digits < 2 ^ suc i →
    (8 - width ≤ z) × IsHighestOne width digits (z - (8 - width))
highest_from width digits z i le fits e low high =
    let below : i < width = elim (cases_lt i width) [ inl h ↦ h | inr h ↦ absurd (omega (arith, pow_mono h)) ] in
    let place : width - (z - (8 - width) + 1) ≡ i = omega arith in (
      omega arith,
      record {
        within = omega arith;
        one = rw place (bit_at-top digits i low high);
        zeros = λ j h. bit_at_above digits (suc i) (width - (j + 1)) high (omega arith);
      },
    )

-- the highest 1 of a number of eight digits
pub highest_at : (width digits : ℕ) → width ≤ 8 → digits < 2 ^ width → 0 < digits → (8 - width ≤ count_leading_zeros 8 digits) × IsHighestOne width digits (count_leading_zeros 8 digits - (8 - width))
highest_at width digits le fits positive =
    let byte : digits < 2 ^ 8 = omega (arith, pow_mono le) in
    let top = leading_top 8 digits positive byte in
    highest_from width digits (count_leading_zeros 8 digits) top.0 le fits top.1 top.2 top.3

-- both bits are known, and different
abbrev pub Differ : Bit → Bit → Type 0
Differ a b = ((a ≡ Zero) × (b ≡ One)) ⊎ ((a ≡ One) × (b ≡ Zero))

differ_digits : (j v k w : ℕ) → j < 2 → v < 2 → k < 2 → w < 2 → Differ (bit_from j v) (bit_from k w) → min (min j k) ((v + w) % 2) ≡ 1
differ_digits zero v k w _ _ _ _ h = elim h [ inl p ↦ cc | inr p ↦ cc ]
differ_digits (suc j) v zero w _ _ _ _ h = elim h [ inl p ↦ cc | inr p ↦ cc ]
differ_digits (suc j) zero (suc k) zero _ _ _ _ h = elim h [ inl p ↦ cc | inr p ↦ cc ]
differ_digits (suc j) zero (suc k) (suc w) a b c d h = omega arith
differ_digits (suc j) (suc v) (suc k) zero a b c d h = omega arith
differ_digits (suc j) (suc v) (suc k) (suc w) _ _ _ _ h = elim h [ inl p ↦ cc | inr p ↦ cc ]

digits_differ : (j v k w : ℕ) → j < 2 → v < 2 → k < 2 → w < 2 → min (min j k) ((v + w) % 2) ≡ 1 → Differ (bit_from j v) (bit_from k w)
digits_differ zero v k w _ _ _ _ h = absurd (omega arith)
digits_differ (suc j) v zero w _ _ _ _ h = absurd (omega arith)
digits_differ (suc j) zero (suc k) zero _ _ _ _ h = absurd (omega arith)
digits_differ (suc j) zero (suc k) (suc w) _ _ _ _ h = inl (refl, refl)
digits_differ (suc j) (suc v) (suc k) zero _ _ _ _ h = inr (refl, refl)
digits_differ (suc j) (suc v) (suc k) (suc w) a b c d h = absurd (omega arith)

-- the digits at which two bytes split
abbrev pub split_digits : ℕ → ℕ → ℕ → ℕ → ℕ
split_digits known value other_known other_value = bit_and (bit_and known other_known) (bit_xor value other_value)

bit_at_split : (known value other_known other_value i : ℕ) →
    bit_at (split_digits known value other_known other_value) i ≡ min (min (bit_at known i) (bit_at other_known i)) ((bit_at value i + bit_at other_value i) % 2)
bit_at_split known value other_known other_value i =
    rw (bit_at_and (bit_and known other_known) (bit_xor value other_value) i, bit_at_and known other_known i, bit_at_xor value other_value i) refl

split_where_differ : (known value other_known other_value i : ℕ) → Differ (bit_from (bit_at known i) (bit_at value i)) (bit_from (bit_at other_known i) (bit_at other_value i)) →
    bit_at (split_digits known value other_known other_value) i ≡ 1
split_where_differ known value other_known other_value i h = bit_at_split known value other_known other_value i
    ∙ differ_digits _ _ _ _ (bit_at-lt known i) (bit_at-lt value i) (bit_at-lt other_known i) (bit_at-lt other_value i) h

differ_where_split : (known value other_known other_value i : ℕ) → bit_at (split_digits known value other_known other_value) i ≡ 1 →
    Differ (bit_from (bit_at known i) (bit_at value i)) (bit_from (bit_at other_known i) (bit_at other_value i))
differ_where_split known value other_known other_value i one =
    digits_differ _ _ _ _ (bit_at-lt known i) (bit_at-lt value i) (bit_at-lt other_known i) (bit_at-lt other_value i) (sym (bit_at_split known value other_known other_value i) ∙ one)

split_within : (n known value other_known other_value j : ℕ) → SplitAt (bits_below n known value) (bits_below n other_known other_value) j → j < n
split_within n known value other_known other_value j s =
    let size = length-bits_below n known value in
    elim s [ inl p ↦ omega (arith, slice_get_within (bits_below n known value) j Zero p.0) | inr p ↦ omega (arith, slice_get_within (bits_below n known value) j One p.0) ]

digit_of_split : (n known value other_known other_value j i : ℕ) → j + suc i ≡ n → SplitAt (bits_below n known value) (bits_below n other_known other_value) j →
    bit_at (split_digits known value other_known other_value) i ≡ 1
digit_of_split n known value other_known other_value j i e s =
    let here = get_bit n known value j i e in
    let there = get_bit n other_known other_value j i e in
    split_where_differ known value other_known other_value i (elim s [ inl p ↦ inl (cc, cc) | inr p ↦ inr (cc, cc) ])

split_of_digit : (n known value other_known other_value j i : ℕ) → j + suc i ≡ n → bit_at (split_digits known value other_known other_value) i ≡ 1 →
    SplitAt (bits_below n known value) (bits_below n other_known other_value) j
split_of_digit n known value other_known other_value j i e one =
    let here = get_bit n known value j i e in
    let there = get_bit n other_known other_value j i e in
    elim (differ_where_split known value other_known other_value i one) [ inl p ↦ inl (cc, cc) | inr p ↦ inr (cc, cc) ]

-- the first split of two lists, by the highest of those digits
pub first_split_from : (n known value other_known other_value : ℕ) (r : Option ℕ) →
    MatchOption r (split_digits known value other_known other_value ≡ 0) (λ k. IsHighestOne n (split_digits known value other_known other_value) k) →
    MatchOption r (NeverSplit (bits_below n known value) (bits_below n other_known other_value)) (λ k. IsFirstSplit (bits_below n known value) (bits_below n other_known other_value) k)
first_split_from n known value other_known other_value None none = λ j s.
    let within = split_within n known value other_known other_value j s in
    let one = digit_of_split n known value other_known other_value j (n - (j + 1)) (omega arith) s in
    let zero_there = ap (λ digits. bit_at digits (n - (j + 1))) none ∙ bit_at-zero (n - (j + 1)) in
    omega arith
first_split_from n known value other_known other_value (Some k) highest = record {
  splits = let within = highest.within in split_of_digit n known value other_known other_value k (n - (k + 1)) (omega arith) highest.one;
  first = λ j below s. let within = highest.within in omega (arith, highest.zeros j below, digit_of_split n known value other_known other_value j (n - (j + 1)) (omega arith) s);
}

-- ---- two bytes by their bits
bit_from-same : (j v k w : ℕ) → j < 2 → v < 2 → k < 2 → w < 2 → bit_from j v ≡ bit_from k w → (j ≡ k) × (min v j ≡ min w k)
bit_from-same zero v zero w a b c d e = (refl, omega arith)
bit_from-same zero v (suc k) zero a b c d e = absurd cc
bit_from-same zero v (suc k) (suc w) a b c d e = absurd cc
bit_from-same (suc j) zero zero w a b c d e = absurd cc
bit_from-same (suc j) (suc v) zero w a b c d e = absurd cc
bit_from-same (suc j) zero (suc k) zero a b c d e = (omega arith, omega arith)
bit_from-same (suc j) zero (suc k) (suc w) a b c d e = absurd cc
bit_from-same (suc j) (suc v) (suc k) zero a b c d e = absurd cc
bit_from-same (suc j) (suc v) (suc k) (suc w) a b c d e = (omega arith, omega arith)

same_bit : (n known value other_known other_value i : ℕ) → i < n → bits_below n known value ≡ bits_below n other_known other_value →
    (bit_at known i ≡ bit_at other_known i) × (min (bit_at value i) (bit_at known i) ≡ min (bit_at other_value i) (bit_at other_known i))
same_bit n known value other_known other_value i h e =
    let here = get_bit n known value (n - suc i) i (omega arith) in
    let there = get_bit n other_known other_value (n - suc i) i (omega arith) in
    let same = ap (λ bits. slice_get bits (n - suc i)) e in
    bit_from-same _ _ _ _ (bit_at-lt known i) (bit_at-lt value i) (bit_at-lt other_known i) (bit_at-lt other_value i) (cc)

pub same_known : (n known value other_known other_value : ℕ) → known < 2 ^ n → other_known < 2 ^ n →
    bits_below n known value ≡ bits_below n other_known other_value → known ≡ other_known
same_known n known value other_known other_value a b e = same_from_bits_below n known other_known a b (λ i h. (same_bit n known value other_known other_value i h e).0)

pub same_value : (n known value other_known other_value : ℕ) → known < 2 ^ n → other_known < 2 ^ n →
    bit_and value known ≡ value → bit_and other_value other_known ≡ other_value →
    bits_below n known value ≡ bits_below n other_known other_value → value ≡ other_value
same_value n known value other_known other_value a b own others e =
    let small : value < 2 ^ n = omega (arith, and_le_r value known) in
    let other_small : other_value < 2 ^ n = omega (arith, and_le_r other_value other_known) in
    same_from_bits_below n value other_value small other_small (λ i h.
    let same = (same_bit n known value other_known other_value i h e).1 in
    let masked = ap (λ d. bit_at d i) (sym own) ∙ bit_at_and value known i in
    let other_masked = ap (λ d. bit_at d i) (sym others) ∙ bit_at_and other_value other_known i in
    cc)
