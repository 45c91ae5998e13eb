-- Eight digits that are looked at all at once, and the number that they write, by three multiplications.
use Rattle.std.proofs.Common.{◌≡◌, ◌<◌, ◌≤◌, ◌+◌, ◌-◌, ◌*◌, ◌/◌, ◌%◌, ◌^◌, ℕ, zero, suc, Bool, true, false, not, ◌&&◌, ◌||◌, ◌==◌, cond, List, [], ◌∷◌, map, length, take, get_or, replicate, Option, Some, None, refl, ap, sym, subst, ◌∙◌, arith, nat_le, bit_and, Fits, w8}
use Rattle.std.specs.Prelude.{if◌then◌else◌}
use Rattle.std.specs.List.{list_all}
use Rattle.std.specs.Int.Digits.{number_from_digits, number_from_digits_after, AllBelowBase}
use Rattle.std.specs.Simd.Lanes.{number_l}
use Rattle.std.proofs.Math.Arith.{digits_div, digits_mod}
use Rattle.std.proofs.Math.Nat.{mod-eq_of_lt, pow-suc}
use Rattle.std.proofs.lemmas.Bool.{agree_below, agree_below_at, leb-true, eqb-true, ne_eqb}
use Rattle.std.proofs.lemmas.Int.Digits.{number_lt}
use Rattle.std.proofs.lemmas.List.{length-map, take_all}
use Rattle.std.proofs.lemmas.Nat.{and_block, and_mask}
use Rattle.std.proofs.lemmas.Simd.{map-map, mask_l-mod, zip2_splat, Each1-from_get_or}
use lib.Lanes.{Each1, mask_l, top, zip2}
use Rattle.vcd_read.specs.Words.{is_digit, number_from}
use Rattle.vcd_read.proofs.RunLemmas.{and_both}

-- the mask keeps bytes 0 and 4
masked : (x : ℕ) → bit_and x 0x0000_00ff_0000_00ff ≡ x / 2 ^ 32 % 256 * 2 ^ 32 + x % 2 ^ 32 % 256
masked x =
    let e : x ≡ x / 2 ^ 32 * 2 ^ 32 + x % 2 ^ 32 = omega arith in
    ap (λ y. bit_and y 0x0000_00ff_0000_00ff) e ∙ and_block 32 (x / 2 ^ 32) 255 (x % 2 ^ 32) 255 (omega arith) (omega arith)
    ∙ (λ i. and_mask (x / 2 ^ 32) 8 i * 2 ^ 32 + and_mask (x % 2 ^ 32) 8 i)

-- what the code computes of the word
abbrev worth : ℕ → ℕ
worth word =
    let pairs = (word * 10 % 2 ^ 64 + word / 256) % 2 ^ 64 in
    (bit_and pairs 0x0000_00ff_0000_00ff * 4294967296000100 % 2 ^ 64 + bit_and (pairs / 65536) 0x0000_00ff_0000_00ff * 42949672960001 % 2 ^ 64) % 2 ^ 64 / 2 ^ 32

below : (x : ℕ) → x < 100 → x < 256
below x h = omega arith

first : (p r : ℕ) → p < 100 → r < 100 → (r * 2 ^ 32 + p) * 4294967296000100 % 2 ^ 64 ≡ (p * 1000000 + r * 100) * 2 ^ 32 + p * 100
first p r P R = omega arith

second : (q s : ℕ) → q < 100 → s < 100 → (s * 2 ^ 32 + q) * 42949672960001 % 2 ^ 64 ≡ (q * 10000 + s) * 2 ^ 32 + q
second q s Q S = omega arith

last : (p q r s : ℕ) → p < 100 → q < 100 → r < 100 → s < 100
    → ((p * 1000000 + r * 100) * 2 ^ 32 + p * 100 + ((q * 10000 + s) * 2 ^ 32 + q)) % 2 ^ 64 / 2 ^ 32 ≡ p * 1000000 + q * 10000 + r * 100 + s
last p q r s P Q R S =
    let sum = (p * 1000000 + r * 100) * 2 ^ 32 + p * 100 + ((q * 10000 + s) * 2 ^ 32 + q) in
    let small : sum < 2 ^ 64 = omega arith in
    let parts : sum ≡ (p * 1000000 + q * 10000 + r * 100 + s) * 2 ^ 32 + (p * 100 + q) = omega arith in
    let low : p * 100 + q < 2 ^ 32 = omega arith in
    ap (λ x. x / 2 ^ 32) (mod-eq_of_lt small ∙ parts) ∙ digits_div _ low

-- p, q, r and s are the four pairs of digits, and x, y, z and w the bytes between them
combined : (p q r s x y z w pairs : ℕ) → p < 100 → q < 100 → r < 100 → s < 100 → x < 100 → y < 100 → z < 100 → w < 100
    → pairs ≡ p + 2 ^ 8 * x + 2 ^ 16 * q + 2 ^ 24 * y + 2 ^ 32 * r + 2 ^ 40 * z + 2 ^ 48 * s + 2 ^ 56 * w
    → (bit_and pairs 0x0000_00ff_0000_00ff * 4294967296000100 % 2 ^ 64 + bit_and (pairs / 65536) 0x0000_00ff_0000_00ff * 42949672960001 % 2 ^ 64) % 2 ^ 64 / 2 ^ 32
    ≡ p * 1000000 + q * 10000 + r * 100 + s
combined p q r s x y z w pairs P Q R S X Y Z W e =
    let high : pairs / 2 ^ 32 ≡ (z + 2 ^ 8 * s + 2 ^ 16 * w) * 256 + r = omega arith in
    let low : pairs % 2 ^ 32 ≡ (x + 2 ^ 8 * q + 2 ^ 16 * y) * 256 + p = omega arith in
    let down : pairs / 65536 ≡ (((w * 256) + s) * 2 ^ 32) + ((y + 2 ^ 8 * r + 2 ^ 16 * z) * 256 + q) = omega arith in
    let a : pairs / 2 ^ 32 % 256 ≡ r = rw high (digits_mod _ (below r R)) in
    let b : pairs % 2 ^ 32 % 256 ≡ p = rw low (digits_mod _ (below p P)) in
    let part : (y + 2 ^ 8 * r + 2 ^ 16 * z) * 256 + q < 2 ^ 32 = omega arith in
    let c : pairs / 65536 / 2 ^ 32 % 256 ≡ s = rw (down, digits_div _ part) (digits_mod _ (below s S)) in
    let d : pairs / 65536 % 2 ^ 32 % 256 ≡ q = rw (down, digits_mod _ part) (digits_mod _ (below q Q)) in
    rw (masked pairs, masked (pairs / 65536), a, b, c, d, first p r P R, second q s Q S) (last p q r s P Q R S)

-- the three multiplications give the number that eight digits write
pub eight_is : (ds : List ℕ) (word : ℕ) → length ds ≡ 8 → AllBelowBase 10 ds → word ≡ number_l 256 ds → worth word ≡ number_from_digits 10 ds
eight_is [] word long below_ten e = absurd (omega arith)
eight_is (a ∷ []) word long below_ten e = absurd (omega arith)
eight_is (a ∷ b ∷ []) word long below_ten e = absurd (omega arith)
eight_is (a ∷ b ∷ c ∷ []) word long below_ten e = absurd (omega arith)
eight_is (a ∷ b ∷ c ∷ d ∷ []) word long below_ten e = absurd (omega arith)
eight_is (a ∷ b ∷ c ∷ d ∷ f ∷ []) word long below_ten e = absurd (omega arith)
eight_is (a ∷ b ∷ c ∷ d ∷ f ∷ g ∷ []) word long below_ten e = absurd (omega arith)
eight_is (a ∷ b ∷ c ∷ d ∷ f ∷ g ∷ i ∷ []) word long below_ten e = absurd (omega arith)
eight_is (a ∷ b ∷ c ∷ d ∷ f ∷ g ∷ i ∷ j ∷ k ∷ ds) word long below_ten e = absurd (omega arith)
eight_is (a ∷ b ∷ c ∷ d ∷ f ∷ g ∷ i ∷ j ∷ []) word long below_ten e =
    let rest = b + 256 * (c + 256 * (d + 256 * (f + 256 * (g + 256 * (i + 256 * (j + 256 * 0)))))) in
    let parts : word ≡ rest * 256 + a = omega arith in
    let small : a < 256 = omega arith in
    let shifted : word / 256 ≡ rest = ap (λ x. x / 256) parts ∙ digits_div rest small in
    let tens : word * 10 < 2 ^ 64 = omega arith in
    let sum : word * 10 + rest < 2 ^ 64 = omega arith in
    let pairs : (word * 10 % 2 ^ 64 + word / 256) % 2 ^ 64
    ≡ 10 * a + b + 2 ^ 8 * (10 * b + c) + 2 ^ 16 * (10 * c + d) + 2 ^ 24 * (10 * d + f) + 2 ^ 32 * (10 * f + g) + 2 ^ 40 * (10 * g + i) + 2 ^ 48 * (10 * i + j) + 2 ^ 56 * (10 * j) =
    rw (mod-eq_of_lt tens, shifted, mod-eq_of_lt sum) (omega arith) in
    combined _ _ _ _ _ _ _ _ _ (omega arith) (omega arith) (omega arith) (omega arith) (omega arith) (omega arith) (omega arith) (omega arith) pairs ∙ omega arith

-- ---- lane by lane

digit_range : (x : ℕ) → is_digit x ≡ true → (48 ≤ x) × (x ≤ 57)
digit_range x is =
    let parts = and_both (nat_le 48 x) (nat_le x 57) is in
    (leb-true 48 x parts.0, leb-true x 57 parts.1)

-- the lanes of digits, and the number that they write
pub record Reads (v d : List ℕ) : Type 0 where
  pub below : AllBelowBase 10 d
  pub number : (n : ℕ) → number_from n v ≡ Some (number_from_digits_after 10 n d)

-- A mask that is computed lane by lane is empty where all are digits, if f is below 128 at each digit and at nothing else.
module _ (f : ℕ → ℕ) (others : agree_below (λ x. top 7 (f x)) (λ x. not (is_digit x)) 256 ≡ true) where
  abbrev mask : List ℕ → ℕ
  mask v = mask_l (map (λ x. top 7 (f x)) v)

  empty_by : (test : Bool) (m : ℕ) (all : Bool) → (m == 0) ≡ all → (cond (not test) 1 0 + 2 * m == 0) ≡ (test && all)
  empty_by true zero all e = e
  empty_by true (suc m) all e = ne_eqb (0 + 2 * suc m) 0 (λ zero. omega arith) ∙ sym (ne_eqb (suc m) 0 (λ zero. omega arith)) ∙ e
  empty_by false m all e = ne_eqb (1 + 2 * m) 0 (λ zero. omega arith)

  empty : (v : List ℕ) → Each1 (Fits w8) v → (mask v == 0) ≡ list_all is_digit v
  empty [] fits = refl
  empty (x ∷ v) fits =
      ap (λ b. cond b 1 0 + 2 * mask v == 0) (agree_below_at (λ x. top 7 (f x)) (λ x. not (is_digit x)) 256 x others fits.0.fits)
      ∙ empty_by (is_digit x) (mask v) (list_all is_digit v) (empty v fits.1)

pub mask_of_digits : (f : ℕ → ℕ) (v z : List ℕ) → length v ≡ 8 → Each1 (Fits w8) v → z ≡ map f v → agree_below (λ x. top 7 (f x)) (λ x. not (is_digit x)) 256 ≡ true →
    (mask_l (map (top 7) z) % 2 ^ 64 == 0) ≡ list_all is_digit v
mask_of_digits f v z long fits is others =
    let lanes : map (top 7) z ≡ map (λ x. top 7 (f x)) v = ap (map (top 7)) is ∙ map-map (top 7) f v in
    let short : length (map (top 7) z) ≤ 64 = omega (arith, ap length lanes, length-map v (λ x. top 7 (f x))) in
    ap (λ n. n == 0) (mask_l-mod (map (top 7) z) 64 short ∙ ap mask_l lanes) ∙ empty f others v fits

-- the values of digits, and the number that they write
module _ (g : ℕ → ℕ) (values : agree_below (λ x. not (is_digit x) || (g x == x - 48)) (λ x. true) 256 ≡ true) where
  value_by : (test same : Bool) → test ≡ true → (not test || same) ≡ true → same ≡ true
  value_by true same is agree = agree
  value_by false same is agree = absurd cc

  value : (x : ℕ) → x < 256 → is_digit x ≡ true → g x ≡ x - 48
  value x small is =
      eqb-true (g x) (x - 48) (value_by (is_digit x) (g x == x - 48) is (agree_below_at (λ x. not (is_digit x) || (g x == x - 48)) (λ x. true) 256 x values small))

  reads : (v : List ℕ) → Each1 (Fits w8) v → list_all is_digit v ≡ true → Reads v (map g v)
  reads [] fits all = record { below = tt; number = λ n. refl }
  reads (x ∷ v) fits all =
      let parts = and_both (is_digit x) (list_all is_digit v) all in
      let rest = reads v fits.1 parts.1 in
      let digit = value x fits.0.fits parts.0 in
      let range = digit_range x parts.0 in
      let low : 48 ≤ x = range.0 in
      let high : x ≤ 57 = range.1 in
      let one : g x < 10 = omega arith in
      record {
        below = (one, rest.below);
        number = λ n. ap (λ test. if test then number_from (n * 10 + (x - 48)) v else None) parts.0 ∙ ap (λ d. number_from (n * 10 + d) v) (sym digit) ∙ rest.number (n * 10 + g x);
      }

pub values_of_digits : (g : ℕ → ℕ) (v d : List ℕ) → length v ≡ 8 → Each1 (Fits w8) v → d ≡ map g v → list_all is_digit v ≡ true → agree_below (λ x. not (is_digit x) || (g x == x - 48)) (λ x. true) 256 ≡ true → (length d ≡ 8) × Reads v d
values_of_digits g v d long fits lanes all values =
    (ap length lanes ∙ length-map v g ∙ long, subst (λ (l : List ℕ). Reads v l) (sym lanes) (reads g values v fits all))

-- where one byte is no digit, there is no number
none_by : (test all : Bool) (number : Option ℕ) → (test && all) ≡ false → (all ≡ false → number ≡ None) → (if test then number else None) ≡ None
none_by true all number other rest = rest other
none_by false all number other rest = refl

pub no_number : (v : List ℕ) (n : ℕ) → list_all is_digit v ≡ false → number_from n v ≡ None
no_number [] n other = absurd cc
no_number (x ∷ v) n other = none_by (is_digit x) (list_all is_digit v) _ other (no_number v (n * 10 + (x - 48)))

-- the word of eight digits is taken whole
word_fits : (d : List ℕ) → AllBelowBase 10 d → number_l 256 d < 256 ^ length d
word_fits [] below = omega arith
word_fits (x ∷ d) below =
    let rest = word_fits d below.1 in
    let power : 256 ^ length (x ∷ d) ≡ 256 ^ length d * 256 = pow-suc 256 (length d) in
    omega (arith, below.0)

pub eight_fit : (d : List ℕ) → length d ≡ 8 → AllBelowBase 10 d → number_from_digits 10 d < 10 ^ 8
eight_fit d long below = subst (λ (n : ℕ). number_from_digits 10 d < 10 ^ n) long (number_lt 10 d below)

pub word_whole : (d : List ℕ) → length d ≡ 8 → AllBelowBase 10 d → number_l 256 d % 2 ^ 64 ≡ number_l 256 d
word_whole d long below =
    let fits : number_l 256 d < 256 ^ 8 = subst (λ (n : ℕ). number_l 256 d < 256 ^ n) long (word_fits d below) in
    mod-eq_of_lt fits

-- ---- seven digits behind `#`

module _ (h : ℕ → ℕ) (all : agree_below (λ x. h x == x) (λ x. true) 256 ≡ true) where
  same_lanes : (v : List ℕ) → Each1 (Fits w8) v → map h v ≡ v
  same_lanes [] fits = refl
  same_lanes (x ∷ v) fits =
      let here : h x ≡ x = eqb-true (h x) x (agree_below_at (λ x. h x == x) (λ x. true) 256 x all fits.0.fits) in
      let rest = same_lanes v fits.1 in
      λ i. here i ∷ rest i

-- to add 13 to the first lane, and to the others nothing, puts a zero in the place of `#`
pub seven_digits : (add : ℕ → ℕ → ℕ) (token digits : List ℕ) → token ≡ 35 ∷ digits → length (35 ∷ digits) ≡ 8 → ((i : ℕ) → Fits w8 (get_or (35 ∷ digits) i 0)) → add 35 13 ≡ 48 → agree_below (λ x. add x 0 == x) (λ x. true) 256 ≡ true →
    number_from 0 (zip2 add (take 8 token) (13 ∷ replicate 7 0)) ≡ number_from 0 digits
seven_digits add token digits is long fits first all =
    let seven : length digits ≡ 7 = omega arith in
    let each = Each1-from_get_or (Fits w8) digits 0 (λ i within. fits (suc i)) in
    let lanes : zip2 add digits (replicate 7 0) ≡ digits = zip2_splat add digits 7 0 seven ∙ same_lanes (λ x. add x 0) all digits each in
    ap (λ l. number_from 0 (zip2 add (take 8 l) (13 ∷ replicate 7 0))) is
    ∙ ap (λ l. number_from 0 (zip2 add (35 ∷ l) (13 ∷ replicate 7 0))) (take_all 7 digits (omega arith))
    ∙ (λ i. number_from 0 (first i ∷ lanes i))
