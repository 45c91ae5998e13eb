-- Eight characters that are looked at all at once.
use Rattle.std.proofs.Common.{◌≡◌, ◌<◌, ◌+◌, ◌*◌, ◌%◌, ◌^◌, ℕ, Bool, true, false, ◌||◌, cond, List, [], ◌∷◌, ◌++◌, length, take, map, refl, ap, sym, ◌∙◌, arith, nat_eq, slice_index_or, bit_or}
use Rattle.std.specs.List.{list_all}
use Rattle.std.proofs.lemmas.Bool.{and_parts, and_from}
use Rattle.std.proofs.lemmas.Bool.Decides.{nat_tests}
use lib.Lanes.{top}
use Rattle.message_tree.specs.Bits.{bits_below}
use Rattle.plan_text.specs.Symbols.{bit_symbol}
use Rattle.plan_text.specs.Values.{known_digit, value_digit}
use Rattle.plan_text.specs.Words.{is_bit}
use Rattle.plan_text.proofs.ValueLemmas.{known_of, whole}

-- what the masks have of a character
abbrev pub one_lane : ℕ → Bool
one_lane x = top 7 (cond (nat_eq x 49) 255 0)

abbrev pub known_lane : ℕ → Bool
known_lane x = top 7 (bit_or (cond (nat_eq x 49) 255 0) (cond (nat_eq x 48) 255 0))

abbrev pub bit_lane : ℕ → Bool
bit_lane x = top 7 (bit_or (bit_or (cond (nat_eq x 49) 255 0) (cond (nat_eq x 48) 255 0)) (cond (nat_eq x 120) 255 0))

abbrev digit : Bool → ℕ
digit b = cond b 1 0

-- the first character is the highest digit of a mask
abbrev digits : (a b c d e f g h : ℕ) → ℕ
digits a b c d e f g h = h + 2 * (g + 2 * (f + 2 * (e + 2 * (d + 2 * (c + 2 * (b + 2 * (a + 0)))))))

abbrev at : List ℕ → ℕ → ℕ
at word i = slice_index_or (take 8 word ++ take 8 word) i 0

abbrev lane : (ℕ → Bool) → List ℕ → ℕ → ℕ
lane test word i = digit (test (at word i))

abbrev pub mask : (ℕ → Bool) → List ℕ → ℕ
mask test word = digits (lane test word 0) (lane test word 1) (lane test word 2) (lane test word 3) (lane test word 4) (lane test word 5) (lane test word 6) (lane test word 7)

-- ---- a single character

below_two : (b : Bool) → digit b < 2
below_two true = omega arith
below_two false = omega arith

is_set : (b : Bool) → digit b ≡ 1 → b ≡ true
is_set true e = refl
is_set false e = absurd (omega arith)

bit_by : (one zero either : Bool) → top 7 (bit_or (bit_or (cond one 255 0) (cond zero 255 0)) (cond either 255 0)) ≡ (zero || one || either)
bit_by true true true = refl
bit_by true true false = refl
bit_by true false true = refl
bit_by true false false = refl
bit_by false true true = refl
bit_by false true false = refl
bit_by false false true = refl
bit_by false false false = refl

bit_is : (x : ℕ) → bit_lane x ≡ is_bit x
bit_is x = bit_by (nat_eq x 49) (nat_eq x 48) (nat_eq x 120)

known_by : (one zero : Bool) → top 7 (bit_or (cond one 255 0) (cond zero 255 0)) ≡ (zero || one)
known_by true true = refl
known_by true false = refl
known_by false true = refl
known_by false false = refl

known_if : (x : ℕ) → is_bit x ≡ true → digit (nat_eq x 48 || nat_eq x 49) ≡ known_digit x
known_if x h = grind (arith, nat_tests)

known_is : (x : ℕ) → is_bit x ≡ true → digit (known_lane x) ≡ known_digit x
known_is x h = ap digit (known_by (nat_eq x 49) (nat_eq x 48)) ∙ known_if x h

one_by : (one : Bool) → top 7 (cond one 255 0) ≡ one
one_by true = refl
one_by false = refl

value_is : (x : ℕ) → digit (one_lane x) ≡ value_digit x
value_is x = ap digit (one_by (nat_eq x 49))

-- ---- eight digits

digits_fit : (a b c d e f g h : ℕ) → a < 2 → b < 2 → c < 2 → d < 2 → e < 2 → f < 2 → g < 2 → h < 2 → digits a b c d e f g h < 2 ^ 8
digits_fit a b c d e f g h ha hb hc hd he hf hg hh = omega arith

record Ones (a b c d e f g h : ℕ) : Type 0 where
  one_a : a ≡ 1
  one_b : b ≡ 1
  one_c : c ≡ 1
  one_d : d ≡ 1
  one_e : e ≡ 1
  one_f : f ≡ 1
  one_g : g ≡ 1
  one_h : h ≡ 1

all_set : (a b c d e f g h : ℕ) → a < 2 → b < 2 → c < 2 → d < 2 → e < 2 → f < 2 → g < 2 → h < 2 → digits a b c d e f g h ≡ 255 → Ones a b c d e f g h
all_set a b c d e f g h ha hb hc hd he hf hg hh full = record { one_a = omega arith; one_b = omega arith; one_c = omega arith; one_d = omega arith; one_e = omega arith; one_f = omega arith; one_g = omega arith; one_h = omega arith }

digits_are : (a b c d e f g h a2 b2 c2 d2 e2 f2 g2 h2 : ℕ) → a ≡ a2 → b ≡ b2 → c ≡ c2 → d ≡ d2 → e ≡ e2 → f ≡ f2 → g ≡ g2 → h ≡ h2 → digits a b c d e f g h ≡ (((((((0 * 2 + a2) * 2 + b2) * 2 + c2) * 2 + d2) * 2 + e2) * 2 + f2) * 2 + g2) * 2 + h2
digits_are a b c d e f g h a2 b2 c2 d2 e2 f2 g2 h2 ha hb hc hd he hf hg hh = omega arith

-- a mask is taken whole
pub mask_whole : (test : ℕ → Bool) (word : List ℕ) (n : ℕ) → mask test word % 2 ^ 64 ≡ n → mask test word ≡ n
mask_whole test word n e =
    let fits = digits_fit (lane test word 0) (lane test word 1) (lane test word 2) (lane test word 3) (lane test word 4) (lane test word 5) (lane test word 6) (lane test word 7) (below_two (test (at word 0))) (below_two (test (at word 1))) (below_two (test (at word 2))) (below_two (test (at word 3))) (below_two (test (at word 4))) (below_two (test (at word 5))) (below_two (test (at word 6))) (below_two (test (at word 7))) in
    omega (arith, fits, e)

-- what the masks say of eight characters
pub record Seen (word : List ℕ) : Type 0 where
  pub known_fits : mask known_lane word < 2 ^ 8
  pub value_fits : mask one_lane word < 2 ^ 8
  pub full : mask bit_lane word ≡ 255 → list_all is_bit word ≡ true
  pub is_full : list_all is_bit word ≡ true → mask bit_lane word ≡ 255
  pub bits : list_all is_bit word ≡ true → map bit_symbol (bits_below 8 (mask known_lane word) (mask one_lane word)) ≡ word

module _ (a b c d e f g h : ℕ) where
  abbrev word : List ℕ
  word = a ∷ (b ∷ (c ∷ (d ∷ (e ∷ (f ∷ (g ∷ (h ∷ [])))))))

  record AllBits : Type 0 where
    bit_a : is_bit a ≡ true
    bit_b : is_bit b ≡ true
    bit_c : is_bit c ≡ true
    bit_d : is_bit d ≡ true
    bit_e : is_bit e ≡ true
    bit_f : is_bit f ≡ true
    bit_g : is_bit g ≡ true
    bit_h : is_bit h ≡ true

  each : list_all is_bit word ≡ true → AllBits
  each all =
      let pa = and_parts (is_bit a) _ all in
      let pb = and_parts (is_bit b) _ pa.1 in
      let pc = and_parts (is_bit c) _ pb.1 in
      let pd = and_parts (is_bit d) _ pc.1 in
      let pe = and_parts (is_bit e) _ pd.1 in
      let pf = and_parts (is_bit f) _ pe.1 in
      let pg = and_parts (is_bit g) _ pf.1 in
      let ph = and_parts (is_bit h) _ pg.1 in
      record { bit_a = pa.0; bit_b = pb.0; bit_c = pc.0; bit_d = pd.0; bit_e = pe.0; bit_f = pf.0; bit_g = pg.0; bit_h = ph.0 }

  full : mask bit_lane word ≡ 255 → list_all is_bit word ≡ true
  full is =
      let ones = all_set (digit (bit_lane a)) (digit (bit_lane b)) (digit (bit_lane c)) (digit (bit_lane d)) (digit (bit_lane e)) (digit (bit_lane f)) (digit (bit_lane g)) (digit (bit_lane h)) (below_two (bit_lane a)) (below_two (bit_lane b)) (below_two (bit_lane c)) (below_two (bit_lane d)) (below_two (bit_lane e)) (below_two (bit_lane f)) (below_two (bit_lane g)) (below_two (bit_lane h)) is in
      let bit : (x : ℕ) → digit (bit_lane x) ≡ 1 → is_bit x ≡ true = λ x one. sym (bit_is x) ∙ is_set (bit_lane x) one in
      and_from _ _ (bit a ones.one_a) (and_from _ _ (bit b ones.one_b) (and_from _ _ (bit c ones.one_c) (and_from _ _ (bit d ones.one_d) (and_from _ _ (bit e ones.one_e) (and_from _ _ (bit f ones.one_f) (and_from _ _ (bit g ones.one_g) (and_from _ _ (bit h ones.one_h) (refl))))))))

  is_full : list_all is_bit word ≡ true → mask bit_lane word ≡ 255
  is_full all =
      let bits = each all in
      let one : (x : ℕ) → is_bit x ≡ true → digit (bit_lane x) ≡ 1 = λ x is. ap digit (bit_is x ∙ is) in
      digits_are (digit (bit_lane a)) (digit (bit_lane b)) (digit (bit_lane c)) (digit (bit_lane d)) (digit (bit_lane e)) (digit (bit_lane f)) (digit (bit_lane g)) (digit (bit_lane h)) 1 1 1 1 1 1 1 1 (one a bits.bit_a) (one b bits.bit_b) (one c bits.bit_c) (one d bits.bit_d) (one e bits.bit_e) (one f bits.bit_f) (one g bits.bit_g) (one h bits.bit_h)

  bits : list_all is_bit word ≡ true → map bit_symbol (bits_below 8 (mask known_lane word) (mask one_lane word)) ≡ word
  bits all =
      let bits = each all in
      let known = digits_are (digit (known_lane a)) (digit (known_lane b)) (digit (known_lane c)) (digit (known_lane d)) (digit (known_lane e)) (digit (known_lane f)) (digit (known_lane g)) (digit (known_lane h)) (known_digit a) (known_digit b) (known_digit c) (known_digit d) (known_digit e) (known_digit f) (known_digit g) (known_digit h) (known_is a bits.bit_a) (known_is b bits.bit_b) (known_is c bits.bit_c) (known_is d bits.bit_d) (known_is e bits.bit_e) (known_is f bits.bit_f) (known_is g bits.bit_g) (known_is h bits.bit_h) in
      let value = digits_are (digit (one_lane a)) (digit (one_lane b)) (digit (one_lane c)) (digit (one_lane d)) (digit (one_lane e)) (digit (one_lane f)) (digit (one_lane g)) (digit (one_lane h)) (value_digit a) (value_digit b) (value_digit c) (value_digit d) (value_digit e) (value_digit f) (value_digit g) (value_digit h) (value_is a) (value_is b) (value_is c) (value_is d) (value_is e) (value_is f) (value_is g) (value_is h) in
      ap (λ k. map bit_symbol (bits_below 8 k (mask one_lane word))) known ∙ ap (λ v. map bit_symbol (bits_below 8 (known_of word) v)) value ∙ (whole word 8 refl all).bits

  of_word : Seen word
  of_word = record {
    known_fits = digits_fit (digit (known_lane a)) (digit (known_lane b)) (digit (known_lane c)) (digit (known_lane d)) (digit (known_lane e)) (digit (known_lane f)) (digit (known_lane g)) (digit (known_lane h)) (below_two (known_lane a)) (below_two (known_lane b)) (below_two (known_lane c)) (below_two (known_lane d)) (below_two (known_lane e)) (below_two (known_lane f)) (below_two (known_lane g)) (below_two (known_lane h));
    value_fits = digits_fit (digit (one_lane a)) (digit (one_lane b)) (digit (one_lane c)) (digit (one_lane d)) (digit (one_lane e)) (digit (one_lane f)) (digit (one_lane g)) (digit (one_lane h)) (below_two (one_lane a)) (below_two (one_lane b)) (below_two (one_lane c)) (below_two (one_lane d)) (below_two (one_lane e)) (below_two (one_lane f)) (below_two (one_lane g)) (below_two (one_lane h));
    full = full;
    is_full = is_full;
    bits = bits;
  }

pub seen : (word : List ℕ) → length word ≡ 8 → Seen word
seen (a ∷ (b ∷ (c ∷ (d ∷ (e ∷ (f ∷ (g ∷ (h ∷ [])))))))) long = of_word a b c d e f g h
seen [] long = absurd (omega arith)
seen (a ∷ []) long = absurd (omega arith)
seen (a ∷ (b ∷ [])) long = absurd (omega arith)
seen (a ∷ (b ∷ (c ∷ []))) long = absurd (omega arith)
seen (a ∷ (b ∷ (c ∷ (d ∷ [])))) long = absurd (omega arith)
seen (a ∷ (b ∷ (c ∷ (d ∷ (e ∷ []))))) long = absurd (omega arith)
seen (a ∷ (b ∷ (c ∷ (d ∷ (e ∷ (f ∷ [])))))) long = absurd (omega arith)
seen (a ∷ (b ∷ (c ∷ (d ∷ (e ∷ (f ∷ (g ∷ []))))))) long = absurd (omega arith)
seen (a ∷ (b ∷ (c ∷ (d ∷ (e ∷ (f ∷ (g ∷ (h ∷ (i ∷ more))))))))) long = absurd (omega arith)
