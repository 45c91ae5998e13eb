-- The places of two bytes, by digits.
use Rattle.std.proofs.Common.{◌≡◌, ◌≢◌, ℕ, zero, suc, ◌+◌, ◌-◌, ◌*◌, ◌/◌, ◌%◌, ◌^◌, ◌<◌, ◌≤◌, ◌↔◌, min, max, Bool, true, false, not, nat_eq, IsTrue, Option, Some, slice_get, bit_and, bit_or, List, length, refl, sym, ◌∙◌, subst, arith, inl, inr}
use Rattle.std.specs.Int.{bit_at, bit_not, w8, trailing_zeros}
use Rattle.std.specs.Int.Count.{count_leading_zeros}
use Rattle.std.proofs.Math.Nat.{div-eq_of_lt-le, pow-succ'}
use Rattle.std.proofs.Math.Pow.{pow_mono}
use Rattle.std.proofs.lemmas.Bool.{cases_lt}
use Rattle.std.proofs.lemmas.Bool.Decides.{nat_tests}
use Rattle.std.proofs.lemmas.Nat.{leading_top}
use Rattle.std.proofs.lemmas.Nat.Bits.{bit_at_and, bit_at_or, bit_at_not, bit_at-lt, bit_at-zero, bit_at_ones, bit_at_ones_above, bit_at_above, bit_at-trailing_zeros}
use Rattle.std.proofs.lemmas.Option.{slice_get_within}
use Rattle.plan_core.proofs.ListLemmas.{some_at}
use Rattle.message_tree.specs.declared.bits.Bit.{Bit}
use Rattle.message_tree.specs.declared.bits.Bit.TheVariants.{Zero, One, Either}
use Rattle.message_tree.specs.Bits.{SplitAt, NeverSplit}
use Rattle.message_tree.specs.Texts.{Allows}
use Rattle.arbitration.specs.declared.bits.Choices.{Choices}
use Rattle.arbitration.specs.declared.spans.Slots.{Slots}
use Rattle.arbitration.specs.Choices.{HasDigit, MayBe, AreChoices, IsBefore}
use Rattle.arbitration.specs.Spans.{IsSpan, Spans}
use Rattle.arbitration.specs.Ways.{WinsAt}
use Rattle.arbitration.proofs.SpanLemmas.{span_same}

pub is_within : (xs : List Bit) (k : ℕ) (b : Bit) → slice_get xs k ≡ Some b → k < length xs
is_within xs k b h = slice_get_within xs k b h

-- ---- two that are the same never part

one_bit : (bs : List Bit) (k : ℕ) (b c : Bit) → slice_get bs k ≡ Some b → slice_get bs k ≡ Some c → b ≡ c
one_bit bs k b c e f = let g : Some b ≡ Some c = sym e ∙ f in cc

pub never_part : (bs : List Bit) → NeverSplit bs bs
never_part bs k (inl h) = let e = one_bit bs k Zero One h.0 h.1 in cc
never_part bs k (inr h) = let e = one_bit bs k One Zero h.0 h.1 in cc

pub same_never_part : (bs cs : List Bit) → bs ≡ cs → NeverSplit bs cs
same_never_part bs cs e = subst (NeverSplit bs) e (never_part bs)

split_sym : (bs cs : List Bit) (k : ℕ) → SplitAt bs cs k → SplitAt cs bs k
split_sym bs cs k (inl h) = inr (h.1, h.0)
split_sym bs cs k (inr h) = inl (h.1, h.0)

-- ---- the digits of choices

here : (bs : List Bit) (value : Bool) (k old new : ℕ) (b : Bit) (is : Bool) → slice_get bs k ≡ Some b → (IsTrue is ↔ Allows b value) → (is ≡ true → HasDigit new k) → (is ≡ false → new ≡ old) → ((j : ℕ) → HasDigit old j ↔ ((j < k) × MayBe bs value j)) → HasDigit new k ↔ ((k < k + 1) × MayBe bs value k)
here bs value k old new b true at means set same so_far = (λ h. (omega arith, (b, at, means.0 refl)), λ m. set refl)
here bs value k old new b false at means set same so_far = (
  λ h. let m = (so_far k).0 (subst (λ (n : ℕ). HasDigit n k) (same refl) h) in absurd (omega (arith, m.0)),
  λ m. let e : false ≡ true = means.1 (subst (λ (c : Bit). Allows c value) (one_bit bs k m.1.0 b m.1.1 at) m.1.2) in absurd cc,
)

elsewhere : (bs : List Bit) (value : Bool) (k j old new : ℕ) → j ≢ k → bit_at new j ≡ bit_at old j → (HasDigit old j ↔ ((j < k) × MayBe bs value j)) → HasDigit new j ↔ ((j < k + 1) × MayBe bs value j)
elsewhere bs value k j old new n e so_far = (
  λ h. let m = so_far.0 (sym e ∙ h) in (omega (arith, m.0), m.1),
  λ m. e ∙ so_far.1 (omega (arith, m.0, n), m.1),
)

-- the digits so far, and one more
pub one_more_digit : (bs : List Bit) (value : Bool) (k old new : ℕ) (b : Bit) (is : Bool) → slice_get bs k ≡ Some b → (IsTrue is ↔ Allows b value) → (is ≡ true → HasDigit new k) → (is ≡ false → new ≡ old) → ((j : ℕ) → j ≢ k → bit_at new j ≡ bit_at old j) → ((j : ℕ) → HasDigit old j ↔ ((j < k) × MayBe bs value j)) → (j : ℕ) → HasDigit new j ↔ ((j < k + 1) × MayBe bs value j)
one_more_digit bs value k old new b is at means set same others so_far j =
    elim (cases_lt j k) [
      | inl lt ↦ (let n : j ≢ k = λ e. omega (arith, e) in elsewhere bs value k j old new n (others j n) (so_far j))
      | inr le ↦ elim (cases_lt k j) [
        | inl more ↦ (let n : j ≢ k = λ e. omega (arith, e) in elsewhere bs value k j old new n (others j n) (so_far j))
        | inr ge ↦ (let e : k ≡ j = omega arith in subst (λ (i : ℕ). HasDigit new i ↔ ((i < k + 1) × MayBe bs value i)) e (here bs value k old new b is at means set same so_far))
      ]
    ]

-- all digits
pub all_digits : (bs : List Bit) (value : Bool) (n digits : ℕ) → length bs ≡ 8 → 8 ≤ n → ((j : ℕ) → HasDigit digits j ↔ ((j < n) × MayBe bs value j)) → (j : ℕ) → HasDigit digits j ↔ MayBe bs value j
all_digits bs value n digits l le so_far j =
    (λ h. ((so_far j).0 h).1, λ m. (so_far j).1 (omega (arith, is_within bs j m.0 m.1, l), m))

-- ---- where two are known and different

abbrev zero_of : Bit → ℕ
zero_of Zero = 1
zero_of One = 0
zero_of Either = 1

abbrev one_of : Bit → ℕ
one_of Zero = 0
one_of One = 1
one_of Either = 1

digit_of : (d : ℕ) → d < 2 → (d ≡ 1 → ⊥) → d ≡ 0
digit_of d l n = omega (arith, l, n)

zero_digit : (b : Bit) (d : ℕ) → d < 2 → (d ≡ 1 ↔ Allows b false) → d ≡ zero_of b
zero_digit Zero d l i = i.1 refl
zero_digit One d l i = digit_of d l (λ e. let f : false ≡ true = i.0 e in cc)
zero_digit Either d l i = i.1 tt

one_digit : (b : Bit) (d : ℕ) → d < 2 → (d ≡ 1 ↔ Allows b true) → d ≡ one_of b
one_digit Zero d l i = digit_of d l (λ e. let f : true ≡ false = i.0 e in cc)
one_digit One d l i = i.1 refl
one_digit Either d l i = i.1 tt

at_place : (bs : List Bit) (value : Bool) (k digits : ℕ) (b : Bit) → slice_get bs k ≡ Some b → (HasDigit digits k ↔ MayBe bs value k) → HasDigit digits k ↔ Allows b value
at_place bs value k digits b at is = (
  λ h. let m = is.0 h in subst (λ (c : Bit). Allows c value) (one_bit bs k m.0 b m.1 at) m.2,
  λ a. is.1 (b, at, a),
)

module _ (bs cs : List Bit) (c d : Choices) (is : AreChoices bs c) (are : AreChoices cs d) (k : ℕ) where
  abbrev Agree : ℕ
  Agree = bit_or (bit_and c.zero d.zero) (bit_and c.one d.one)

  digits : (x y : Bit) → slice_get bs k ≡ Some x → slice_get cs k ≡ Some y → bit_at Agree k ≡ max (min (zero_of x) (zero_of y)) (min (one_of x) (one_of y))
  digits x y e f =
      let p = zero_digit x (bit_at c.zero k) (bit_at-lt c.zero k) (at_place bs false k c.zero x e (is.zero k)) in
      let q = zero_digit y (bit_at d.zero k) (bit_at-lt d.zero k) (at_place cs false k d.zero y f (are.zero k)) in
      let r = one_digit x (bit_at c.one k) (bit_at-lt c.one k) (at_place bs true k c.one x e (is.one k)) in
      let s = one_digit y (bit_at d.one k) (bit_at-lt d.one k) (at_place cs true k d.one y f (are.one k)) in
      rw (bit_at_or (bit_and c.zero d.zero) (bit_and c.one d.one) k, bit_at_and c.zero d.zero k, bit_at_and c.one d.one k, p, q, r, s) refl

  splits_at : (x y : Bit) (agree : ℕ) → slice_get bs k ≡ Some x → slice_get cs k ≡ Some y → agree ≡ max (min (zero_of x) (zero_of y)) (min (one_of x) (one_of y)) → 1 - agree ≡ 1 → SplitAt bs cs k
  splits_at Zero One agree e f g h = inl (e, f)
  splits_at One Zero agree e f g h = inr (e, f)
  splits_at Either Zero agree e f g h = absurd (omega (arith, g, h))
  splits_at Either One agree e f g h = absurd (omega (arith, g, h))
  splits_at x y agree e f g h = absurd (omega (arith, g, h))

  split_digit : Agree < 2 ^ 8 → SplitAt bs cs k → HasDigit (bit_not w8 Agree) k
  split_digit l (inl h) =
      let a = digits Zero One h.0 h.1 in
      bit_at_not w8 Agree k l (omega (arith, is_within bs k Zero h.0, is.eight)) ∙ omega (arith, a)
  split_digit l (inr h) =
      let a = digits One Zero h.0 h.1 in
      bit_at_not w8 Agree k l (omega (arith, is_within bs k One h.0, is.eight)) ∙ omega (arith, a)

  pub split_digits : (result : ℕ) → result ≡ bit_not w8 Agree → result < 2 ^ 8 → Agree < 2 ^ 8 → HasDigit result k ↔ SplitAt bs cs k
  split_digits result e fits l = (
    λ h. elim (cases_lt k 8) [
      | inl lt ↦ (let x = some_at bs k (omega (arith, lt, is.eight)) in let y = some_at cs k (omega (arith, lt, are.eight)) in
          let g = subst (λ (n : ℕ). HasDigit n k) e h in
          splits_at x.0 y.0 (bit_at Agree k) x.1 y.1 (digits x.0 y.0 x.1 y.1) (sym (bit_at_not w8 Agree k l lt) ∙ g))
      | inr ge ↦ absurd (omega (arith, h, bit_at_above result 8 k fits ge))
    ],
    λ s. subst (λ (n : ℕ). HasDigit n k) (sym e) (split_digit l s),
  )

-- ---- places before the first split

module _ (places t : ℕ) (one : HasDigit places t) (zeros : (i : ℕ) → i < t → bit_at places i ≡ 0) where
  pub up_to : (result k : ℕ) → result ≡ 2 ^ suc t - 1 → HasDigit result k ↔ IsBefore places k
  up_to result k e = (
    λ h j l i. elim (cases_lt j t) [
      | inl lt ↦ omega (arith, zeros j lt, i)
      | inr ge ↦ (let z = bit_at_ones_above (suc t) k (omega arith) in let g = subst (λ (n : ℕ). HasDigit n k) e h in omega (arith, z, g))
    ],
    λ b. elim (cases_lt t k) [
      | inl lt ↦ absurd (b t lt one)
      | inr ge ↦ subst (λ (n : ℕ). HasDigit n k) (sym e) (bit_at_ones (suc t) k (omega arith))
    ],
  )

pub none_before : (places k : ℕ) → places ≡ 0 → IsBefore places k
none_before places k e j l h = let g = subst (λ (n : ℕ). HasDigit n j) e h in omega (arith, g, bit_at-zero j)

-- 2 ^ (t + 1) - 1, as it is computed
pub ones_below : (t : ℕ) → t < 8 → 2 * 2 ^ t % 2 ^ 32 - 1 ≡ 2 ^ suc t - 1
ones_below t l = let m : 2 ^ t ≤ 2 ^ 7 = pow_mono {i = t} {j = 7} (omega (arith, l)) in omega (arith, m, pow-succ' 2 t)

-- some place is a split where some digit is 1
pub is_some : (bs cs : List Bit) (splits : ℕ) → splits < 2 ^ 8 → ((k : ℕ) → HasDigit splits k ↔ SplitAt bs cs k) → IsTrue (not (nat_eq splits 0)) ↔ ((k : ℕ) × SplitAt bs cs k)
is_some bs cs zero fits h = (λ e. cc, λ s. let d = (h s.0).1 s.1 in absurd (omega (arith, d, bit_at-zero s.0)))
is_some bs cs (suc n) fits h =
    let t = bit_at-trailing_zeros w8 (suc n) (omega arith) fits in
    (λ e. (trailing_zeros w8 (suc n), (h (trailing_zeros w8 (suc n))).0 t.1), λ s. grind (arith, nat_tests))

-- ---- where one may win

pub wins : (bs cs : List Bit) (z o splits before : ℕ) → length bs ≡ 8 → ((k : ℕ) → HasDigit z k ↔ MayBe bs false k) → ((k : ℕ) → HasDigit o k ↔ MayBe cs true k) → ((k : ℕ) → HasDigit splits k ↔ SplitAt bs cs k) → ((k : ℕ) → k < 8 → HasDigit before k ↔ IsBefore splits k) → (found : Option Slots) → IsSpan (HasDigit (bit_and (bit_and z o) before)) found → IsSpan (WinsAt bs cs) found
wins bs cs z o splits before l is are split until found h =
    span_same (HasDigit (bit_and (bit_and z o) before)) (WinsAt bs cs) found (λ k d. let f = bit_at_and (bit_and z o) before k in let g = bit_at_and z o k in
    let p : HasDigit z k = omega (arith, d, f, g, bit_at-lt z k, bit_at-lt o k, bit_at-lt before k) in
    let q : HasDigit o k = omega (arith, d, f, g, bit_at-lt z k, bit_at-lt o k, bit_at-lt before k) in
    let r : HasDigit before k = omega (arith, d, f, g, bit_at-lt z k, bit_at-lt o k, bit_at-lt before k) in
    let a = (is k).0 p in
    let n = (until k (omega (arith, is_within bs k a.0 a.1, l))).0 r in
    record { zero = a; one = (are k).0 q; before = λ j i s. n j i ((split j).1 s) }) (λ k w. let p = (is k).1 w.zero in let q = (are k).1 w.one in
    let r = (until k (omega (arith, is_within bs k w.zero.0 w.zero.1, l))).1 (λ j i d. w.before j i ((split j).0 d)) in
    rw (bit_at_and (bit_and z o) before k, bit_at_and z o k, p, q, r) refl) h

pub split_other : (bs cs : List Bit) (splits : ℕ) → ((k : ℕ) → HasDigit splits k ↔ SplitAt bs cs k) → (k : ℕ) → HasDigit splits k ↔ SplitAt cs bs k
split_other bs cs splits h k = (λ d. split_sym bs cs k ((h k).0 d), λ s. (h k).1 (split_sym cs bs k s))

-- ---- the first and the last of some places

top_digit : (n j : ℕ) → 2 ^ j ≤ n → n < 2 ^ suc j → HasDigit n j
top_digit n j le lt =
    let quotient : n / 2 ^ j ≡ 1 = div-eq_of_lt-le (2 ^ j) (omega arith) (omega arith) in
    rw quotient refl

pub first_and_last : (n : ℕ) (slots : Slots) → 0 < n → n < 2 ^ 8 → slots.earliest ≡ trailing_zeros w8 n → slots.latest + count_leading_zeros 8 n ≡ 7 → Spans (HasDigit n) slots
first_and_last n slots pos fits e f =
    let low = bit_at-trailing_zeros w8 n pos fits in
    let top = leading_top 8 n pos fits in
    let j : top.0 ≡ slots.latest = omega (arith, top.1, f) in
    record {
      earliest = subst (HasDigit n) (sym e) low.1;
      latest = subst (HasDigit n) j (top_digit n top.0 top.2 top.3);
      within = λ k h. (
        elim (cases_lt k slots.earliest) [ inl lt ↦ absurd (omega (arith, h, low.2 k (omega (arith, lt, e)))) | inr ge ↦ ge ],
        elim (cases_lt top.0 k) [ inl lt ↦ absurd (omega (arith, h, bit_at_above n (suc top.0) k top.3 (omega (arith, lt)))) | inr ge ↦ omega (arith, ge, j) ],
      );
    }
