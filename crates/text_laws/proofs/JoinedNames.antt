-- Two names, or a name and a number, joined by `_` are a name if they are short enough.
use Rattle.std.proofs.Common.{◌≡◌, ℕ, zero, suc, ◌+◌, ◌/◌, ◌%◌, ◌^◌, ◌<◌, ◌≤◌, ◌==◌, Bool, true, false, ◌⊎◌, inl, inr, List, [], ◌∷◌, ◌++◌, length, codes, refl, ap, sym, ◌∙◌, arith, true≢false}
use Rattle.std.specs.Fmt.{decimal}
use Rattle.std.specs.List.{list_all, list_any}
use Rattle.std.proofs.lemmas.Bool.{and_parts, leb-true, le-leb}
use Rattle.std.proofs.lemmas.Bool.Decides.{nat_tests}
use Rattle.std.proofs.lemmas.Fmt.{decimal_digit, decimal_step, decimal_by_steps}
use Rattle.std.proofs.lemmas.List.{length-append}
use Rattle.std.proofs.lemmas.List.Folds.{list_all-append}
use Rattle.std.proofs.lemmas.Grind.{common_steps}
use Rattle.plan_core.specs.Names.{IsName, is_name, is_name_byte, is_reserved, reserved_words, begins_with_letter}
use Rattle.plan_core.proofs.BuildingLemmas.{same-bytes_eq}
use Rattle.text_laws.proofs.Membership.{In, any_in, in_any, in_left, in_right, is_false}

abbrev strokes : List ℕ → Bool
strokes name = list_any (λ c. c == 95) name

-- none of the words of plans has a `_`
no_stroke : (w : List ℕ) → In w reserved_words → strokes w ≡ false
no_stroke w h = grind arith

not_reserved : (name : List ℕ) → strokes name ≡ true → is_reserved name ≡ false
not_reserved name some = grind (arith, common_steps, is_false, any_in, same-bytes_eq, no_stroke)

-- what a name is made of
pub record NameParts (name : List ℕ) : Type 0 where
  pub first : begins_with_letter name ≡ true
  pub all : list_all is_name_byte name ≡ true
  pub short : length name ≤ 32

pub name_parts : (name : List ℕ) → IsName name → NameParts name
unfolding is_name
name_parts name is = grind (arith, common_steps, and_parts, leb-true)

pub is_joined : (first second : List ℕ) → IsName first → list_all is_name_byte second ≡ true → length (first ++ codes "_" ++ second) ≤ 32 → IsName (first ++ codes "_" ++ second)
unfolding is_name
is_joined [] second is all short = absurd (true≢false (sym (name_parts [] is).first))
is_joined (c ∷ first) second is all short =
    let parts = name_parts (c ∷ first) is in
    let whole = (c ∷ first) ++ codes "_" ++ second in
    let bytes : list_all is_name_byte whole ≡ true = list_all-append is_name_byte ((c ∷ first) ++ codes "_") second ∙ rw (list_all-append is_name_byte (c ∷ first) (codes "_"), parts.all, all) refl in
    let stroke : strokes whole ≡ true = in_any (λ b. b == 95) whole 95 (in_left 95 ((c ∷ first) ++ codes "_") second (in_right 95 (c ∷ first) (codes "_") (inl refl))) refl in
    rw (parts.first, bytes, le-leb (length whole) 32 short, not_reserved whole stroke) refl

-- ---- numbers

digit_is : (n : ℕ) → n < 10 → is_name_byte (48 + n) ≡ true
digit_is n h = grind (arith, nat_tests)

pub decimal_bytes : (n : ℕ) → n < 2 ^ 64 → list_all is_name_byte (decimal n) ≡ true
decimal_bytes n h =
    decimal_by_steps (λ m ds. list_all is_name_byte ds ≡ true)
    (λ m small. rw (digit_is m small) refl)
    (λ m ds large before. list_all-append is_name_byte ds ((48 + m % 10) ∷ []) ∙ rw (before, digit_is (m % 10) (omega arith)) refl)
    n h

Longest : ℕ → List ℕ → Type 0
Longest n ds = n < 2 ^ 64 → (m : ℕ) → m ≤ n → length (decimal m) ≤ length ds

-- a smaller number is no longer
pub decimal_shorter : (m n : ℕ) → n < 2 ^ 64 → m ≤ n → length (decimal m) ≤ length (decimal n)
unfolding Longest
decimal_shorter m n h below = decimal_by_steps Longest one more n h h m below
  where
    one : (k : ℕ) → k < 10 → Longest k ((48 + k) ∷ [])
    one k small bound j less = let is = ap length (decimal_digit j (omega arith)) in omega (arith, is)

    cases : (a b : ℕ) → (a < b) ⊎ (b ≤ a)
    cases a zero = inr (omega arith)
    cases zero (suc b) = inl (omega arith)
    cases (suc a) (suc b) = elim (cases a b) [ inl l ↦ inl (omega arith) | inr g ↦ inr (omega arith) ]

    more : (k : ℕ) (ds : List ℕ) → 10 ≤ k → Longest (k / 10) ds → Longest k (ds ++ ((48 + k % 10) ∷ []))
    more k ds large before bound j less = grind (arith, common_steps, decimal_digit, length-append, decimal_step)
