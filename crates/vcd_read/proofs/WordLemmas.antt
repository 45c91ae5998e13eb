-- Codes and times, from byte to byte.
use Rattle.std.proofs.Common.{◌≡◌, ◌<◌, ◌≤◌, ◌+◌, ◌-◌, ◌*◌, ◌^◌, ℕ, suc, Bool, true, false, List, [], ◌∷◌, length, drop, get_or, Option, Some, None, refl, ap, sym, ◌∙◌, arith, ◌==◌, nat_le, drop-cons, add-one}
use Rattle.std.specs.Prelude.{if◌then◌else◌, IfSome}
use Rattle.std.specs.List.{list_all}
use Rattle.std.proofs.Math.Nat.{pow-le-pow_right, pow-suc}
use Rattle.std.proofs.lemmas.Bool.{le-leb, leb-true, and_from, lt-ltb}
use Rattle.std.proofs.lemmas.Bool.Decides.{nat_tests}
use Rattle.vcd_read.specs.Tokens.{is_white, has_white}
use Rattle.vcd_read.specs.Words.{is_empty, is_value, is_vector, is_code, is_code_byte, is_digit, number_from, below_limit, time_of}
use Rattle.vcd_read.proofs.RunLemmas.{and_both}

pub some_bytes : (bytes : List ℕ) → (length bytes == 0) ≡ false → is_empty bytes ≡ false
some_bytes [] none = none
some_bytes (byte ∷ bytes) some = refl

pub code_of_some : (bytes : List ℕ) → (length bytes == 0) ≡ false → list_all is_code_byte bytes ≡ is_code bytes
code_of_some [] none = none
code_of_some (byte ∷ bytes) some = refl

-- ---- the digits of a vector

pub vector_of_some : (digits : List ℕ) → (length digits == 0) ≡ false → list_all is_value digits ≡ is_vector digits
vector_of_some [] none = none
vector_of_some (digit ∷ digits) some = refl

-- ---- times

-- one more digit is read
pub number_next : (digits : List ℕ) (number i : ℕ) → i < length digits → 48 ≤ get_or digits i 0 → get_or digits i 0 ≤ 57 →
    number_from number (drop i digits) ≡ number_from (number * 10 + (get_or digits i 0 - 48)) (drop (i + 1) digits)
number_next digits number i within low high =
    let test : is_digit (get_or digits i 0) ≡ true = and_from _ _ (le-leb 48 (get_or digits i 0) low) (le-leb (get_or digits i 0) 57 high) in
    rw (drop-cons digits i 0 within, test, add-one) refl

pub one_more : (number i digit : ℕ) → number < 10 ^ (8 + i) → digit < 10 → number * 10 + digit < 10 ^ (8 + (i + 1))
one_more number i digit small one =
    let power : 10 ^ (8 + (i + 1)) ≡ 10 ^ (8 + i) * 10 = ap (λ k. 10 ^ k) {x = 8 + (i + 1)} {y = suc (8 + i)} (omega arith) ∙ pow-suc 10 (8 + i) in
    omega arith

-- fewer than 20 digits, and one more
pub few_digits : (time i n : ℕ) → time < 10 ^ i → i < n → n < 20 → time * 10 + 9 < 2 ^ 64
few_digits time i n small before few =
    let at_most : 10 ^ i ≤ 10 ^ 18 = pow-le-pow_right {n = 10} (omega arith) {i = i} {j = 18} (omega arith) in
    omega arith

guarded : (test : Bool) (number : Option ℕ) → below_limit number ≡ None → below_limit (if test then number else None) ≡ None
guarded true number h = h
guarded false number h = refl

not_below : (number : ℕ) → 2 ^ 64 ≤ number → below_limit (Some number) ≡ None
not_below number large = grind (arith, nat_tests)

-- more digits make no number smaller
too_large : (digits : List ℕ) (number : ℕ) → 2 ^ 64 ≤ number → below_limit (number_from number digits) ≡ None
too_large [] number large = not_below number large
too_large (digit ∷ digits) number large = guarded (is_digit digit) _ (too_large digits (number * 10 + (digit - 48)) (omega arith))

-- the time of these digits is too large, since it is from the first of them on
pub time_too_large : (digits rest : List ℕ) (number : ℕ) → (length digits == 0) ≡ false → 2 ^ 64 ≤ number → number_from number rest ≡ number_from 0 digits → time_of digits ≡ None
time_too_large digits rest number some large same =
    rw (some_bytes digits some) (ap below_limit (sym same) ∙ too_large rest number large)

pub time_is : (digits : List ℕ) (number : ℕ) → (length digits == 0) ≡ false → number < 2 ^ 64 → Some number ≡ number_from 0 digits → Some number ≡ time_of digits
time_is digits number some small same =
    rw (some_bytes digits some, ← same, lt-ltb number (2 ^ 64) small) refl

-- a number of eight digits is the time
pub time_from_eight : (digits : List ℕ) (number : Option ℕ) → (length digits == 0) ≡ false → number ≡ number_from 0 digits → IfSome number (λ n. n < 10 ^ 8) → number ≡ time_of digits
time_from_eight digits None some same fits = rw (some_bytes digits some, ← same) refl
time_from_eight digits (Some number) some same fits =
    let small : number < 10 ^ 8 = fits in
    time_is digits number some (omega arith) same

-- ---- a time is a code

digit_is_code : (digit : ℕ) → is_digit digit ≡ true → is_code_byte digit ≡ true
digit_is_code digit is =
    let parts = and_both (nat_le 48 digit) (nat_le digit 57) is in
    let low : 48 ≤ digit = leb-true 48 digit parts.0 in
    let high : digit ≤ 57 = leb-true digit 57 parts.1 in
    and_from _ _ (le-leb 33 digit (omega arith)) (le-leb digit 126 (omega arith))

digits_by : (digit : ℕ) (digits : List ℕ) (number time : ℕ) (test : Bool) → is_digit digit ≡ test →
    ((next : ℕ) → number_from next digits ≡ Some time → list_all is_code_byte digits ≡ true) → number_from number (digit ∷ digits) ≡ Some time → list_all is_code_byte (digit ∷ digits) ≡ true
digits_by digit digits number time true is each of_number =
    let rest = rw is at of_number in
    and_from _ _ (digit_is_code digit is) (each (number * 10 + (digit - 48)) rest)
digits_by digit digits number time false is each of_number = let h = rw is at of_number in absurd cc

digits_are_code : (digits : List ℕ) (number time : ℕ) → number_from number digits ≡ Some time → list_all is_code_byte digits ≡ true
digits_are_code [] number time of_number = refl
digits_are_code (digit ∷ digits) number time of_number =
    digits_by digit digits number time (is_digit digit) refl (λ next. digits_are_code digits next time) of_number

within : (number : Option ℕ) (time : ℕ) → below_limit number ≡ Some time → (found : ℕ) × (number ≡ Some found)
within None time is = absurd cc
within (Some found) time is = (found, refl)

pub time_is_code : (digits : List ℕ) (time : ℕ) → time_of digits ≡ Some time → is_code (35 ∷ digits) ≡ true
time_is_code [] time is = absurd cc
time_is_code (digit ∷ digits) time is =
    let number = within (number_from 0 (digit ∷ digits)) time is in
    digits_are_code (digit ∷ digits) 0 number.0 number.1

-- ---- a code is one token

code_is_not_white : (byte : ℕ) → is_code_byte byte ≡ true → is_white byte ≡ false
code_is_not_white byte is =
    let parts = and_both (nat_le 33 byte) (nat_le byte 126) is in
    let low : 33 ≤ byte = leb-true 33 byte parts.0 in
    grind (arith, nat_tests)

no_white : (bytes : List ℕ) → list_all is_code_byte bytes ≡ true → has_white bytes ≡ false
no_white [] are = refl
no_white (byte ∷ bytes) are =
    let parts = and_both (is_code_byte byte) (list_all is_code_byte bytes) are in
    rw (code_is_not_white byte parts.0) (no_white bytes parts.1)

pub code_is_one_token : (bytes : List ℕ) → is_code bytes ≡ true → has_white bytes ≡ false
code_is_one_token [] is = absurd cc
code_is_one_token (byte ∷ bytes) is = no_white (byte ∷ bytes) is
