-- Words of bits and of digits, from character to character.

use Rattle.std.proofs.Common.{◌≡◌, ◌≢◌, ◌<◌, ◌≤◌, ◌+◌, ◌-◌, ◌*◌, ◌/◌, ◌^◌, ℕ, zero, suc, true, false, ◌&&◌, List, [], ◌∷◌, ◌++◌, length, map, take, drop, length-drop, get_or, Some, None, refl, ap, sym, ◌∙◌, arith, add-one, nat_le, ◌==◌, inl, inr, lit<, lit≤}
use Rattle.std.specs.Int.{bit_at}
use Rattle.std.specs.List.{list_all}
use Rattle.std.specs.Char.{is_ascii_digit, digit_value}
use Rattle.std.proofs.Math.Nat.{pow-suc}
use Rattle.std.proofs.Math.Seq.{take-suc}
use Rattle.std.proofs.lemmas.Bool.{and_left, and_right, and_from, and_parts, and_cases, or_parts, cases_eq, true_from_ne_false, false_from_ne_true, eq-eqb, ne_eqb, lt-leb}
use Rattle.std.proofs.lemmas.Bool.Decides.{nat_tests}
use Rattle.std.proofs.lemmas.Int.Digits.{digits_value_more}
use Rattle.std.proofs.lemmas.List.{map-append, take_all, drop-drop}
use Rattle.std.proofs.lemmas.List.Folds.{list_all_at}
use Rattle.std.proofs.lemmas.Nat.Bits.{bit_at_lowest, bit_at-suc, bit_at-lt, bit_at_ones, same_from_bits_below}
use Rattle.std.proofs.lemmas.Str.Parse.{digits_value-take-le}
use Rattle.message_tree.specs.declared.bits.Bit.{Bit}
use Rattle.message_tree.specs.declared.bits.Bit.TheVariants.{Zero, One, Either}
use Rattle.message_tree.specs.Bits.{bit_from, bits_below}
use Rattle.plan_text.specs.Symbols.{bit_symbol}
use Rattle.plan_text.specs.Words.{is_bit, is_known_bit, is_known_address, is_digits, number, around_dots, count_ends}

-- ---- bits

-- a digit that is put at the low end
lowest_digit : (n d : ℕ) → d < 2 → bit_at (n * 2 + d) 0 ≡ d
lowest_digit n d small = bit_at_lowest (n * 2 + d) ∙ omega arith

higher_digit : (n d i : ℕ) → d < 2 → bit_at (n * 2 + d) (suc i) ≡ bit_at n i
higher_digit n d i small =
    let half : (n * 2 + d) / 2 ≡ n = omega arith in
    bit_at-suc (n * 2 + d) i ∙ ap (λ m. bit_at m i) half

pub bits_below_push : (k known value a b : ℕ) → a < 2 → b < 2 → bits_below (suc k) (known * 2 + a) (value * 2 + b) ≡ bits_below k known value ++ (bit_from a b ∷ [])
bits_below_push zero known value a b small low = rw (lowest_digit known a small, lowest_digit value b low) refl
bits_below_push (suc k) known value a b small low =
    rw (higher_digit known a k small, higher_digit value b k low, bits_below_push k known value a b small low) refl

-- one more character is read
pub bits_more : (word : List ℕ) (k known value a b : ℕ) → k < length word → a < 2 → b < 2 → bit_symbol (bit_from a b) ≡ get_or word k 0 →
    map bit_symbol (bits_below k known value) ≡ take k word → map bit_symbol (bits_below (k + 1) (known * 2 + a) (value * 2 + b)) ≡ take (k + 1) word
bits_more word k known value a b within small low here before =
    ap (λ n. map bit_symbol (bits_below n (known * 2 + a) (value * 2 + b))) (add-one k)
    ∙ ap (map bit_symbol) (bits_below_push k known value a b small low)
    ∙ map-append bit_symbol (bits_below k known value) (bit_from a b ∷ [])
    ∙ ap (λ l. l ++ (bit_symbol (bit_from a b) ∷ [])) before
    ∙ ap (λ c. take k word ++ (c ∷ [])) here
    ∙ sym (ap (λ n. take n word) (add-one k) ∙ take-suc word k 0 within)

pub next_fits : (n k d : ℕ) → n < 2 ^ k → d < 2 → n * 2 + d < 2 ^ (k + 1)
next_fits n k d fits small = let more : 2 ^ (k + 1) ≡ 2 ^ k * 2 = ap (λ m. 2 ^ m) (add-one k) ∙ pow-suc 2 k in omega arith

symbol_is_bit : (bit : Bit) → is_bit (bit_symbol bit) ≡ true
symbol_is_bit Zero = refl
symbol_is_bit One = refl
symbol_is_bit Either = refl

pub all_bits : (bits : List Bit) → list_all is_bit (map bit_symbol bits) ≡ true
all_bits [] = refl
all_bits (bit ∷ bits) = and_from _ _ (symbol_is_bit bit) (all_bits bits)

-- ---- known bits

known_from_symbol : (known value : ℕ) → known < 2 → is_known_bit (bit_symbol (bit_from known value)) ≡ true → known ≡ 1
known_from_symbol zero value small h = absurd cc
known_from_symbol (suc known) value small h = omega arith

symbol_of_known : (known value : ℕ) → known ≡ 1 → is_known_bit (bit_symbol (bit_from known value)) ≡ true
symbol_of_known zero value one = absurd (omega arith)
symbol_of_known (suc known) zero one = refl
symbol_of_known (suc known) (suc value) one = refl

known_digits : (n known value : ℕ) → list_all is_known_bit (map bit_symbol (bits_below n known value)) ≡ true → (i : ℕ) → i < n → bit_at known i ≡ 1
known_digits zero known value h i within = absurd (omega arith)
known_digits (suc n) known value h i within =
    let parts = and_parts _ _ h in
    let top = known_from_symbol (bit_at known n) (bit_at value n) (bit_at-lt known n) parts.0 in
    elim (cases_eq i n) [ inl e ↦ ap (bit_at known) e ∙ top | inr other ↦ known_digits n known value parts.1 i (omega arith) ]

pub all_ones : (known value : ℕ) → known < 2 ^ 7 → list_all is_known_bit (map bit_symbol (bits_below 7 known value)) ≡ true → known ≡ 127
all_ones known value small h = same_from_bits_below 7 known 127 small (lit< tt) (λ i within. known_digits 7 known value h i within ∙ sym (bit_at_ones 7 i within))

pub all_known : (n value : ℕ) → n ≤ 7 → list_all is_known_bit (map bit_symbol (bits_below n 127 value)) ≡ true
all_known zero value h = refl
all_known (suc n) value h = and_from _ _ (symbol_of_known (bit_at 127 n) (bit_at value n) (bit_at_ones 7 n (omega arith))) (all_known n value (omega arith))

-- seven known bits
pub known_address_whole : (word : List ℕ) (known value : ℕ) → length word ≡ 7 → known ≡ 127 → map bit_symbol (bits_below (length word) known value) ≡ word → is_known_address word ≡ true
known_address_whole word known value seven one bits =
    let same : map bit_symbol (bits_below 7 127 value) ≡ word = rw (seven, one) at bits in
    and_from _ _ (eq-eqb (length word) 7 seven) (ap (list_all is_known_bit) (sym same) ∙ all_known 7 value (omega arith))

-- an open bit among seven
pub no_known_address : (word : List ℕ) (known value : ℕ) → length word ≡ 7 → known < 2 ^ length word → (known ≡ 127 → ⊥) → map bit_symbol (bits_below (length word) known value) ≡ word → is_known_address word ≡ false
no_known_address word known value seven small other bits =
    let same : map bit_symbol (bits_below 7 known value) ≡ word = rw seven at bits in
    let fits : known < 2 ^ 7 = rw seven at small in
    and_right _ _ (false_from_ne_true _ (λ all. other (all_ones known value fits (ap (list_all is_known_bit) same ∙ all))))

-- what is no word of bits is no word of known bits
pub no_known_bits : (word : List ℕ) → list_all is_bit word ≡ false → list_all is_known_bit word ≡ false
no_known_bits [] h = h
no_known_bits (byte ∷ word) h =
    elim (and_cases (is_bit byte) (list_all is_bit word) h) [ inl here ↦ and_left _ _ (or_parts (is_known_bit byte) (byte == 120) here).0 | inr later ↦ and_right (is_known_bit byte) _ (no_known_bits word later) ]

-- ---- digits

pub all_digits : (word : List ℕ) → 0 < length word → list_all is_ascii_digit word ≡ is_digits word
all_digits [] h = absurd (omega arith)
all_digits (byte ∷ word) h = refl

is_digit_at : (digits : List ℕ) (i : ℕ) → is_digits digits ≡ true → i < length digits → is_ascii_digit (get_or digits i 0) ≡ true
is_digit_at digits i all within =
    let each : list_all is_ascii_digit digits ≡ true = all_digits digits (omega arith) ∙ all in
    true_from_ne_false _ (λ none. let fails = list_all_at is_ascii_digit digits i 0 within none in cc)

-- one more digit is read
pub number_more : (digits : List ℕ) (i : ℕ) → is_digits digits ≡ true → i < length digits → (48 ≤ get_or digits i 0) × (number (take (i + 1) digits) ≡ number (take i digits) * 10 + (get_or digits i 0 - 48))
number_more digits i all within =
    let digit = is_digit_at digits i all within in
    let worth : (48 ≤ get_or digits i 0) × (digit_value (get_or digits i 0) ≡ get_or digits i 0 - 48) = (grind (arith, nat_tests), grind (arith, nat_tests)) in
    (worth.0, digits_value_more 10 digits i within ∙ ap (λ n. number (take i digits) * 10 + n) worth.1)

-- where the number of the first digits is too large, that of all is
pub too_large : (digits : List ℕ) (i : ℕ) → 255 < number (take i digits) → nat_le (number digits) 255 ≡ false
too_large digits i large = lt-leb (number digits) 255 (omega (arith, digits_value-take-le 10 digits i (lit≤ tt)))

-- ---- the two ends of a count

is_dot : (byte : ℕ) → byte ≡ 46 → (byte == 46) ≡ true
is_dot byte e = eq-eqb byte 46 e

no_dot : (byte : ℕ) → byte ≢ 46 → (byte == 46) ≡ false
no_dot byte e = ne_eqb byte 46 e

-- before the first dot the bytes are skipped
skipped : (byte : ℕ) (word front back : List ℕ) → byte ≢ 46 → around_dots word ≡ Some (front, back) → around_dots (byte ∷ word) ≡ Some (byte ∷ front, back)
skipped byte [] front back e h = absurd cc
skipped byte (second ∷ word) front back e h = rw (no_dot byte e, h) refl

none_skipped : (byte : ℕ) (word : List ℕ) → byte ≢ 46 → around_dots word ≡ None → around_dots (byte ∷ word) ≡ None
none_skipped byte [] e h = refl
none_skipped byte (second ∷ word) e h = rw (no_dot byte e, h) refl

-- two dots
pub around_found : (word : List ℕ) (k : ℕ) → ((j : ℕ) → j < k → get_or word j 0 ≢ 46) → suc k < length word → get_or word k 0 ≡ 46 → get_or word (suc k) 0 ≡ 46 → around_dots word ≡ Some (take k word, drop (suc (suc k)) word)
around_found [] k before within dot other = absurd (omega arith)
around_found (byte ∷ []) k before within dot other = absurd (omega arith)
around_found (byte ∷ second ∷ word) zero before within dot other = rw (is_dot byte dot, is_dot second other) refl
around_found (byte ∷ second ∷ word) (suc k) before within dot other =
    skipped byte (second ∷ word) _ _ (before 0 (omega arith)) (around_found (second ∷ word) k (λ j h. before (suc j) (omega arith)) (omega arith) dot other)

-- a single dot
pub around_single : (word : List ℕ) (k : ℕ) → ((j : ℕ) → j < k → get_or word j 0 ≢ 46) → k < length word → get_or word k 0 ≡ 46 → (suc k < length word → get_or word (suc k) 0 ≢ 46) → around_dots word ≡ None
around_single [] k before within dot other = refl
around_single (byte ∷ []) k before within dot other = refl
around_single (byte ∷ second ∷ word) zero before within dot other = rw (is_dot byte dot, no_dot second (other (omega arith))) refl
around_single (byte ∷ second ∷ word) (suc k) before within dot other =
    none_skipped byte (second ∷ word) (before 0 (omega arith)) (around_single (second ∷ word) k (λ j h. before (suc j) (omega arith)) (omega arith) dot (λ h. other (omega arith)))

-- no dot
pub around_none : (word : List ℕ) → ((j : ℕ) → j < length word → get_or word j 0 ≢ 46) → around_dots word ≡ None
around_none [] before = refl
around_none (byte ∷ word) before = none_skipped byte word (before 0 (omega arith)) (around_none word (λ j h. before (suc j) (omega arith)))

-- the two parts, as a split at the dot gives them
pub around_split : (word front rest : List ℕ) (k : ℕ) → front ≡ take k word → rest ≡ drop k word →
    around_dots word ≡ Some (take k word, drop (suc (suc k)) word) → around_dots word ≡ Some (front, take (length rest - 2) (drop 2 rest))
around_split word front rest k e f found =
    let count : k + 2 ≡ suc (suc k) = omega arith in
    let two : drop 2 rest ≡ drop (suc (suc k)) word = ap (drop 2) f ∙ drop-drop 2 k word ∙ ap (λ n. drop n word) count in
    let all : take (length rest - 2) (drop 2 rest) ≡ drop 2 rest = take_all (length rest - 2) (drop 2 rest) (omega (arith, length-drop 2 rest)) in
    rw (e, all, two) found

pub ends_whole : (word : List ℕ) → is_digits word ≡ true → count_ends word ≡ Some (word, word)
unfolding count_ends
ends_whole word e = rw e refl

pub ends_apart : (word least greatest : List ℕ) → is_digits word ≡ false → around_dots word ≡ Some (least, greatest) → is_digits least ≡ true → is_digits greatest ≡ true → count_ends word ≡ Some (least, greatest)
unfolding count_ends
ends_apart word least greatest e f g h = rw (e, f, g, h) refl

pub ends_absent : (word : List ℕ) → is_digits word ≡ false → around_dots word ≡ None → count_ends word ≡ None
unfolding count_ends
ends_absent word e f = rw (e, f) refl

pub ends_not_digits : (word least greatest : List ℕ) → is_digits word ≡ false → around_dots word ≡ Some (least, greatest) → (is_digits least && is_digits greatest) ≡ false → count_ends word ≡ None
unfolding count_ends
ends_not_digits word least greatest e f g = rw (e, f, g) refl
