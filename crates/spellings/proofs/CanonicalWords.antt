-- The words of a canonical spelling, each by itself: what they are made of, and which tokens they are.
use Rattle.std.proofs.Common.{◌≡◌, ◌<◌, ◌≤◌, ◌+◌, ℕ, zero, suc, Bool, true, false, ◌&&◌, ◌==◌, not, List, [], ◌∷◌, ◌++◌, length, get_or, Some, refl, sym, ◌∙◌, subst, arith, codes, true≢false, lit<, append-nil}
use Rattle.std.specs.Prelude.{nat_lt, decimal, if◌then◌else◌}
use Rattle.std.specs.Char.{is_ascii_digit}
use Rattle.std.specs.List.{list_all, list_any}
use Rattle.std.specs.Str.{bytes_eq}
use Rattle.std.specs.Str.Parse.{AllDigits}
use Rattle.std.proofs.lemmas.Bool.{and_parts, and_from, or_left, or_parts, not-true, lt-ltb, eqb-true, eqb-false, ne_eqb}
use Rattle.std.proofs.lemmas.Bool.Decides.{nat_tests}
use Rattle.std.proofs.lemmas.Fmt.{decimal_is_IsNumeral}
use Rattle.std.proofs.lemmas.Str.Parse.{digit_from_value}
use Rattle.lexer.specs.declared.lexemes.Letters.{Letters}
use Rattle.lexer.specs.Lexemes.{is_word_part}
use Rattle.message_tree.specs.declared.counts.Count.{Count}
use Rattle.message_tree.specs.Counts.{least_of, greatest_of}
use Rattle.plan_core.specs.Names.{IsName, is_name, is_name_byte, is_reserved, reserved_words}
use Rattle.spellings.specs.Canonical.{count_word}
use Rattle.plan_text.specs.Tokens.{word, token_of_word}
use Rattle.plan_text.specs.Words.{WritesCount, is_digits, number, around_dots}
use Rattle.plan_text.proofs.WholeWords.{is_word, no_keyword}
use Rattle.plan_text.proofs.WordLemmas.{all_digits, ends_whole, ends_apart}

-- ---- names

parts_of_names : (ls : Letters) (bytes : List ℕ) → list_all is_name_byte bytes ≡ true → list_all (is_word_part ls) bytes ≡ true
parts_of_names ls [] all = refl
parts_of_names ls (byte ∷ bytes) all =
    let parts = and_parts _ _ all in
    and_from _ _ (or_left _ _ parts.0) (parts_of_names ls bytes parts.1)

pub name_is_word : (ls : Letters) (name : List ℕ) → IsName name → is_word ls name ≡ true
unfolding is_name
name_is_word ls [] is = is
name_is_word ls (byte ∷ bytes) is = parts_of_names ls (byte ∷ bytes) (and_parts _ _ (and_parts _ _ (and_parts _ _ is).0).0).1

pub none_at : {X : Type 0} (test : X → Bool) (xs : List X) → list_any test xs ≡ false → (k : ℕ) (d : X) → k < length xs → test (get_or xs k d) ≡ false
none_at test [] none k d within = absurd (omega arith)
none_at test (x ∷ xs) none zero d within = (or_parts (test x) (list_any test xs) none).0
none_at test (x ∷ xs) none (suc k) d within = none_at test xs (or_parts (test x) (list_any test xs) none).1 k d (omega arith)

pub name_token : (name : List ℕ) → IsName name → token_of_word name ≡ word name
unfolding is_name token_of_word
name_token name is =
    let none : is_reserved name ≡ false = not-true (is_reserved name) (and_parts _ (not (is_reserved name)) is).1 in
    let other = none_at (bytes_eq name) reserved_words none in
    rw (other 0 [] (lit< tt), other 1 [] (lit< tt), other 2 [] (lit< tt), other 3 [] (lit< tt), other 9 [] (lit< tt), other 4 [] (lit< tt), other 5 [] (lit< tt), other 6 [] (lit< tt), other 7 [] (lit< tt), other 8 [] (lit< tt)) refl

-- ---- counts

pub digit_is : (byte : ℕ) → is_ascii_digit byte ≡ true → (48 ≤ byte) × (byte ≤ 57)
digit_is byte h = (grind (arith, nat_tests), grind (arith, nat_tests))

digit_is_part : (ls : Letters) (byte : ℕ) → is_ascii_digit byte ≡ true → is_word_part ls byte ≡ true
digit_is_part ls byte h = grind (arith, nat_tests)

digit_test : (byte : ℕ) → 48 ≤ byte → byte ≤ 57 → is_ascii_digit byte ≡ true
digit_test byte low high = grind (arith, nat_tests)

digits_are_parts : (ls : Letters) (digits rest : List ℕ) → list_all is_ascii_digit digits ≡ true → list_all (is_word_part ls) rest ≡ true → list_all (is_word_part ls) (digits ++ rest) ≡ true
digits_are_parts ls [] rest all more = more
digits_are_parts ls (byte ∷ digits) rest all more =
    let parts = and_parts _ _ all in
    and_from _ _ (digit_is_part ls byte parts.0) (digits_are_parts ls digits rest parts.1 more)

digits_are_word : (ls : Letters) (digits rest : List ℕ) → is_digits digits ≡ true → list_all (is_word_part ls) rest ≡ true → is_word ls (digits ++ rest) ≡ true
digits_are_word ls [] rest all more = absurd (true≢false (sym all))
digits_are_word ls (byte ∷ digits) rest all more = digits_are_parts ls (byte ∷ digits) rest all more

pub digits_word : (ls : Letters) (digits : List ℕ) → is_digits digits ≡ true → is_word ls digits ≡ true
digits_word ls digits all = subst (λ l. is_word ls l ≡ true) (append-nil digits) (digits_are_word ls digits [] all refl)

abbrev pub begins_with_digit : List ℕ → Bool
begins_with_digit [] = false
begins_with_digit (byte ∷ bytes) = is_ascii_digit byte

pub first_digit : (digits : List ℕ) → is_digits digits ≡ true → begins_with_digit digits ≡ true
first_digit [] all = all
first_digit (byte ∷ digits) all = (and_parts _ _ all).0

digits_begin : (digits rest : List ℕ) → is_digits digits ≡ true → begins_with_digit (digits ++ rest) ≡ true
digits_begin [] rest all = absurd (true≢false (sym all))
digits_begin (byte ∷ digits) rest all = (and_parts _ _ all).0

-- such a word is no keyword
pub digit_token : (w : List ℕ) → begins_with_digit w ≡ true → token_of_word w ≡ word w
digit_token [] digit = absurd (true≢false (sym digit))
digit_token (byte ∷ bytes) digit = let small = digit_is byte digit in no_keyword byte bytes (λ h. omega (arith, small.1))

numerals : (digits : List ℕ) → AllDigits 10 digits → list_all is_ascii_digit digits ≡ true
numerals [] all = refl
numerals (byte ∷ digits) all =
    let range = digit_from_value byte all.0 in
    and_from _ _ (digit_test byte (omega (arith, range)) (omega (arith, range))) (numerals digits all.1)

-- a number below 256 in decimal
pub decimal_digits : (n : ℕ) → n < 256 → (is_digits (decimal n) ≡ true) × (number (decimal n) ≡ n)
decimal_digits n small =
    let written = decimal_is_IsNumeral n (omega arith) in
    (sym (all_digits (decimal n) written.0.0) ∙ numerals (decimal n) written.0.1, written.1)

-- two numbers around two dots
around_two : (front back : List ℕ) → list_all is_ascii_digit front ≡ true → around_dots (front ++ (46 ∷ (46 ∷ back))) ≡ Some (front, back)
around_two [] back all = refl
around_two (x ∷ []) back all =
    let digit = digit_is x (and_parts _ _ all).0 in
    rw (ne_eqb x 46 (λ e. omega (arith, digit.0))) refl
around_two (x ∷ y ∷ front) back all =
    let digit = digit_is x (and_parts _ _ all).0 in
    let more : list_all is_ascii_digit (y ∷ front) ≡ true = (and_parts (is_ascii_digit x) (list_all is_ascii_digit (y ∷ front)) all).1 in
    rw (ne_eqb x 46 (λ e. omega (arith, digit.0)), around_two (y ∷ front) back more) refl

dots_no_digits : (front back : List ℕ) → list_all is_ascii_digit (front ++ (46 ∷ back)) ≡ false
dots_no_digits [] back = refl
dots_no_digits (x ∷ front) back = no_more (is_ascii_digit x) _ (dots_no_digits front back)
  where
    no_more : (a b : Bool) → b ≡ false → (a && b) ≡ false
    no_more true b h = h
    no_more false b h = refl

range_no_digits : (front back : List ℕ) → is_digits (front ++ (46 ∷ back)) ≡ false
range_no_digits [] back = refl
range_no_digits (x ∷ front) back = dots_no_digits (x ∷ front) back

list_of_digits : (digits : List ℕ) → is_digits digits ≡ true → list_all is_ascii_digit digits ≡ true
list_of_digits [] is = refl
list_of_digits (x ∷ digits) is = is

-- dots are parts of words, as two different ends of a count need it
abbrev pub HasDots : Letters → Type 0
HasDots ls = is_word_part ls 46 ≡ true

pub record IsCountWord (ls : Letters) (bytes : List ℕ) (count : Count) : Type 0 where
  pub is_word : is_word ls bytes ≡ true
  pub digit : begins_with_digit bytes ≡ true
  pub writes : WritesCount bytes count

count_of : (ls : Letters) (c : Count) (same : Bool) → (least_of c == greatest_of c) ≡ same → (nat_lt (least_of c) (greatest_of c) ≡ true → HasDots ls)
    → IsCountWord ls (if same then decimal (least_of c) else (decimal (least_of c) ++ (codes ".." ++ decimal (greatest_of c)))) c
count_of ls c true one needs =
    let least = decimal_digits (least_of c) (omega (arith, c.ordered, c.is_byte)) in
    let w = decimal (least_of c) in
    record {
      is_word = digits_word ls w least.0;
      digit = first_digit w least.0;
      writes = record { ends = (w, w); form = ends_whole w least.0; least = least.1; greatest = least.1 ∙ eqb-true (least_of c) (greatest_of c) one };
    }
count_of ls c false two needs =
    let least = decimal_digits (least_of c) (omega (arith, c.ordered, c.is_byte)) in
    let greatest = decimal_digits (greatest_of c) (omega (arith, c.is_byte)) in
    let l = decimal (least_of c) in
    let g = decimal (greatest_of c) in
    let differ : least_of c ≡ greatest_of c → ⊥ = eqb-false (least_of c) (greatest_of c) two in
    let dotted = needs (lt-ltb (least_of c) (greatest_of c) (omega (arith, c.ordered, differ))) in
    let g_parts = subst (λ x. list_all (is_word_part ls) x ≡ true) (append-nil g) (digits_are_parts ls g [] (list_of_digits g greatest.0) refl) in
    record {
      is_word = digits_are_word ls l (46 ∷ (46 ∷ g)) least.0 (and_from _ _ dotted (and_from _ _ dotted g_parts));
      digit = digits_begin l (46 ∷ (46 ∷ g)) least.0;
      writes = record { ends = (l, g); form = ends_apart (l ++ (46 ∷ (46 ∷ g))) l g (range_no_digits l (46 ∷ g)) (around_two l g (list_of_digits l least.0)) least.0 greatest.0; least = least.1; greatest = greatest.1 };
    }

pub count_is_word : (ls : Letters) (c : Count) → (nat_lt (least_of c) (greatest_of c) ≡ true → HasDots ls) → IsCountWord ls (count_word c) c
count_is_word ls c needs = count_of ls c (least_of c == greatest_of c) refl needs
