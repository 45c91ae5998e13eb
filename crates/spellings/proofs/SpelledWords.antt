-- The words of a brief that is written: which tokens they are, and what they spell out.
use Rattle.std.proofs.Common.{◌≡◌, ℕ, suc, Bool, true, false, ◌&&◌, ◌==◌, not, List, [], ◌∷◌, ◌++◌, length, map, take, drop, Option, Some, None, inl, inr, refl, ap, sym, ◌∙◌, arith, codes, true≢false, lit<}
use Rattle.std.specs.Prelude.{if◌then◌else◌}
use Rattle.std.specs.List.{list_all, prefix_len}
use Rattle.std.specs.Str.{bytes_eq}
use Rattle.std.proofs.lemmas.Bool.{and_parts, and_from, not-true, ne_eqb, eqb-true}
use Rattle.std.proofs.lemmas.List.{take_at, drop_at}
use Rattle.message_tree.specs.declared.bits.Address.{Address}
use Rattle.message_tree.specs.declared.bits.Bit.{Bit}
use Rattle.message_tree.specs.declared.bits.Bit.TheVariants.{Either}
use Rattle.message_tree.specs.declared.bits.Pattern.{Pattern}
use Rattle.message_tree.specs.Patterns.{address_bits, pattern_bits}
use Rattle.plan_core.specs.Names.{IsName, is_name, is_reserved, reserved_words}
use Rattle.plan_text.specs.Symbols.{bit_symbol, address_word, pattern_word}
use Rattle.plan_text.specs.Values.{pattern_of}
use Rattle.lexer.specs.declared.lexemes.Letters.TheVariants.{Brief}
use Rattle.lexer.specs.Lexemes.{is_word_part}
use Rattle.plan_text.proofs.WholeWords.{is_word, Apart, parts_before, bits_are_word}
use Rattle.plan_text.proofs.ValueLemmas.{address_found, pattern_found}
use Rattle.brief_tokens.specs.declared.symbols.Keyword.TheVariants as keywords
use Rattle.brief_text.specs.Grammar.{one, SpellsData, SpellsTo}
use Rattle.brief_tokens.specs.Names.{is_brief_word}
use Rattle.spellings.specs.Spelling.{digit_symbol, target_of, target_word, data_of, data_word}
use Rattle.brief_tokens.specs.Tokens.{Token, keyword, word, next, tokens_of, token_of_word}
use Rattle.brief_text.specs.Trees.{spelled}
use Rattle.brief_text.specs.Words.{digit_bits, any_byte, data_by, address_by, hex_bits, eight_bits, seven_bits}
use Rattle.brief_tokens.proofs.TokenLemmas.{word_here}
use Rattle.spellings.proofs.CanonicalWords.{none_at, digit_is, begins_with_digit}
use Rattle.spellings.proofs.Saying.{Spelled}
use Rattle.brief_text.proofs.WordLemmas.{data_base_2, data_base_16, address_base_2, address_base_16}

-- a word is one token
pub word_token : (line : ℕ) (w rest : List ℕ) (t : Token) → is_word Brief w ≡ true → token_of_word w ≡ t → Apart Brief rest → tokens_of line (w ++ rest) ≡ next t line (tokens_of line rest)
word_token line [] rest t is e apart = absurd (true≢false (sym is))
word_token line (b ∷ bytes) rest t is e apart =
    let w : List ℕ = b ∷ bytes in
    let parts = and_parts (is_word_part Brief b) _ is in
    let count : suc (length bytes) ≡ prefix_len (is_word_part Brief) (w ++ rest) = sym (parts_before Brief w rest is apart) in
    word_here line b (suc (length bytes)) (w ++ rest) (bytes ++ rest) refl parts.0 count
    ∙ ap (λ x. next (token_of_word x) line (tokens_of line (drop (suc (length bytes)) (w ++ rest)))) (take_at w rest (suc (length bytes)) refl)
    ∙ ap (λ x. next x line (tokens_of line (drop (suc (length bytes)) (w ++ rest)))) e
    ∙ ap (λ x. next t line (tokens_of line x)) (drop_at w rest (suc (length bytes)) refl)

-- a word that begins with a digit is no keyword
pub digit_token : (w : List ℕ) → begins_with_digit w ≡ true → token_of_word w ≡ word w
unfolding token_of_word
digit_token [] digit = absurd (true≢false (sym digit))
digit_token (byte ∷ bytes) digit =
    let small = digit_is byte digit in
    rw (ne_eqb byte 98 (λ e. omega arith), ne_eqb byte 100 (λ e. omega arith), ne_eqb byte 97 (λ e. omega arith), ne_eqb byte 109 (λ e. omega arith), ne_eqb byte 99 (λ e. omega arith), ne_eqb byte 105 (λ e. omega arith), ne_eqb byte 110 (λ e. omega arith), ne_eqb byte 119 (λ e. omega arith), ne_eqb byte 114 (λ e. omega arith), ne_eqb byte 101 (λ e. omega arith), ne_eqb byte 115 (λ e. omega arith)) refl

some_is : {A : Type 0} (x y : A) → Some x ≡ Some y → x ≡ y
some_is x y e = cc

open_digit : (d : ℕ) → d ≡ 88 → Some (codes "xxxx") ≡ digit_bits d
unfolding digit_bits
open_digit d e = rw e refl

-- ---- names

pub name_token : (name : List ℕ) → IsName name → is_brief_word name ≡ false → token_of_word name ≡ word name
unfolding is_name token_of_word
name_token name is no_word =
    let none : is_reserved name ≡ false = not-true (is_reserved name) (and_parts _ (not (is_reserved name)) is).1 in
    let other = none_at (bytes_eq name) reserved_words none in
    let own = none_at (bytes_eq name) (codes "brief" ∷ codes "device" ∷ codes "byte" ∷ codes "any" ∷ []) no_word in
    rw (own 0 [] (lit< tt), own 1 [] (lit< tt), own 2 [] (lit< tt), own 3 [] (lit< tt), other 1 [] (lit< tt), other 2 [] (lit< tt), other 3 [] (lit< tt), other 9 [] (lit< tt), other 4 [] (lit< tt), other 5 [] (lit< tt), other 7 [] (lit< tt), other 8 [] (lit< tt)) refl

-- ---- digits

symbols_are_parts : (bits : List Bit) → list_all (is_word_part Brief) (map bit_symbol bits) ≡ true
symbols_are_parts bits = bits_are_word Brief (Either ∷ bits) (omega arith)

-- where there is a digit, it stands for these bits
abbrev Digit : Option ℕ → List ℕ → Type 0
Digit None bits = Unit {0}
Digit (Some d) bits = (is_word_part Brief d ≡ true) × (digit_bits d ≡ Some bits)

four_bits : (a b c e : Bit) → Digit (digit_symbol (a ∷ b ∷ c ∷ e ∷ [])) (map bit_symbol (a ∷ b ∷ c ∷ e ∷ []))
unfolding digit_bits
four_bits Either Either Either Either = (refl, refl)
four_bits Either b c e = tt
four_bits a Either c e = tt
four_bits a b Either e = tt
four_bits a b c Either = tt
four_bits a b c e = (refl, refl)

four_of : (bits : List Bit) → length bits ≡ 4 → Digit (digit_symbol bits) (map bit_symbol bits)
four_of (a ∷ b ∷ c ∷ e ∷ []) h = four_bits a b c e
four_of bits h = absurd (omega arith)

-- the first of its bits is no 1
abbrev TopDigit : Option ℕ → List ℕ → Type 0
TopDigit None bits = Unit {0}
TopDigit (Some d) bits = (is_word_part Brief d ≡ true) × ((top : ℕ) × (digit_bits d ≡ Some (top ∷ bits)) × ((top == 49) ≡ false))

three_bits : (a b c : Bit) → TopDigit (digit_symbol (a ∷ b ∷ c ∷ [])) (map bit_symbol (a ∷ b ∷ c ∷ []))
unfolding digit_bits
three_bits Either Either Either = (refl, (120, refl, refl))
three_bits Either b c = tt
three_bits a Either c = tt
three_bits a b Either = tt
three_bits a b c = (refl, (48, refl, refl))

three_of : (bits : List Bit) → length bits ≡ 3 → TopDigit (digit_symbol bits) (map bit_symbol bits)
three_of (a ∷ b ∷ c ∷ []) h = three_bits a b c
three_of bits h = absurd (omega arith)

-- ---- addresses and data bytes

pub spelled_one : (w : List ℕ) (t : Token) → is_word Brief w ≡ true → token_of_word w ≡ t → Spelled tokens_of Brief w (one t)
spelled_one w t is e = record { says = λ line rest apart. (line, word_token line w rest t is e apart) }

abbrev DataSaid : Pattern → List ℕ → Type 0
DataSaid p w = Spelled tokens_of Brief w (SpellsData (spelled p))

as_word : (p : Pattern) (w : List ℕ) → is_word Brief (48 ∷ w) ≡ true → data_by (48 ∷ w) ≡ Some p → DataSaid p (48 ∷ w)
as_word p w is e = record { says = λ line rest apart. inl (48 ∷ w, (spelled_one (48 ∷ w) (word (48 ∷ w)) is (digit_token (48 ∷ w) refl)).says line rest apart, e) }

in_bits : (p : Pattern) (bits : List Bit) → map bit_symbol bits ≡ pattern_word p → DataSaid p (codes "0b" ++ map bit_symbol bits)
in_bits p bits e = as_word p (98 ∷ map bit_symbol bits) (symbols_are_parts bits) (data_base_2 (codes "0b" ++ map bit_symbol bits) (map bit_symbol bits) refl ∙ pattern_found (map bit_symbol bits) p (sym e))

any_said : (p : Pattern) (bits : List ℕ) → bits ≡ codes "xxxxxxxx" → bits ≡ pattern_word p → DataSaid p (codes "any")
unfolding pattern_of token_of_word
any_said p bits open_bits e =
    let one : pattern_of (codes "xxxxxxxx") ≡ Some any_byte = refl in
    let other : pattern_of (codes "xxxxxxxx") ≡ Some p = pattern_found (codes "xxxxxxxx") p (sym e ∙ open_bits) in
    record { says = λ line rest apart. inr ((spelled_one (codes "any") (keyword keywords.Any) refl refl).says line rest apart, some_is p any_byte (sym other ∙ one)) }

data_made : (p : Pattern) (bits : List Bit) (high low : Option ℕ) (first second : List ℕ) → Digit high first → Digit low second → first ++ second ≡ map bit_symbol bits → map bit_symbol bits ≡ pattern_word p → DataSaid p (data_of high low bits)
data_made p bits None low first second h l split e = in_bits p bits e
data_made p bits (Some high) None first second h l split e = in_bits p bits e
data_made p bits (Some high) (Some low) first second h l split e = by_test (high == 88 && low == 88) refl
  where
    by_test : (t : Bool) → (high == 88 && low == 88) ≡ t → DataSaid p (if t then codes "any" else (codes "0x" ++ high ∷ low ∷ []))
    by_test true is =
        let parts = and_parts (high == 88) (low == 88) is in
        let one : Some (codes "xxxx") ≡ Some first = open_digit high (eqb-true high 88 parts.0) ∙ h.1 in
        let other : Some (codes "xxxx") ≡ Some second = open_digit low (eqb-true low 88 parts.1) ∙ l.1 in
        any_said p (first ++ second) (λ i. sym (some_is (codes "xxxx") first one) i ++ sym (some_is (codes "xxxx") second other) i) (split ∙ e)
    by_test false is =
        let both_bits : eight_bits (hex_bits (high ∷ low ∷ [])) ≡ Some p = rw (h.1, l.1) (pattern_found (first ++ second) p (sym (split ∙ e))) in
        as_word p (120 ∷ high ∷ low ∷ []) (and_from _ _ h.0 (and_from _ _ l.0 refl)) (data_base_16 (codes "0x" ++ high ∷ low ∷ []) (high ∷ low ∷ []) refl ∙ both_bits)

pub data_said : (p : Pattern) → DataSaid p (data_word p)
unfolding pattern_bits
data_said p =
    let bits = pattern_bits p in
    data_made p bits (digit_symbol (take 4 bits)) (digit_symbol (drop 4 bits)) (map bit_symbol (take 4 bits)) (map bit_symbol (drop 4 bits)) (four_of (take 4 bits) refl) (four_of (drop 4 bits) refl) refl refl

abbrev TargetSaid : Address → List ℕ → Type 0
TargetSaid a w = Spelled tokens_of Brief w (SpellsTo (spelled a))

as_target : (a : Address) (w : List ℕ) → is_word Brief (48 ∷ w) ≡ true → address_by (48 ∷ w) ≡ Some a → TargetSaid a (48 ∷ w)
as_target a w is e = record { says = λ line rest apart. (48 ∷ w, (spelled_one (48 ∷ w) (word (48 ∷ w)) is (digit_token (48 ∷ w) refl)).says line rest apart, e) }

target_in_bits : (a : Address) (bits : List Bit) → map bit_symbol bits ≡ address_word a → TargetSaid a (codes "0b" ++ map bit_symbol bits)
target_in_bits a bits e = as_target a (98 ∷ map bit_symbol bits) (symbols_are_parts bits) (address_base_2 (codes "0b" ++ map bit_symbol bits) (map bit_symbol bits) refl ∙ address_found (map bit_symbol bits) a (sym e))

target_made : (a : Address) (bits : List Bit) (high low : Option ℕ) (first second : List ℕ) → TopDigit high first → Digit low second → first ++ second ≡ map bit_symbol bits → map bit_symbol bits ≡ address_word a → TargetSaid a (target_of high low bits)
target_made a bits None low first second h l split e = target_in_bits a bits e
target_made a bits (Some high) None first second h l split e = target_in_bits a bits e
target_made a bits (Some high) (Some low) first second h l split e =
    let both_bits : seven_bits (hex_bits (high ∷ low ∷ [])) ≡ Some a = rw (h.1.1, l.1, h.1.2) (address_found (first ++ second) a (sym (split ∙ e))) in
    as_target a (120 ∷ high ∷ low ∷ []) (and_from _ _ h.0 (and_from _ _ l.0 refl)) (address_base_16 (codes "0x" ++ high ∷ low ∷ []) (high ∷ low ∷ []) refl ∙ both_bits)

pub target_said : (a : Address) → TargetSaid a (target_word a)
unfolding address_bits
target_said a =
    let bits = address_bits a in
    target_made a bits (digit_symbol (take 3 bits)) (digit_symbol (drop 3 bits)) (map bit_symbol (take 3 bits)) (map bit_symbol (drop 3 bits)) (three_of (take 3 bits) refl) (four_of (drop 3 bits) refl) refl refl
