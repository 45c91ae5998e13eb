-- The lexemes of bytes by what stands at their front.
use Rattle.std.proofs.Common.{◌≡◌, ◌≢◌, ◌<◌, ◌≤◌, ◌+◌, ◌-◌, ℕ, suc, List, [], ◌∷◌, Bool, true, false, not, cond, ◌&&◌, ◌==◌, refl, ap, sym, ◌∙◌, length, get_or, take, drop, subst, arith, one-add, ◌⊎◌, inl, inr}
use Rattle.std.specs.Prelude.{◌||◌, nat_lt, Option, Some, None, unwrap_or}
use Rattle.std.specs.List.{prefix_len}
use Rattle.std.proofs.lemmas.List.{take_all}
use Rattle.std.proofs.lemmas.Bool.Decides.{nat_tests}
use Rattle.lexer.specs.declared.lexemes.Letters.{Letters}
use Rattle.lexer.specs.declared.lexemes.Letters.TheVariants.{Plain, Dots, Brief, Board}
use Rattle.lexer.specs.declared.lexemes.Symbol.{Symbol}
use Rattle.lexer.specs.Lexemes.{Lexemes, next, last, word, sign, text_end, foreign, stray, Alphabet, letters, later, Class, line_feed, blank, number_sign, sign_byte, word_part, quote, foreign_byte, stray_byte, is_word_part, is_sign, is_quote, is_string_part, has_any_comment, class_of, begins_with_part, put_before, raw_lexemes, in_comment, in_string, lexemes_of}
use Rattle.lexer.specs.Fronts.{is_comment_part, string_inside, string_length}
use Rattle.lexer.specs.Reading.{is_skipped, BeginsHere, alphabet, with_symbol}

-- what the tests of a byte say of its class
pub class_part : (l : Letters) (byte : ℕ) → is_word_part l byte ≡ true → class_of l byte ≡ word_part
class_part Plain byte h = grind (arith, nat_tests)
class_part Dots byte h = grind (arith, nat_tests)
class_part Brief byte h = grind (arith, nat_tests)
class_part Board byte h = grind (arith, nat_tests)

pub class_sign : (l : Letters) (byte : ℕ) → is_sign l byte ≡ true → class_of l byte ≡ sign_byte
class_sign Plain byte h = grind (arith, nat_tests)
class_sign Dots byte h = grind (arith, nat_tests)
class_sign Brief byte h = grind (arith, nat_tests)
class_sign Board byte h = grind (arith, nat_tests)

pub class_foreign : (l : Letters) (byte : ℕ) → nat_lt byte 128 ≡ false → class_of l byte ≡ foreign_byte
class_foreign Plain byte h = grind (arith, nat_tests)
class_foreign Dots byte h = grind (arith, nat_tests)
class_foreign Brief byte h = grind (arith, nat_tests)
class_foreign Board byte h = grind (arith, nat_tests)

pub class_stray : (l : Letters) (byte : ℕ) → is_skipped byte ≡ false → is_sign l byte ≡ false → is_word_part l byte ≡ false → is_quote l byte ≡ false → nat_lt byte 128 ≡ true → class_of l byte ≡ stray_byte
class_stray Plain byte a b c q d = grind (arith, nat_tests)
class_stray Dots byte a b c q d = grind (arith, nat_tests)
class_stray Brief byte a b c q d = grind (arith, nat_tests)
class_stray Board byte a b c q d = grind (arith, nat_tests)

pub class_quote : (l : Letters) (byte : ℕ) → is_quote l byte ≡ true → class_of l byte ≡ quote
class_quote Plain byte h = absurd cc
class_quote Dots byte h = absurd cc
class_quote Brief byte h = absurd cc
class_quote Board byte h = grind (arith, nat_tests)

class_line_feed : (l : Letters) (byte : ℕ) → class_of l byte ≡ line_feed → (byte == 10) ≡ true
class_line_feed Plain byte h = grind (arith, nat_tests)
class_line_feed Dots byte h = grind (arith, nat_tests)
class_line_feed Brief byte h = grind (arith, nat_tests)
class_line_feed Board byte h = grind (arith, nat_tests)

class_no_ascii : (l : Letters) (byte : ℕ) → class_of l byte ≡ foreign_byte → nat_lt byte 128 ≡ false
class_no_ascii Plain byte h = grind (arith, nat_tests)
class_no_ascii Dots byte h = grind (arith, nat_tests)
class_no_ascii Brief byte h = grind (arith, nat_tests)
class_no_ascii Board byte h = grind (arith, nat_tests)

class_10 : (l : Letters) (byte : ℕ) → (byte == 10) ≡ true → class_of l byte ≡ line_feed
class_10 l byte h = grind (arith, nat_tests)

-- the lexemes of a byte of this class and those after it, outside and inside a comment
abbrev pub lexemes_at : Class → Alphabet → ℕ → ℕ → List ℕ → Lexemes
lexemes_at k a line byte bytes =
    elim k as (λ _. Lexemes) [
      | line_feed ↦ raw_lexemes a (line + 1) bytes
      | blank ↦ raw_lexemes a line bytes
      | number_sign ↦ in_comment a line bytes
      | sign_byte ↦ next (sign byte) line (raw_lexemes (later a) line bytes)
      | word_part ↦ elim (begins_with_part (letters a) bytes) [
        | true ↦ put_before byte (raw_lexemes a line bytes)
        | false ↦ next (word (byte ∷ [])) line (raw_lexemes (later a) line bytes)
      ]
      | quote ↦ put_before byte (in_string a line bytes)
      | foreign_byte ↦ last foreign line
      | stray_byte ↦ last stray line
    ]

abbrev pub foreign_at : Bool → Alphabet → ℕ → List ℕ → Lexemes
foreign_at any a line bytes = elim any as (λ _. Lexemes) [ true ↦ in_comment a line bytes | false ↦ last foreign line ]

abbrev pub comment_at : Class → Alphabet → ℕ → List ℕ → Lexemes
comment_at k a line bytes =
    elim k as (λ _. Lexemes) [
      | line_feed ↦ raw_lexemes a (line + 1) bytes
      | foreign_byte ↦ foreign_at (has_any_comment (letters a)) a line bytes
      | _ ↦ in_comment a line bytes
    ]

pub by_class : (k : Class) (a : Alphabet) (line byte : ℕ) (bytes : List ℕ) → class_of (letters a) byte ≡ k → raw_lexemes a line (byte ∷ bytes) ≡ lexemes_at k a line byte bytes
by_class k a line byte bytes e = ap (λ c. lexemes_at c a line byte bytes) e

comment_by_class : (k : Class) (a : Alphabet) (line byte : ℕ) (bytes : List ℕ) → class_of (letters a) byte ≡ k → in_comment a line (byte ∷ bytes) ≡ comment_at k a line bytes
comment_by_class k a line byte bytes e = ap (λ c. comment_at c a line bytes) e

-- each class but two goes on with the comment
comment_over : (k : Class) (a : Alphabet) (line : ℕ) (bytes : List ℕ) → k ≢ line_feed → k ≢ foreign_byte → comment_at k a line bytes ≡ in_comment a line bytes
comment_over line_feed a line bytes f g = absurd (f refl)
comment_over foreign_byte a line bytes f g = absurd (g refl)
comment_over blank a line bytes f g = refl
comment_over number_sign a line bytes f g = refl
comment_over sign_byte a line bytes f g = refl
comment_over word_part a line bytes f g = refl
comment_over quote a line bytes f g = refl
comment_over stray_byte a line bytes f g = refl

comment_goes_on : (a : Alphabet) (line byte : ℕ) (bytes : List ℕ) → (byte == 10) ≡ false → nat_lt byte 128 ≡ true → in_comment a line (byte ∷ bytes) ≡ in_comment a line bytes
comment_goes_on a line byte bytes no_feed ascii =
    comment_by_class (class_of (letters a) byte) a line byte bytes refl
    ∙ comment_over (class_of (letters a) byte) a line bytes (λ e. let f = class_line_feed (letters a) byte e in cc) (λ e. let f = class_no_ascii (letters a) byte e in cc)

-- one byte more or less of a prefix
pub prefix_stops : (p : ℕ → Bool) (byte : ℕ) (bytes : List ℕ) → p byte ≡ false → prefix_len p (byte ∷ bytes) ≡ 0
prefix_stops p byte bytes e = ap (λ t. cond t (1 + prefix_len p bytes) 0) e

pub prefix_goes_on : (p : ℕ → Bool) (byte : ℕ) (bytes : List ℕ) → p byte ≡ true → prefix_len p (byte ∷ bytes) ≡ suc (prefix_len p bytes)
prefix_goes_on p byte bytes e = ap (λ t. cond t (1 + prefix_len p bytes) 0) e ∙ one-add (prefix_len p bytes)

-- what follows a comment is read as if the comment were not there
abbrev Ends : Alphabet → ℕ → List ℕ → Type 0
Ends a line bytes = raw_lexemes a line (drop (prefix_len (is_comment_part (letters a)) bytes) bytes) ≡ in_comment a line bytes

ends_at : (feed ascii any : Bool) (a : Alphabet) (line byte : ℕ) (bytes : List ℕ) → (byte == 10) ≡ feed → nat_lt byte 128 ≡ ascii → has_any_comment (letters a) ≡ any → Ends a line bytes → Ends a line (byte ∷ bytes)
ends_at true ascii any a line byte bytes f g h more =
    let stops = prefix_stops (is_comment_part (letters a)) byte bytes (ap (λ t. not t && (nat_lt byte 128 || has_any_comment (letters a))) f) in
    let class = class_10 (letters a) byte f in
    ap (λ n. raw_lexemes a line (drop n (byte ∷ bytes))) stops ∙ by_class line_feed a line byte bytes class ∙ sym (comment_by_class line_feed a line byte bytes class)
ends_at false false false a line byte bytes f g h more =
    let stops = prefix_stops (is_comment_part (letters a)) byte bytes (ap (λ t. not t && (nat_lt byte 128 || has_any_comment (letters a))) f ∙ ap (λ t. t || has_any_comment (letters a)) g ∙ h) in
    let class = class_foreign (letters a) byte g in
    ap (λ n. raw_lexemes a line (drop n (byte ∷ bytes))) stops ∙ by_class foreign_byte a line byte bytes class
    ∙ sym (comment_by_class foreign_byte a line byte bytes class ∙ ap (λ t. foreign_at t a line bytes) h)
ends_at false false true a line byte bytes f g h more =
    let goes = prefix_goes_on (is_comment_part (letters a)) byte bytes (ap (λ t. not t && (nat_lt byte 128 || has_any_comment (letters a))) f ∙ ap (λ t. t || has_any_comment (letters a)) g ∙ h) in
    let class = class_foreign (letters a) byte g in
    ap (λ n. raw_lexemes a line (drop n (byte ∷ bytes))) goes ∙ more
    ∙ sym (comment_by_class foreign_byte a line byte bytes class ∙ ap (λ t. foreign_at t a line bytes) h)
ends_at false true any a line byte bytes f g h more =
    let goes = prefix_goes_on (is_comment_part (letters a)) byte bytes (ap (λ t. not t && (nat_lt byte 128 || has_any_comment (letters a))) f ∙ ap (λ t. t || has_any_comment (letters a)) g) in
    ap (λ n. raw_lexemes a line (drop n (byte ∷ bytes))) goes ∙ more ∙ sym (comment_goes_on a line byte bytes f g)

pub comment_ends : (a : Alphabet) (line : ℕ) (bytes : List ℕ) → Ends a line bytes
comment_ends a line [] = refl
comment_ends a line (byte ∷ bytes) = ends_at (byte == 10) (nat_lt byte 128) (has_any_comment (letters a)) a line byte bytes refl refl refl (comment_ends a line bytes)

-- a string is its bytes up to the next quote and that quote, where there is one
abbrev string_then : Bool → ℕ → Alphabet → ℕ → List ℕ → Lexemes
string_then closed n a line bytes =
    elim closed as (λ _. Lexemes) [
      | true ↦ next (word (take (suc n) bytes)) line (raw_lexemes (later a) line (drop (suc n) bytes))
      | false ↦ last stray line
    ]

abbrev is_closed : ℕ → List ℕ → Bool
is_closed n bytes = get_or bytes n 0 == 34

abbrev ReadsString : Alphabet → ℕ → List ℕ → Type 0
ReadsString a line bytes = in_string a line bytes ≡ string_then (is_closed (string_inside bytes) bytes) (string_inside bytes) a line bytes

abbrev pub string_by : Bool → Bool → Alphabet → ℕ → ℕ → List ℕ → Lexemes
string_by closes inner a line byte bytes =
    cond closes (next (word (byte ∷ [])) line (raw_lexemes (later a) line bytes)) (cond inner (put_before byte (in_string a line bytes)) (last stray line))

no_inner : (byte : ℕ) → (byte == 34) ≡ true → is_string_part byte ≡ false
no_inner byte h = grind (arith, nat_tests)

string_more : (closed : Bool) (n : ℕ) (a : Alphabet) (line byte : ℕ) (bytes : List ℕ) → put_before byte (string_then closed n a line bytes) ≡ string_then closed (suc n) a line (byte ∷ bytes)
string_more true n a line byte bytes = refl
string_more false n a line byte bytes = refl

string_at : (closes inner : Bool) (a : Alphabet) (line byte : ℕ) (bytes : List ℕ) → (byte == 34) ≡ closes → is_string_part byte ≡ inner → ReadsString a line bytes → ReadsString a line (byte ∷ bytes)
string_at true inner a line byte bytes f g more =
    let stops = prefix_stops is_string_part byte bytes (no_inner byte f) in
    ap (λ t. string_by t (is_string_part byte) a line byte bytes) f
    ∙ ap (λ t. string_then t 0 a line (byte ∷ bytes)) (sym f)
    ∙ ap (λ n. string_then (is_closed n (byte ∷ bytes)) n a line (byte ∷ bytes)) (sym stops)
string_at false false a line byte bytes f g more =
    let stops = prefix_stops is_string_part byte bytes g in
    ap (λ t. string_by t (is_string_part byte) a line byte bytes) f
    ∙ ap (λ t. string_by false t a line byte bytes) g
    ∙ ap (λ t. string_then t 0 a line (byte ∷ bytes)) (sym f)
    ∙ ap (λ n. string_then (is_closed n (byte ∷ bytes)) n a line (byte ∷ bytes)) (sym stops)
string_at false true a line byte bytes f g more =
    let goes = prefix_goes_on is_string_part byte bytes g in
    ap (λ t. string_by t (is_string_part byte) a line byte bytes) f
    ∙ ap (λ t. string_by false t a line byte bytes) g
    ∙ ap (put_before byte) more
    ∙ string_more (is_closed (string_inside bytes) bytes) (string_inside bytes) a line byte bytes
    ∙ ap (λ n. string_then (is_closed n (byte ∷ bytes)) n a line (byte ∷ bytes)) (sym goes)

reads_string : (a : Alphabet) (line : ℕ) (bytes : List ℕ) → ReadsString a line bytes
reads_string a line [] = refl
reads_string a line (byte ∷ bytes) = string_at (byte == 34) (is_string_part byte) a line byte bytes refl refl (reads_string a line bytes)

-- the first byte, where there is one, and the others
pub front_is : (rest : List ℕ) (byte : ℕ) → 1 ≤ length rest → get_or rest 0 0 ≡ byte → rest ≡ byte ∷ take (length rest - 1) (drop 1 rest)
front_is [] byte some first = absurd (omega arith)
front_is (b ∷ bytes) byte some first =
    let whole : take (suc (length bytes) - 1) bytes ≡ bytes = take_all (suc (length bytes) - 1) bytes (omega arith) in
    ap (λ x. x ∷ bytes) first ∙ ap (λ xs. byte ∷ xs) (sym whole)

pub none_left : (rest : List ℕ) → length rest < 1 → rest ≡ []
none_left [] none = refl
none_left (b ∷ bytes) none = absurd (omega arith)

-- white space and comments have no lexemes
pub skips_line_feed : (a : Alphabet) (line : ℕ) (rest others : List ℕ) → rest ≡ 10 ∷ others → lexemes_of a (line + 1) others ≡ lexemes_of a line rest
unfolding lexemes_of
skips_line_feed a line rest others front = sym (ap (lexemes_of a line) front)

pub skips_space : (a : Alphabet) (line byte : ℕ) (rest others : List ℕ) → rest ≡ byte ∷ others → (byte ≡ 9) ⊎ ((byte ≡ 13) ⊎ (byte ≡ 32)) → lexemes_of a line others ≡ lexemes_of a line rest
unfolding lexemes_of
skips_space a line byte rest others front (inl e) = sym (ap (lexemes_of a line) (front ∙ ap (λ b. b ∷ others) e))
skips_space a line byte rest others front (inr (inl e)) = sym (ap (lexemes_of a line) (front ∙ ap (λ b. b ∷ others) e))
skips_space a line byte rest others front (inr (inr e)) = sym (ap (lexemes_of a line) (front ∙ ap (λ b. b ∷ others) e))

pub skips_comment : (a : Alphabet) (line : ℕ) (rest others further : List ℕ) → rest ≡ 35 ∷ others → lexemes_of a line further ≡ in_comment a line others → lexemes_of a line further ≡ lexemes_of a line rest
unfolding lexemes_of
skips_comment a line rest others further front same = same ∙ sym (ap (lexemes_of a line) front)

-- the first lexeme is a word of a byte and n more
abbrev word_then : ℕ → Alphabet → ℕ → ℕ → List ℕ → Lexemes
word_then n a line byte bytes = next (word (byte ∷ take n bytes)) line (raw_lexemes (later a) line (drop n bytes))

abbrev parts : Alphabet → List ℕ → ℕ
parts a bytes = prefix_len (is_word_part (letters a)) bytes

abbrev BeginsWord : Alphabet → ℕ → ℕ → List ℕ → Type 0
BeginsWord a line byte bytes = is_word_part (letters a) byte ≡ true → raw_lexemes a line (byte ∷ bytes) ≡ word_then (parts a bytes) a line byte bytes

abbrev pub part_at : Bool → Alphabet → ℕ → ℕ → List ℕ → Lexemes
part_at t a line byte bytes =
    elim t as (λ _. Lexemes) [
      | true ↦ put_before byte (raw_lexemes a line bytes)
      | false ↦ next (word (byte ∷ [])) line (raw_lexemes (later a) line bytes)
    ]

word_at : (t : Bool) (a : Alphabet) (line byte b : ℕ) (bytes : List ℕ) → is_word_part (letters a) b ≡ t → BeginsWord a line b bytes → BeginsWord a line byte (b ∷ bytes)
word_at t a line byte b bytes next_part more part =
    by_class word_part a line byte (b ∷ bytes) (class_part (letters a) byte part)
    ∙ ap (λ u. part_at u a line byte (b ∷ bytes)) next_part ∙ word_on t a line byte b bytes next_part more
  where
    word_on : (t : Bool) (a : Alphabet) (line byte b : ℕ) (bytes : List ℕ) → is_word_part (letters a) b ≡ t → BeginsWord a line b bytes → part_at t a line byte (b ∷ bytes) ≡ word_then (parts a (b ∷ bytes)) a line byte (b ∷ bytes)
    word_on true a line byte b bytes e more = ap (put_before byte) (more e) ∙ ap (λ n. word_then n a line byte (b ∷ bytes)) (sym (prefix_goes_on (is_word_part (letters a)) b bytes e))
    word_on false a line byte b bytes e more = ap (λ n. word_then n a line byte (b ∷ bytes)) (sym (prefix_stops (is_word_part (letters a)) b bytes e))

-- the parts of words at the front are the first word
word_first : (a : Alphabet) (line byte : ℕ) (bytes : List ℕ) → BeginsWord a line byte bytes
word_first a line byte [] part = by_class word_part a line byte [] (class_part (letters a) byte part)
word_first a line byte (b ∷ bytes) part = word_at (is_word_part (letters a) b) a line byte b bytes refl (word_first a line b bytes) part

-- what the lexemes begin with, by the first byte
pub ends_here : (a : Alphabet) (line : ℕ) (rest : List ℕ) → rest ≡ [] → lexemes_of a line rest ≡ last text_end line
unfolding lexemes_of
ends_here a line rest e = ap (lexemes_of a line) e

pub sign_here : (a : Alphabet) (line byte : ℕ) (rest others : List ℕ) → rest ≡ byte ∷ others → is_sign (letters a) byte ≡ true → lexemes_of a line rest ≡ next (sign byte) line (lexemes_of (later a) line others)
unfolding lexemes_of
sign_here a line byte rest others front is = ap (lexemes_of a line) front ∙ by_class sign_byte a line byte others (class_sign (letters a) byte is)

pub stray_here : (a : Alphabet) (line byte : ℕ) (rest others : List ℕ) → rest ≡ byte ∷ others → class_of (letters a) byte ≡ stray_byte → lexemes_of a line rest ≡ last stray line
unfolding lexemes_of
stray_here a line byte rest others front class = ap (lexemes_of a line) front ∙ by_class stray_byte a line byte others class

pub foreign_here : (a : Alphabet) (line byte : ℕ) (rest others : List ℕ) → rest ≡ byte ∷ others → class_of (letters a) byte ≡ foreign_byte → lexemes_of a line rest ≡ last foreign line
unfolding lexemes_of
foreign_here a line byte rest others front class = ap (lexemes_of a line) front ∙ by_class foreign_byte a line byte others class

-- the whole run of word parts at the front is the first lexeme
pub word_here : (a : Alphabet) (line byte n : ℕ) (rest others : List ℕ) → rest ≡ byte ∷ others → is_word_part (letters a) byte ≡ true → n ≡ prefix_len (is_word_part (letters a)) rest →
    lexemes_of a line rest ≡ next (word (take n rest)) line (lexemes_of (later a) line (drop n rest))
unfolding lexemes_of
word_here a line byte n rest others front part count =
    let n_is : n ≡ suc (parts a others) = count ∙ ap (prefix_len (is_word_part (letters a))) front ∙ prefix_goes_on (is_word_part (letters a)) byte others part in
    ap (lexemes_of a line) front ∙ word_first a line byte others part
    ∙ ap (λ m. next (word (take m (byte ∷ others))) line (lexemes_of (later a) line (drop m (byte ∷ others)))) (sym n_is)
    ∙ ap (λ xs. next (word (take n xs)) line (lexemes_of (later a) line (drop n xs))) (sym front)

-- what a quote begins: a string of so many bytes, or nothing that is a lexeme
abbrev length_by : Bool → ℕ → Option ℕ
length_by closed n = cond closed (Some (n + 2)) None

string_by_length : (closed : Bool) (a : Alphabet) (line byte n m : ℕ) (bytes : List ℕ) → length_by closed n ≡ Some m → put_before byte (string_then closed n a line bytes) ≡ next (word (take m (byte ∷ bytes))) line (lexemes_of (later a) line (drop m (byte ∷ bytes)))
unfolding lexemes_of
string_by_length true a line byte n m bytes e =
    let two : n + 2 ≡ m = ap (λ o. unwrap_or o 0) e in
    let m_is : suc (suc n) ≡ m = omega (arith, two) in
    ap (λ k. next (word (take k (byte ∷ bytes))) line (lexemes_of (later a) line (drop k (byte ∷ bytes)))) m_is
string_by_length false a line byte n m bytes e = absurd cc

no_string_by : (closed : Bool) (a : Alphabet) (line byte n : ℕ) (bytes : List ℕ) → length_by closed n ≡ None → put_before byte (string_then closed n a line bytes) ≡ last stray line
no_string_by true a line byte n bytes e = absurd cc
no_string_by false a line byte n bytes e = refl

pub string_here : (a : Alphabet) (line byte n : ℕ) (rest others : List ℕ) → rest ≡ byte ∷ others → is_quote (letters a) byte ≡ true → string_length others ≡ Some n →
    lexemes_of a line rest ≡ next (word (take n rest)) line (lexemes_of (later a) line (drop n rest))
unfolding lexemes_of
string_here a line byte n rest others front quotes has =
    ap (lexemes_of a line) front ∙ by_class quote a line byte others (class_quote (letters a) byte quotes)
    ∙ ap (put_before byte) (reads_string a line others)
    ∙ string_by_length (is_closed (string_inside others) others) a line byte (string_inside others) n others has
    ∙ ap (λ xs. next (word (take n xs)) line (lexemes_of (later a) line (drop n xs))) (sym front)

pub no_string_here : (a : Alphabet) (line byte : ℕ) (rest others : List ℕ) → rest ≡ byte ∷ others → is_quote (letters a) byte ≡ true → string_length others ≡ None →
    lexemes_of a line rest ≡ last stray line
unfolding lexemes_of
no_string_here a line byte rest others front quotes has =
    ap (lexemes_of a line) front ∙ by_class quote a line byte others (class_quote (letters a) byte quotes)
    ∙ ap (put_before byte) (reads_string a line others)
    ∙ no_string_by (is_closed (string_inside others) others) a line byte (string_inside others) others has

-- the letters of a lexer do not change from lexeme to lexeme
pub letters_of_alphabet : (l : Letters) → letters (alphabet l) ≡ l
letters_of_alphabet Plain = refl
letters_of_alphabet Dots = refl
letters_of_alphabet Brief = refl
letters_of_alphabet Board = refl

pub later_alphabet : (l : Letters) → later (alphabet l) ≡ alphabet l
later_alphabet Plain = refl
later_alphabet Dots = refl
later_alphabet Brief = refl
later_alphabet Board = refl

-- a symbol and what is after it may be replaced by what equals them
pub symbol_in_place : (symbol given : Symbol) (line : ℕ) (rest others : Lexemes) → symbol ≡ given → rest ≡ others → with_symbol given line others ≡ with_symbol symbol line rest
symbol_in_place symbol given line rest others f g = sym (ap (λ s. with_symbol s line rest) f ∙ ap (λ t. with_symbol given line t) g)

pub not_skipped : (byte : ℕ) (rest others : List ℕ) → rest ≡ byte ∷ others → BeginsHere rest → is_skipped byte ≡ false
not_skipped byte rest others front here = subst BeginsHere front here
