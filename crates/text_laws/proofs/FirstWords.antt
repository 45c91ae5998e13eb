-- The first word of a text, by the letters of briefs and by those of plans.
use Rattle.std.proofs.Common.{◌≡◌, ℕ, ◌+◌, ◌==◌, ◌⊎◌, inl, inr, Bool, true, false, List, [], ◌∷◌, refl, ap, sym, ◌∙◌, subst, arith, true≢false}
use Rattle.std.specs.Prelude.{nat_lt}
use Rattle.std.proofs.lemmas.Bool.Decides.{nat_tests}
use Rattle.std.proofs.lemmas.Grind.{common_steps}
use Rattle.lexer.specs.declared.lexemes.Letters.{Letters}
use Rattle.lexer.specs.declared.lexemes.Letters.TheVariants.{Plain, Dots, Brief, Board}
use Rattle.lexer.specs.Lexemes.{Lexemes, next, word, sign, last, foreign, Alphabet, no_dots, briefs, boards, letters, Class, line_feed, blank, number_sign, sign_byte, word_part, quote, foreign_byte, stray_byte, class_of, begins_with_part, put_before, raw_lexemes, in_comment, in_string, lexemes_of}
use Rattle.lexer.proofs.LexemeLemmas.{by_class, lexemes_at, comment_at, part_at, class_part}
use Rattle.given_plans.specs.Given.{is_version}
use Rattle.layout.specs.Refusals.{no_version}

-- the first lexeme is a word that begins with `b`
abbrev pub FirstIs : Lexemes → Type 0
FirstIs all = (w : List ℕ) × (at : ℕ) × (rest : Lexemes) × (all ≡ next (word (98 ∷ w)) at rest)

feed_same : (byte : ℕ) → class_of Brief byte ≡ line_feed → class_of Plain byte ≡ line_feed
feed_same byte h = grind (arith, nat_tests)

blank_same : (byte : ℕ) → class_of Brief byte ≡ blank → class_of Plain byte ≡ blank
blank_same byte h = grind (arith, nat_tests)

number_same : (byte : ℕ) → class_of Brief byte ≡ number_sign → class_of Plain byte ≡ number_sign
number_same byte h = grind (arith, nat_tests)

-- only the second version has quotes
no_quote : (byte : ℕ) → class_of Brief byte ≡ quote → ⊥
no_quote byte h = grind (arith, nat_tests)

no_plan_quote : (byte : ℕ) → class_of Plain byte ≡ quote → ⊥
no_plan_quote byte h = grind (arith, nat_tests)

-- ---- comments

feed_class : (l : Letters) (byte : ℕ) → (byte == 10) ≡ true → class_of l byte ≡ line_feed
feed_class l byte h = grind (arith, nat_tests)

feed_byte : (l : Letters) (byte : ℕ) → class_of l byte ≡ line_feed → (byte == 10) ≡ true
feed_byte Plain byte h = grind (arith, nat_tests)
feed_byte Dots byte h = grind (arith, nat_tests)
feed_byte Brief byte h = grind (arith, nat_tests)
feed_byte Board byte h = grind (arith, nat_tests)

foreign_class : (l : Letters) (byte : ℕ) → nat_lt byte 128 ≡ false → class_of l byte ≡ foreign_byte
foreign_class l byte e = grind (arith, common_steps, nat_tests)

foreign_above : (l : Letters) (byte : ℕ) → class_of l byte ≡ foreign_byte → nat_lt byte 128 ≡ false
foreign_above Plain byte h = grind (arith, nat_tests)
foreign_above Dots byte h = grind (arith, nat_tests)
foreign_above Brief byte h = grind (arith, nat_tests)
foreign_above Board byte h = grind (arith, nat_tests)

comment_over : (k : Class) (a : Alphabet) (line : ℕ) (bytes : List ℕ) → (k ≡ line_feed → ⊥) → (k ≡ foreign_byte → ⊥) → comment_at k a line bytes ≡ in_comment a line bytes
comment_over k a line bytes e f = grind (arith, common_steps)

module _ (a : Alphabet) (line byte : ℕ) (bytes : List ℕ) where
  pub comment_ends : (byte == 10) ≡ true → in_comment a line (byte ∷ bytes) ≡ raw_lexemes a (line + 1) bytes
  comment_ends h = ap (λ (c : Class). comment_at c a line bytes) (feed_class (letters a) byte h)

  pub comment_breaks : nat_lt byte 128 ≡ false → in_comment a line (byte ∷ bytes) ≡ comment_at foreign_byte a line bytes
  comment_breaks h = ap (λ (c : Class). comment_at c a line bytes) (foreign_class (letters a) byte h)

  pub comment_goes : (byte == 10) ≡ false → nat_lt byte 128 ≡ true → in_comment a line (byte ∷ bytes) ≡ in_comment a line bytes
  comment_goes h g =
      comment_over (class_of (letters a) byte) a line bytes
      (λ e. true≢false (sym (feed_byte (letters a) byte e) ∙ h))
      (λ e. true≢false (sym g ∙ foreign_above (letters a) byte e))

-- ---- words

-- parts of words are a word that begins with the first of them
pub word_begins : (a : Alphabet) (line byte : ℕ) (bytes : List ℕ) → class_of (letters a) byte ≡ word_part → (w : List ℕ) × (at : ℕ) × (rest : Lexemes) × (raw_lexemes a line (byte ∷ bytes) ≡ next (word (byte ∷ w)) at rest)
word_begins a line byte [] h = ([], line, _, by_class word_part a line byte [] h)
word_begins a line byte (c ∷ bytes) h = by (begins_with_part (letters a) (c ∷ bytes)) refl (word_begins a line c bytes)
  where
    is : raw_lexemes a line (byte ∷ (c ∷ bytes)) ≡ part_at (begins_with_part (letters a) (c ∷ bytes)) a line byte (c ∷ bytes)
    is = by_class word_part a line byte (c ∷ bytes) h

    by : (t : Bool) → begins_with_part (letters a) (c ∷ bytes) ≡ t → (class_of (letters a) c ≡ word_part → (w : List ℕ) × (at : ℕ) × (rest : Lexemes) × (raw_lexemes a line (c ∷ bytes) ≡ next (word (c ∷ w)) at rest))
        → (w : List ℕ) × (at : ℕ) × (rest : Lexemes) × (raw_lexemes a line (byte ∷ (c ∷ bytes)) ≡ next (word (byte ∷ w)) at rest)
    by true e more =
        let f = more (class_part (letters a) c e) in
        (c ∷ f.0, f.1, f.2, is ∙ ap (λ (t : Bool). part_at t a line byte (c ∷ bytes)) e ∙ ap (put_before byte) f.3)
    by false e more = ([], line, _, is ∙ ap (λ (t : Bool). part_at t a line byte (c ∷ bytes)) e)

abbrev Both : List ℕ → ℕ → Type 0
Both bytes line = (FirstIs (raw_lexemes briefs line bytes) → FirstIs (raw_lexemes no_dots line bytes)) × (FirstIs (in_comment briefs line bytes) → FirstIs (in_comment no_dots line bytes))

module _ (line byte : ℕ) (bytes : List ℕ) (below : (at : ℕ) → Both bytes at) where
  outside : (k : Class) → class_of Brief byte ≡ k → FirstIs (lexemes_at k briefs line byte bytes) → FirstIs (raw_lexemes no_dots line (byte ∷ bytes))
  outside line_feed e f = subst FirstIs (sym (by_class line_feed no_dots line byte bytes (feed_same byte e))) ((below (line + 1)).0 f)
  outside blank e f = subst FirstIs (sym (by_class blank no_dots line byte bytes (blank_same byte e))) ((below line).0 f)
  outside number_sign e f = subst FirstIs (sym (by_class number_sign no_dots line byte bytes (number_same byte e))) ((below line).1 f)
  outside sign_byte e f = absurd (let g = f.3 in cc)
  outside word_part e f =
      let b = word_begins briefs line byte bytes e in
      let both : next (word (byte ∷ b.0)) b.1 b.2 ≡ next (word (98 ∷ f.0)) f.1 f.2 = sym b.3 ∙ by_class word_part briefs line byte bytes e ∙ f.3 in
      let same : byte ≡ 98 = cc in
      let p = word_begins no_dots line byte bytes (subst (λ (c : ℕ). class_of Plain c ≡ word_part) (sym same) refl) in
      (p.0, p.1, p.2, p.3 ∙ ap (λ (c : ℕ). next (word (c ∷ p.0)) p.1 p.2) same)
  outside quote e f = absurd (no_quote byte e)
  outside foreign_byte e f = absurd (let g = f.3 in cc)
  outside stray_byte e f = absurd (let g = f.3 in cc)

  inside : (feed ascii : Bool) → (byte == 10) ≡ feed → nat_lt byte 128 ≡ ascii → FirstIs (in_comment briefs line (byte ∷ bytes)) → FirstIs (in_comment no_dots line (byte ∷ bytes))
  inside true ascii e g f = subst FirstIs (sym (comment_ends no_dots line byte bytes e)) ((below (line + 1)).0 (subst FirstIs (comment_ends briefs line byte bytes e) f))
  inside false true e g f = subst FirstIs (sym (comment_goes no_dots line byte bytes e g)) ((below line).1 (subst FirstIs (comment_goes briefs line byte bytes e g) f))
  inside false false e g f = absurd (let h = sym (comment_breaks briefs line byte bytes g) ∙ f.3 in cc)

both : (bytes : List ℕ) (line : ℕ) → Both bytes line
both [] line = ((λ f. absurd (let g = f.3 in cc)), (λ f. absurd (let g = f.3 in cc)))
both (byte ∷ bytes) line = (
  (λ f. outside line byte bytes (both bytes) (class_of Brief byte) refl (subst FirstIs (by_class (class_of Brief byte) briefs line byte bytes refl) f)),
  inside line byte bytes (both bytes) (byte == 10) (nat_lt byte 128) refl refl,
)

pub first_same : (text : List ℕ) → FirstIs (lexemes_of briefs 1 text) → FirstIs (lexemes_of no_dots 1 text)
unfolding lexemes_of
first_same text f = (both text 1).0 f

-- ---- the same of the second version, in which foreign bytes may stand in comments

-- the first lexeme is such a word, or a foreign byte stands before it
abbrev pub FirstOr : Lexemes → Type 0
FirstOr all = FirstIs all ⊎ ((line : ℕ) × (all ≡ last foreign line))

feed_board : (byte : ℕ) → class_of Board byte ≡ line_feed → class_of Plain byte ≡ line_feed
feed_board byte h = grind (arith, nat_tests)

blank_board : (byte : ℕ) → class_of Board byte ≡ blank → class_of Plain byte ≡ blank
blank_board byte h = grind (arith, nat_tests)

number_board : (byte : ℕ) → class_of Board byte ≡ number_sign → class_of Plain byte ≡ number_sign
number_board byte h = grind (arith, nat_tests)

put_first : (byte : ℕ) (all : Lexemes) → FirstIs (put_before byte all) → byte ≡ 98
put_first byte (next (word w) line rest) f = let g = f.3 in cc
put_first byte (next (sign c) line rest) f = absurd (let g = f.3 in cc)
put_first byte (last ending line) f = absurd (let g = f.3 in cc)

abbrev BothBoard : List ℕ → ℕ → Type 0
BothBoard bytes line = (FirstIs (raw_lexemes boards line bytes) → FirstOr (raw_lexemes no_dots line bytes)) × (FirstIs (in_comment boards line bytes) → FirstOr (in_comment no_dots line bytes))

module _ (line byte : ℕ) (bytes : List ℕ) (below : (at : ℕ) → BothBoard bytes at) where
  outside_board : (k : Class) → class_of Board byte ≡ k → FirstIs (lexemes_at k boards line byte bytes) → FirstOr (raw_lexemes no_dots line (byte ∷ bytes))
  outside_board line_feed e f = subst FirstOr (sym (by_class line_feed no_dots line byte bytes (feed_board byte e))) ((below (line + 1)).0 f)
  outside_board blank e f = subst FirstOr (sym (by_class blank no_dots line byte bytes (blank_board byte e))) ((below line).0 f)
  outside_board number_sign e f = subst FirstOr (sym (by_class number_sign no_dots line byte bytes (number_board byte e))) ((below line).1 f)
  outside_board sign_byte e f = absurd (let g = f.3 in cc)
  outside_board word_part e f =
      let b = word_begins boards line byte bytes e in
      let both : next (word (byte ∷ b.0)) b.1 b.2 ≡ next (word (98 ∷ f.0)) f.1 f.2 = sym b.3 ∙ by_class word_part boards line byte bytes e ∙ f.3 in
      let same : byte ≡ 98 = cc in
      let p = word_begins no_dots line byte bytes (subst (λ (c : ℕ). class_of Plain c ≡ word_part) (sym same) refl) in
      inl (p.0, p.1, p.2, p.3 ∙ ap (λ (c : ℕ). next (word (c ∷ p.0)) p.1 p.2) same)
  outside_board quote e f =
      let part : class_of Board 98 ≡ quote = subst (λ (c : ℕ). class_of Board c ≡ quote) (put_first byte (in_string boards line bytes) f) e in
      absurd cc
  outside_board foreign_byte e f = absurd (let g = f.3 in cc)
  outside_board stray_byte e f = absurd (let g = f.3 in cc)

  inside_board : (feed ascii : Bool) → (byte == 10) ≡ feed → nat_lt byte 128 ≡ ascii → FirstIs (in_comment boards line (byte ∷ bytes)) → FirstOr (in_comment no_dots line (byte ∷ bytes))
  inside_board true ascii e g f = subst FirstOr (sym (comment_ends no_dots line byte bytes e)) ((below (line + 1)).0 (subst FirstIs (comment_ends boards line byte bytes e) f))
  inside_board false true e g f = subst FirstOr (sym (comment_goes no_dots line byte bytes e g)) ((below line).1 (subst FirstIs (comment_goes boards line byte bytes e g) f))
  inside_board false false e g f = inr (line, comment_breaks no_dots line byte bytes g)

both_board : (bytes : List ℕ) (line : ℕ) → BothBoard bytes line
both_board [] line = ((λ f. absurd (let g = f.3 in cc)), (λ f. absurd (let g = f.3 in cc)))
both_board (byte ∷ bytes) line = (
  (λ f. outside_board line byte bytes (both_board bytes) (class_of Board byte) refl (subst FirstIs (by_class (class_of Board byte) boards line byte bytes refl) f)),
  inside_board line byte bytes (both_board bytes) (byte == 10) (nat_lt byte 128) refl refl,
)

pub board_first : (text : List ℕ) → FirstIs (lexemes_of boards 1 text) → FirstOr (lexemes_of no_dots 1 text)
unfolding lexemes_of
board_first text f = (both_board text 1).0 f

-- ---- what is a lexeme by the letters of plans is one by those of briefs

-- what stands first is a lexeme, or the end of the text
abbrev IsFirst : Lexemes → Type 0
IsFirst all = is_version (no_version all) ≡ true

feed_too : (byte : ℕ) → class_of Plain byte ≡ line_feed → class_of Brief byte ≡ line_feed
feed_too byte h = grind (arith, nat_tests)

blank_too : (byte : ℕ) → class_of Plain byte ≡ blank → class_of Brief byte ≡ blank
blank_too byte h = grind (arith, nat_tests)

number_too : (byte : ℕ) → class_of Plain byte ≡ number_sign → class_of Brief byte ≡ number_sign
number_too byte h = grind (arith, nat_tests)

sign_too : (byte : ℕ) → class_of Plain byte ≡ sign_byte → class_of Brief byte ≡ sign_byte
sign_too byte h = grind (arith, nat_tests)

part_too : (byte : ℕ) → class_of Plain byte ≡ word_part → class_of Brief byte ≡ word_part
part_too byte h = grind (arith, nat_tests)

abbrev BothToo : List ℕ → ℕ → Type 0
BothToo bytes line = (IsFirst (raw_lexemes no_dots line bytes) → IsFirst (raw_lexemes briefs line bytes)) × (IsFirst (in_comment no_dots line bytes) → IsFirst (in_comment briefs line bytes))

module _ (line byte : ℕ) (bytes : List ℕ) (below : (at : ℕ) → BothToo bytes at) where
  outside_too : (k : Class) → class_of Plain byte ≡ k → IsFirst (lexemes_at k no_dots line byte bytes) → IsFirst (raw_lexemes briefs line (byte ∷ bytes))
  outside_too line_feed e f = subst IsFirst (sym (by_class line_feed briefs line byte bytes (feed_too byte e))) ((below (line + 1)).0 f)
  outside_too blank e f = subst IsFirst (sym (by_class blank briefs line byte bytes (blank_too byte e))) ((below line).0 f)
  outside_too number_sign e f = subst IsFirst (sym (by_class number_sign briefs line byte bytes (number_too byte e))) ((below line).1 f)
  outside_too sign_byte e f = subst IsFirst (sym (by_class sign_byte briefs line byte bytes (sign_too byte e))) refl
  outside_too word_part e f = let b = word_begins briefs line byte bytes (part_too byte e) in ap (λ (all : Lexemes). is_version (no_version all)) b.3
  outside_too quote e f = absurd (no_plan_quote byte e)
  outside_too foreign_byte e f = absurd (true≢false (sym f))
  outside_too stray_byte e f = absurd (true≢false (sym f))

  inside_too : (feed ascii : Bool) → (byte == 10) ≡ feed → nat_lt byte 128 ≡ ascii → IsFirst (in_comment no_dots line (byte ∷ bytes)) → IsFirst (in_comment briefs line (byte ∷ bytes))
  inside_too true ascii e g f = subst IsFirst (sym (comment_ends briefs line byte bytes e)) ((below (line + 1)).0 (subst IsFirst (comment_ends no_dots line byte bytes e) f))
  inside_too false true e g f = subst IsFirst (sym (comment_goes briefs line byte bytes e g)) ((below line).1 (subst IsFirst (comment_goes no_dots line byte bytes e g) f))
  inside_too false false e g f = absurd (true≢false (sym f ∙ ap (λ (all : Lexemes). is_version (no_version all)) (comment_breaks no_dots line byte bytes g)))

both_too : (bytes : List ℕ) (line : ℕ) → BothToo bytes line
both_too [] line = grind (arith, common_steps)
both_too (byte ∷ bytes) line = grind (arith, common_steps, outside_too, by_class, inside_too, (both_too bytes))

pub first_too : (text : List ℕ) → is_version (no_version (lexemes_of no_dots 1 text)) ≡ true → is_version (no_version (lexemes_of briefs 1 text)) ≡ true
unfolding lexemes_of
first_too text f = (both_too text 1).0 f
