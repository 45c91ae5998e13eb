-- Whole texts. The first two tokens are the same whether or not `.` is a part of words after them, and so the version that
-- they say is that of the text.
use Rattle.std.proofs.Common.{◌≡◌, ℕ, ◌+◌, List, [], ◌∷◌, Bool, true, false, Some, None, refl, sym, ap, ◌∙◌, subst}
use Rattle.std.specs.Prelude.{codes, ◌==◌, Result, Ok, Err, if◌then◌else◌}
use Rattle.std.specs.Str.{bytes_eq}
use Rattle.lexer.specs.declared.lexemes.Letters.{Letters}
use Rattle.lexer.specs.Lexemes.{Alphabet, no_dots, dots_after, letters, later, Lexeme, sign, Lexemes, Ending, text_end, foreign, stray, Class, line_feed, blank, number_sign, sign_byte, word_part, quote, foreign_byte, stray_byte, is_string_part, has_any_comment, class_of, begins_with_part, put_before, raw_lexemes, in_comment, in_string, lexemes_of}
use Rattle.lexer.specs.Lexemes as lexemes
use Rattle.lexer.proofs.LexemeLemmas.{lexemes_at, comment_at, foreign_at, string_by, part_at}
use Rattle.plan_core.specs.Contents.{Contents, empty}
use Rattle.plan_core.proofs.BuildingLemmas.{same-bytes_eq}
use Rattle.plan_text.specs.declared.errors.PlanError.{PlanError}
use Rattle.plan_text.specs.declared.errors.PlanError.TheVariants as errors
use Rattle.plan_text.specs.declared.symbols.Keyword.TheVariants as keywords
use Rattle.plan_text.specs.declared.versions.Version.{Version}
use Rattle.plan_text.specs.declared.versions.Version.TheVariants as versions
use Rattle.plan_text.specs.Grammar.{version_word, dots_of, Begins, Spells}
use Rattle.plan_text.specs.Reader.{◌>>=◌, version_of, version_at, after_one, items_at, text_read}
use Rattle.plan_text.specs.Tokens.{Token, keyword, word, Tokens, next, last, tokens_from, tokens_of}
use Rattle.plan_text.proofs.AgainLemmas.{spot}
use Rattle.plan_text.proofs.ItemLemmas.{items_take, items_again}
use Rattle.plan_text.proofs.TakesLemmas.{bind_ok, or_ok}

-- the same first lexeme with what follows it, or the same ending
data Alike (d e : Alphabet) (xs ys : Lexemes) : Type 0 where
  ends : (ending : Ending) (line : ℕ) → xs ≡ lexemes.last ending line → ys ≡ lexemes.last ending line → Alike d e xs ys
  goes : (lexeme : Lexeme) (line further : ℕ) (bytes : List ℕ) → xs ≡ lexemes.next lexeme line (raw_lexemes (later d) further bytes) → ys ≡ lexemes.next lexeme line (raw_lexemes (later e) further bytes) → Alike d e xs ys

alike_before : (d e : Alphabet) (xs ys : Lexemes) (byte : ℕ) → Alike d e xs ys → Alike d e (put_before byte xs) (put_before byte ys)
alike_before d e xs ys byte (ends ending line p q) = ends ending line (ap (put_before byte) p) (ap (put_before byte) q)
alike_before d e xs ys byte (goes (lexemes.word w) line further bytes p q) = goes (lexemes.word (byte ∷ w)) line further bytes (ap (put_before byte) p) (ap (put_before byte) q)
alike_before d e xs ys byte (goes (sign b) line further bytes p q) = goes (sign b) line further bytes (ap (put_before byte) p) (ap (put_before byte) q)

alike_part : (t : Bool) (d e : Alphabet) (line byte : ℕ) (bytes : List ℕ) → Alike d e (raw_lexemes d line bytes) (raw_lexemes e line bytes) → Alike d e (part_at t d line byte bytes) (part_at t e line byte bytes)
alike_part true d e line byte bytes h = alike_before d e _ _ byte h
alike_part false d e line byte bytes h = goes (lexemes.word (byte ∷ [])) line line bytes refl refl

alike_at : (k : Class) (d e : Alphabet) (line byte : ℕ) (bytes : List ℕ) → letters d ≡ letters e → Alike d e (raw_lexemes d (line + 1) bytes) (raw_lexemes e (line + 1) bytes) →
    Alike d e (raw_lexemes d line bytes) (raw_lexemes e line bytes) → Alike d e (in_comment d line bytes) (in_comment e line bytes) → Alike d e (in_string d line bytes) (in_string e line bytes) → Alike d e (lexemes_at k d line byte bytes) (lexemes_at k e line byte bytes)
alike_at line_feed d e line byte bytes same f h c s = f
alike_at blank d e line byte bytes same f h c s = h
alike_at number_sign d e line byte bytes same f h c s = c
alike_at sign_byte d e line byte bytes same f h c s = goes (sign byte) line line bytes refl refl
alike_at word_part d e line byte bytes same f h c s =
    subst (λ (t : Letters). Alike d e (part_at (begins_with_part (letters d) bytes) d line byte bytes) (part_at (begins_with_part t bytes) e line byte bytes)) same
    (alike_part (begins_with_part (letters d) bytes) d e line byte bytes h)
alike_at quote d e line byte bytes same f h c s = alike_before d e _ _ byte s
alike_at foreign_byte d e line byte bytes same f h c s = ends foreign line refl refl
alike_at stray_byte d e line byte bytes same f h c s = ends stray line refl refl

alike_foreign : (any : Bool) (d e : Alphabet) (line : ℕ) (bytes : List ℕ) → Alike d e (in_comment d line bytes) (in_comment e line bytes) → Alike d e (foreign_at any d line bytes) (foreign_at any e line bytes)
alike_foreign true d e line bytes c = c
alike_foreign false d e line bytes c = ends foreign line refl refl

alike_comment_at : (k : Class) (d e : Alphabet) (line : ℕ) (bytes : List ℕ) → letters d ≡ letters e → Alike d e (raw_lexemes d (line + 1) bytes) (raw_lexemes e (line + 1) bytes) →
    Alike d e (in_comment d line bytes) (in_comment e line bytes) → Alike d e (comment_at k d line bytes) (comment_at k e line bytes)
alike_comment_at line_feed d e line bytes same f c = f
alike_comment_at foreign_byte d e line bytes same f c =
    subst (λ (t : Letters). Alike d e (foreign_at (has_any_comment (letters d)) d line bytes) (foreign_at (has_any_comment t) e line bytes)) same
    (alike_foreign (has_any_comment (letters d)) d e line bytes c)
alike_comment_at k d e line bytes same f c = c

alike_string_at : (closes inner : Bool) (d e : Alphabet) (line byte : ℕ) (bytes : List ℕ) → Alike d e (in_string d line bytes) (in_string e line bytes) → Alike d e (string_by closes inner d line byte bytes) (string_by closes inner e line byte bytes)
alike_string_at true inner d e line byte bytes s = goes (lexemes.word (byte ∷ [])) line line bytes refl refl
alike_string_at false true d e line byte bytes s = alike_before d e _ _ byte s
alike_string_at false false d e line byte bytes s = ends stray line refl refl

alike_string : (d e : Alphabet) (line : ℕ) (bytes : List ℕ) → Alike d e (in_string d line bytes) (in_string e line bytes)
alike_string d e line [] = ends stray line refl refl
alike_string d e line (byte ∷ bytes) = alike_string_at (byte == 34) (is_string_part byte) d e line byte bytes (alike_string d e line bytes)

mutual
  alike_raw : (d e : Alphabet) (line : ℕ) (bytes : List ℕ) → letters d ≡ letters e → Alike d e (raw_lexemes d line bytes) (raw_lexemes e line bytes)
  alike_raw d e line [] same = ends text_end line refl refl
  alike_raw d e line (byte ∷ bytes) same =
      subst (λ (t : Letters). Alike d e (lexemes_at (class_of (letters d) byte) d line byte bytes) (lexemes_at (class_of t byte) e line byte bytes)) same
      (alike_at (class_of (letters d) byte) d e line byte bytes same (alike_raw d e (line + 1) bytes same) (alike_raw d e line bytes same) (alike_comment d e line bytes same) (alike_string d e line bytes))

  alike_comment : (d e : Alphabet) (line : ℕ) (bytes : List ℕ) → letters d ≡ letters e → Alike d e (in_comment d line bytes) (in_comment e line bytes)
  alike_comment d e line [] same = ends text_end line refl refl
  alike_comment d e line (byte ∷ bytes) same =
      subst (λ (t : Letters). Alike d e (comment_at (class_of (letters d) byte) d line bytes) (comment_at (class_of t byte) e line bytes)) same
      (alike_comment_at (class_of (letters d) byte) d e line bytes same (alike_raw d e (line + 1) bytes same) (alike_comment d e line bytes same))

-- the same token, and then tokens of the same bytes
record Followed (d e : Alphabet) (line : ℕ) (bytes : List ℕ) (token : Token) (place : ℕ) (rest : Tokens) : Type 0 where
  further : ℕ
  more : List ℕ
  own : rest ≡ tokens_of (later d) further more
  others : tokens_of e line bytes ≡ next token place (tokens_of (later e) further more)

followed : (d e : Alphabet) (line : ℕ) (bytes : List ℕ) (token : Token) (place : ℕ) (rest : Tokens) → letters d ≡ letters e → tokens_of d line bytes ≡ next token place rest → Followed d e line bytes token place rest
unfolding tokens_of lexemes_of
followed d e line bytes token place rest same is = from_alike (alike_raw d e line bytes same)
  where
    from_alike : Alike d e (raw_lexemes d line bytes) (raw_lexemes e line bytes) → Followed d e line bytes token place rest
    from_alike (ends ending at p q) = let h = ap tokens_from p in absurd cc
    from_alike (goes t at further more p q) =
        let h = ap tokens_from p in
        let g = ap tokens_from q in
        record { further = further; more = more; own = cc; others = cc }

-- the same two tokens
both_followed : (d e : Alphabet) (line : ℕ) (bytes : List ℕ) (first second : Token) (l m : ℕ) (rest : Tokens) → letters d ≡ letters e → letters (later d) ≡ letters (later e) →
    tokens_of d line bytes ≡ next first l (next second m rest) → (others : Tokens) × (tokens_of e line bytes ≡ next first l (next second m others))
both_followed d e line bytes first second l m rest same same_later is =
    let f = followed d e line bytes first l (next second m rest) same is in
    let g = followed (later d) (later e) f.further f.more second m rest same_later (sym f.own) in
    (tokens_of (later (later e)) g.further g.more, f.others ∙ ap (next first l) g.others)

-- these tokens begin with `plan` and this version
record Announced (from : Tokens) (version : Version) : Type 0 where
  line : ℕ
  second : ℕ
  rest : Tokens
  are : from ≡ next (keyword keywords.Plan) line (next (word (version_word version)) second rest)

version_is : (bytes : List ℕ) (version : Version) → version_of bytes ≡ Some version → bytes ≡ version_word version
version_is bytes version e = by_tests (bytes_eq bytes (codes "1")) (bytes_eq bytes (codes "2")) refl refl version e
  where
    by_tests : (one two : Bool) → bytes_eq bytes (codes "1") ≡ one → bytes_eq bytes (codes "2") ≡ two → (v : Version) → (if one then Some versions.One else if two then Some versions.Two else None) ≡ Some v → bytes ≡ version_word v
    by_tests true two p q versions.One h = same-bytes_eq bytes (codes "1") p
    by_tests false true p q versions.Two h = same-bytes_eq bytes (codes "2") q
    by_tests true two p q versions.Two h = absurd cc
    by_tests false true p q versions.One h = absurd cc
    by_tests false false p q v h = absurd cc

announced : (from : Tokens) (version : Version) → version_at from ≡ Ok version → Announced from version
announced (next (keyword keywords.Plan) line (next (word bytes) second rest)) version e = record {
  line = line;
  second = second;
  rest = rest;
  are = ap (λ (w : List ℕ). next (keyword keywords.Plan) line (next (word w) second rest)) (version_is bytes version (or_ok (version_of bytes) (errors.Version second) version e));
}
announced (next (keyword keywords.Plan) line (next token second rest)) version e = absurd cc
announced (next (keyword keywords.Plan) line (last ending second)) version e = absurd cc
announced from version e = absurd cc

-- the tokens after the first two, as the version has them
abbrev pub third : List ℕ → Version → Tokens
third text version = after_one (after_one (tokens_of (dots_of version) 1 text))

begins : (text : List ℕ) (version : Version) → Announced (tokens_of no_dots 1 text) version → Begins text version (third text version)
begins text versions.One a = (next (word (codes "1")) a.second (third text versions.One), (a.line, a.are ∙ ap (λ (t : Tokens). next (keyword keywords.Plan) a.line (next (word (codes "1")) a.second t)) (sym (ap (λ (t : Tokens). after_one (after_one t)) a.are))), (a.second, refl))
begins text versions.Two a =
    let f = both_followed no_dots (dots_after 2) 1 text _ _ a.line a.second a.rest refl refl a.are in
    (next (word (codes "2")) a.second (third text versions.Two), (a.line, f.1 ∙ ap (λ (t : Tokens). next (keyword keywords.Plan) a.line (next (word (codes "2")) a.second t)) (sym (ap (λ (t : Tokens). after_one (after_one t)) f.1))), (a.second, refl))

begun : (text : List ℕ) (version : Version) (start : Tokens) → Begins text version start → (version_at (tokens_of no_dots 1 text) ≡ Ok version) × (third text version ≡ start)
begun text versions.One start b =
    let is = b.1.1 ∙ ap (next (keyword keywords.Plan) b.1.0) b.2.1 in
    (ap version_at is, ap (λ (t : Tokens). after_one (after_one t)) is)
begun text versions.Two start b =
    let is = b.1.1 ∙ ap (next (keyword keywords.Plan) b.1.0) b.2.1 in
    let f = both_followed (dots_after 2) no_dots 1 text _ _ b.1.0 b.2.0 start refl refl is in
    (ap version_at f.1, ap (λ (t : Tokens). after_one (after_one t)) is)

-- ---- from the first two tokens on

pub text_from : (text : List ℕ) (version : Version) → version_at (tokens_of no_dots 1 text) ≡ Ok version → text_read text ≡ items_at version empty (spot (third text version) 0)
unfolding text_read
text_from text version e = ap (λ (r : Result Version PlanError). r >>= λ v. items_at v empty (spot (third text v) 0)) e

pub text_refused : (text : List ℕ) (e : PlanError) → version_at (tokens_of no_dots 1 text) ≡ Err e → text_read text ≡ Err e
unfolding text_read
text_refused text e h = ap (λ (r : Result Version PlanError). r >>= λ v. items_at v empty (spot (third text v) 0)) h

pub text_takes : (text : List ℕ) (plan : Contents) → text_read text ≡ Ok plan → Spells text plan
unfolding text_read
text_takes text plan e =
    let v = bind_ok (version_at (tokens_of no_dots 1 text)) (λ version. items_at version empty (spot (third text version) 0)) plan e in
    let start = third text v.0 in
    let items = items_take _ v.0 empty (spot start 0) plan v.2 in
    record {
      version = v.0;
      line = items.1.0;
      whole = record { items = items.0; start = start; begins = begins text v.0 (announced (tokens_of no_dots 1 text) v.0 v.1); spelled = items.1.1 };
    }

pub text_again : (text : List ℕ) (plan : Contents) → Spells text plan → text_read text ≡ Ok plan
text_again text plan s =
    let front = s.whole in
    let b = begun text s.version front.start front.begins in
    text_from text s.version b.0
    ∙ ap (λ (t : Tokens). items_at s.version empty (spot t 0)) b.1
    ∙ items_again front.items s.version empty plan 0 front.start s.line front.spelled
