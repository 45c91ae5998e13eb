-- What the readers take has a layout, and where the first two lexemes are refused, a reader refuses them so.
use Rattle.std.proofs.Common.{◌≡◌, ℕ, Bool, true, false, List, Option, Some, None, codes, refl, ap, sym, ◌∙◌, arith}
use Rattle.std.proofs.lemmas.Grind.{common_steps}
use Rattle.std.specs.Prelude.{Result, Ok, Err, if◌then◌else◌}
use Rattle.std.specs.Str.{bytes_eq}
use Rattle.layout.specs.Refusals.{alphabet_of, plan_letters, brief_head, is_board, or_board, head_or, letters_in, stranger, refusal_by, refusal_of}
use Rattle.lexer.specs.declared.lexemes.Letters.{Letters}
use Rattle.lexer.specs.declared.lexemes.Letters.TheVariants.{Plain}
use Rattle.lexer.specs.Lexemes.{Lexemes, text_end, stray, foreign, Alphabet, no_dots, lexemes_of}
use Rattle.lexer.specs.Lexemes as lexemes
use Rattle.plan_core.specs.Contents.{Contents, empty}
use Rattle.plan_text.specs.declared.errors.PlanError.{PlanError}
use Rattle.plan_text.specs.declared.errors.PlanError.TheVariants as errors
use Rattle.plan_text.specs.Grammar.{dots_of, Spells}
use Rattle.plan_text.specs.Reader.{second_at, version_at, after_one, items_at, text_read}
use Rattle.plan_text.specs.Tokens.{Tokens, next, last, keyword, word, keyword_of, token_of_word, tokens_from, tokens_of}
use Rattle.plan_text.proofs.AgainLemmas.{spot}
use Rattle.plan_text.proofs.ItemLemmas.{items_take}
use Rattle.plan_text.proofs.TakesLemmas.{bind_ok}
use Rattle.plan_text.proofs.TextLemmas.{third, text_again}
use Rattle.text_laws.proofs.PlanWords.{end_of, items_respect}

-- ---- tokens end as their lexemes do

ends_alike : (all : Lexemes) → end_of (tokens_from all) ≡ stranger all
ends_alike (lexemes.next lexeme line rest) = ends_alike rest
ends_alike (lexemes.last text_end line) = refl
ends_alike (lexemes.last stray line) = refl
ends_alike (lexemes.last foreign line) = refl

after_end : (from : Tokens) → end_of (after_one from) ≡ end_of from
after_end from = grind (arith, common_steps)

-- ---- words and keywords

no_keyword : (bytes : List ℕ) → keyword_of bytes ≡ None → token_of_word bytes ≡ word bytes
unfolding token_of_word
no_keyword bytes e = rw e refl

some_keyword : (bytes : List ℕ) (k : _) → keyword_of bytes ≡ Some k → token_of_word bytes ≡ keyword k
unfolding token_of_word
some_keyword bytes k e = rw e refl

-- the first two tokens say the version
head_is : (bytes : List ℕ) (line : ℕ) (rest : Tokens) → bytes_eq bytes (codes "plan") ≡ true → version_at (next (token_of_word bytes) line rest) ≡ second_at rest
unfolding token_of_word
head_is bytes line rest e = rw e refl

pub no_head : (bytes : List ℕ) (line : ℕ) (rest : Tokens) → bytes_eq bytes (codes "plan") ≡ false → version_at (next (token_of_word bytes) line rest) ≡ Err (errors.Version line)
unfolding token_of_word
no_head bytes line rest e = grind (arith, common_steps)

-- ---- what is read

abbrev letters_for : Result Letters PlanError → Letters
letters_for (Ok l) = l
letters_for (Err e) = Plain

-- the letters are those of the version
Told : Result Letters PlanError → Alphabet → Type 0
Told r dots = (r ≡ Ok (letters_for r)) × (alphabet_of (letters_for r) ≡ dots)

second_told : (rest : Lexemes) (version : _) → second_at (tokens_from rest) ≡ Ok version → Told (plan_letters rest) (dots_of version)
unfolding Told
second_told rest version e = grind (arith, common_steps, no_keyword, some_keyword)

head_told : (all : Lexemes) (version : _) (brief : Option (Result Letters PlanError)) → version_at (tokens_from all) ≡ Ok version → Told (head_or brief all) (dots_of version)
head_told (lexemes.next (lexemes.word name) line rest) version brief h = by (bytes_eq name (codes "plan")) refl
  where
    by : (t : Bool) → bytes_eq name (codes "plan") ≡ t → Told (head_or brief (lexemes.next (lexemes.word name) line rest)) (dots_of version)
    by t e = grind (arith, common_steps, second_told, head_is, no_head)
head_told (lexemes.next (lexemes.sign c) line rest) version brief h = absurd cc
head_told (lexemes.last ending line) version brief h = absurd cc

pub plan_laid_out : (text : List ℕ) (plan : Contents) → Spells text plan → refusal_of text ≡ None
unfolding text_read tokens_of letters_in refusal_of Told
plan_laid_out text plan spelled =
    let read = text_again text plan spelled in
    let v = bind_ok (version_at (tokens_of no_dots 1 text)) (λ version. items_at version empty (spot (third text version) 0)) plan read in
    let items = items_take _ v.0 empty (spot (third text v.0) 0) plan v.2 in
    let ends = (items_respect v.0 items.0 empty plan).ends (third text v.0) (last text_end items.1.0) items.1.1 in
    let whole = sym (ends_alike (lexemes_of (dots_of v.0) 1 text)) ∙ sym (after_end (tokens_of (dots_of v.0) 1 text)) ∙ sym (after_end (after_one (tokens_of (dots_of v.0) 1 text))) ∙ ends in
    let letters = head_told (lexemes_of no_dots 1 text) v.0 (or_board (brief_head (lexemes_of lexemes.briefs 1 text)) (is_board (lexemes_of lexemes.boards 1 text))) v.1 in
    ap (λ (r : Result Letters PlanError). refusal_by r text) letters.0 ∙ ap (λ a. stranger (lexemes_of a 1 text)) letters.1 ∙ whole

-- ---- heads that are refused

abbrev bad : PlanError → Result Letters PlanError
bad e = Err e

second_refused : (rest : Lexemes) (e : PlanError) → plan_letters rest ≡ Err e → second_at (tokens_from rest) ≡ Err e
second_refused rest e_ e = grind (arith, common_steps, no_keyword, some_keyword)

pub first_refused : (all : Lexemes) (e : PlanError) → head_or None all ≡ Err e → version_at (tokens_from all) ≡ Err e
first_refused (lexemes.next (lexemes.word name) line rest) e h = by (bytes_eq name (codes "plan")) refl h
  where
    by : (t : Bool) → bytes_eq name (codes "plan") ≡ t → (if t then plan_letters rest else bad (errors.Version line)) ≡ Err e → version_at (next (token_of_word name) line (tokens_from rest)) ≡ Err e
    by t e f = grind (arith, common_steps, head_is, second_refused, no_head)
first_refused (lexemes.next (lexemes.sign c) line rest) e h = cc
first_refused (lexemes.last text_end line) e h = cc
first_refused (lexemes.last stray line) e h = cc
first_refused (lexemes.last foreign line) e h = cc
