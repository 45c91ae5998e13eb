-- What the reader of briefs takes has a layout; heads are refused exactly as those who read either a plan or a brief do.
use Rattle.std.proofs.Common.{◌≡◌, ℕ, List, length, Some, None, codes, refl, ap, sym, ◌∙◌, arith, Bool, true, false, ◌∷◌, Option, subst, true≢false}
use Rattle.std.proofs.lemmas.Grind.{common_steps}
use Rattle.std.specs.Prelude.{Result, Ok, Err, if◌then◌else◌}
use Rattle.plan_core.proofs.BuildingLemmas.{same-bytes_eq, bytes_eq-same}
use Rattle.brief_text.specs.Briefs.{text_read, brief_read, items_in, IsRefused}
use Rattle.brief_text.specs.Drafts.{Draft, no_items}
use Rattle.brief_text.specs.Grammar.{Spells}
use Rattle.brief_text.specs.Splitting.{plan_meant}
use Rattle.brief_text.specs.Trees.{BriefItem}
use Rattle.brief_text.proofs.SaysLemmas.{text_takes, start}
use Rattle.brief_tokens.specs.declared.symbols.Keyword.{Keyword}
use Rattle.brief_tokens.specs.Heads.{after_head, after_version, begun_by, begun, opened}
use Rattle.brief_tokens.specs.Tokens.{Tokens, next, keyword, keyword_of, token_of_word, tokens_from, tokens_of}
use Rattle.layout.specs.Refusals.{brief_letters, brief_head, is_board, or_board, head_or, letters_in, refusal_by, refusal_of, no_version}
use Rattle.lexer.specs.declared.lexemes.Letters.{Letters}
use Rattle.lexer.specs.declared.lexemes.Letters.TheVariants.{Brief}
use Rattle.lexer.specs.Lexemes.{Lexemes, text_end, stray, foreign, no_dots, briefs, boards, lexemes_of}
use Rattle.plan_text.specs.declared.errors.PlanError.{PlanError}
use Rattle.plan_text.specs.Reader.{◌>>=◌, version_at}
use Rattle.plan_text.specs.Refusals.{First}
use Rattle.plan_text.proofs.TextLemmas.{text_refused}
use Rattle.text_laws.proofs.BriefWords.{brief_ends}
use Rattle.text_laws.proofs.FirstWords.{FirstIs, first_same, first_too}
use Rattle.text_laws.proofs.Heads.{first_refused, no_head as not_plan}
use Rattle.text_laws.proofs.OpenedBriefs.{no_keyword, some_keyword, brief_word, opened_letters, opened_none, second_none, board_lettered, no_board}
use Rattle.std.specs.Str.{bytes_eq}
use Rattle.given_plans.specs.Given.{is_version, is_second, begins_second, IsNeither, no_plan, no_brief, no_head}
use Rattle.brief_tokens.specs.declared.symbols.Keyword.TheVariants as keywords
use Rattle.lexer.specs.Lexemes as lexemes
use Rattle.plan_text.specs.Tokens as plan_tokens
use Rattle.plan_text.specs.declared.errors.PlanError.TheVariants as errors

-- ---- what is read

items_laid_out : (text : List ℕ) (items : List BriefItem) → Spells text items → refusal_of text ≡ None
unfolding refusal_of
items_laid_out text items said =
    let letters = opened_letters text said.letters said.rest said.head in
    ap (λ (r : Result Letters PlanError). refusal_by r text) letters.0 ∙ letters.1 ∙ brief_ends text items said

pub brief_laid_out : (text : List ℕ) (draft after : Draft) → text_read draft text ≡ Ok after → refusal_of text ≡ None
brief_laid_out text draft after is = let said = text_takes text draft after is in items_laid_out text said.items said.spelled

-- ---- heads that are refused

abbrev bad : PlanError → Result Letters PlanError
bad e = Err e

second_stranger : (rest : Lexemes) (e : PlanError) → brief_letters rest ≡ Some (bad e) → (line : ℕ) → after_head (next (keyword keywords.Brief) line (tokens_from rest)) ≡ Err e
second_stranger rest e_ e line = grind (arith, common_steps)

head_stranger : (all : Lexemes) (e : PlanError) → brief_head all ≡ Some (bad e) → after_head (tokens_from all) ≡ Err e
unfolding token_of_word
head_stranger (lexemes.next (lexemes.word b) line rest) e h = by (bytes_eq b (codes "brief")) refl h
  where
    by : (t : Bool) → bytes_eq b (codes "brief") ≡ t → (if t then brief_letters rest else None) ≡ Some (bad e) → after_head (tokens_from (lexemes.next (lexemes.word b) line rest)) ≡ Err e
    by true is g = ap (λ (n : List ℕ). after_head (tokens_from (lexemes.next (lexemes.word n) line rest))) (same-bytes_eq b (codes "brief") is) ∙ second_stranger rest e g line
    by false is g = absurd cc
head_stranger (lexemes.next (lexemes.sign c) line rest) e h = absurd cc
head_stranger (lexemes.last ending line) e h = absurd cc

refused_head : (text : List ℕ) (e : PlanError) → opened text ≡ Err e → IsRefused text e
unfolding brief_read text_read
refused_head text e h = ap (λ r. (r >>= λ head. items_in head.0 (length text) no_items (start head.1)) >>= λ draft. Ok (plan_meant draft)) h

-- the text is none of the second version
abbrev IsNoBoard : List ℕ → Type 0
IsNoBoard text = is_board (lexemes_of boards 1 text) ≡ false

opens_no_second : (first : Result Tokens PlanError) → is_second (begun_by first None) ≡ false
opens_no_second (Ok rest) = refl
opens_no_second (Err e) = refl

begins_no_second : (text : List ℕ) → IsNoBoard text → begins_second text ≡ false
unfolding begun
begins_no_second text first =
    let head = after_head (tokens_of 1 text) in
    ap (λ second. is_second (begun_by head second)) (second_none text first) ∙ opens_no_second head

pub brief_refused : (text : List ℕ) (e : PlanError) → brief_head (lexemes_of briefs 1 text) ≡ Some (bad e) → IsNoBoard text → IsRefused text e
unfolding tokens_of
brief_refused text e h first = refused_head text e (opened_none text e (head_stranger (lexemes_of briefs 1 text) e h) (second_none text first))

pub plan_refused : (text : List ℕ) (e : PlanError) → head_or None (lexemes_of no_dots 1 text) ≡ Err e → First text e
unfolding plan_tokens.tokens_of
plan_refused text e h = text_refused text e (first_refused (lexemes_of no_dots 1 text) e h)

-- ---- heads, as those refuse them who read either a plan or a brief

abbrev some_letters : Result Letters PlanError
some_letters = Ok Brief

-- `brief` is told as its keyword
brief_token : token_of_word (codes "brief") ≡ keyword keywords.Brief
unfolding token_of_word
brief_token = refl

-- ---- a brief whose head is refused for its version

-- the head of a brief is refused so
abbrev LacksHead : Tokens → Type 0
LacksHead from = (e : PlanError) × (after_head from ≡ Err e) × (is_version e ≡ true)

second_lacks : (rest : Lexemes) (line : ℕ) → brief_letters rest ≡ None → LacksHead (next (keyword keywords.Brief) line (tokens_from rest))
second_lacks (lexemes.next (lexemes.word b) at more) line h = by (keyword_of b) refl
  where
    other : bytes_eq b (codes "1") ≡ false
    other = test (bytes_eq b (codes "1")) h
      where
        test : (t : Bool) → (if t then Some (some_letters) else None) ≡ None → t ≡ false
        test true g = absurd cc
        test false g = refl

    by : (o : Option Keyword) → keyword_of b ≡ o → LacksHead (next (keyword keywords.Brief) line (next (token_of_word b) at (tokens_from more)))
    by None e = (errors.Version at, ap (λ t. after_version (next t at (tokens_from more))) (no_keyword b e) ∙ rw other refl, refl)
    by (Some k) e = (errors.Version at, ap (λ t. after_version (next t at (tokens_from more))) (some_keyword b k e), refl)
second_lacks (lexemes.next (lexemes.sign c) at more) line h = (errors.Version at, refl, refl)
second_lacks (lexemes.last text_end at) line h = (errors.Version at, refl, refl)
second_lacks (lexemes.last stray at) line h = absurd cc
second_lacks (lexemes.last foreign at) line h = absurd cc

other_keyword : (k : Keyword) (line : ℕ) (rest : Tokens) → (k ≡ keywords.Brief → ⊥) → after_head (next (keyword k) line rest) ≡ Err (errors.Version line)
other_keyword k line rest e = grind (arith, common_steps)

head_lacks : (all : Lexemes) → brief_head all ≡ None → is_version (no_version all) ≡ true → LacksHead (tokens_from all)
head_lacks (lexemes.next (lexemes.word b) line rest) none first = by (bytes_eq b (codes "brief")) refl none
  where
    by : (t : Bool) → bytes_eq b (codes "brief") ≡ t → (if t then brief_letters rest else None) ≡ None → LacksHead (next (token_of_word b) line (tokens_from rest))
    by true is h = subst (λ (n : List ℕ). LacksHead (next (token_of_word n) line (tokens_from rest))) (sym (same-bytes_eq b (codes "brief") is)) (brief_first h)
      where
        brief_first : brief_letters rest ≡ None → LacksHead (next (token_of_word (codes "brief")) line (tokens_from rest))
        brief_first g = subst (λ t. LacksHead (next t line (tokens_from rest))) (sym brief_token) (second_lacks rest line g)
    by false is h = told (keyword_of b) refl
      where
        told : (o : Option Keyword) → keyword_of b ≡ o → LacksHead (next (token_of_word b) line (tokens_from rest))
        told None e = (errors.Version line, ap (λ t. after_head (next t line (tokens_from rest))) (no_keyword b e), refl)
        told (Some k) e = (
          errors.Version line,
          ap (λ t. after_head (next t line (tokens_from rest))) (some_keyword b k e)
              ∙ other_keyword k line (tokens_from rest) (λ same. true≢false (sym (bytes_eq-same b (codes "brief") (brief_word b (some_keyword b k e ∙ ap keyword same))) ∙ is)),
          refl,
        )
head_lacks (lexemes.next (lexemes.sign c) line rest) none first = (errors.Version line, refl, refl)
head_lacks (lexemes.last text_end line) none first = (errors.Version line, refl, refl)
head_lacks (lexemes.last stray line) none first = absurd (true≢false (sym first))
head_lacks (lexemes.last foreign line) none first = absurd (true≢false (sym first))

lacks_read : (text : List ℕ) → LacksHead (tokens_of 1 text) → IsNoBoard text → (e : PlanError) × IsRefused text e × (is_version e ≡ true)
lacks_read text h first = (h.0, refused_head text h.0 (opened_none text h.0 h.1 (second_none text first)), h.2)

-- ---- heads of plans

-- a refusal for the version says that what stands first is a lexeme or the end
plan_first : (all : Lexemes) (e : PlanError) → head_or None all ≡ Err e → is_version e ≡ true → is_version (no_version all) ≡ true
plan_first all e_ e f = grind (arith, common_steps)

-- ---- heads of briefs

brief_begins : (all : Lexemes) (r : Result Letters PlanError) → brief_head all ≡ Some r → FirstIs all
brief_begins (lexemes.next (lexemes.word b) line rest) r h = by (bytes_eq b (codes "brief")) refl h
  where
    by : (t : Bool) → bytes_eq b (codes "brief") ≡ t → (if t then brief_letters rest else None) ≡ Some r → FirstIs (lexemes.next (lexemes.word b) line rest)
    by true is g = (codes "rief", line, rest, ap (λ (n : List ℕ). lexemes.next (lexemes.word n) line rest) (same-bytes_eq b (codes "brief") is))
    by false is g = absurd cc
brief_begins (lexemes.next (lexemes.sign c) line rest) r h = absurd cc
brief_begins (lexemes.last ending line) r h = absurd cc

-- what a brief is refused for in this way is no version
stranger_second : (rest : Lexemes) (e : PlanError) → brief_letters rest ≡ Some (bad e) → is_version e ≡ false
stranger_second rest e_ e = grind (arith, common_steps)

stranger_no_version : (all : Lexemes) (e : PlanError) → brief_head all ≡ Some (bad e) → is_version e ≡ false
stranger_no_version all e_ e = grind (arith, common_steps, stranger_second)

-- as a plan it is refused for its version
no_plan_head : (all : Lexemes) → FirstIs all → (line : ℕ) × (version_at (plan_tokens.tokens_from all) ≡ Err (errors.Version line))
no_plan_head all first =
    (first.1, ap (λ (ls : Lexemes). version_at (plan_tokens.tokens_from ls)) first.3 ∙ not_plan (98 ∷ first.0) first.1 (plan_tokens.tokens_from first.2) refl)

refused_as_plan : (text : List ℕ) → FirstIs (lexemes_of no_dots 1 text) → (line : ℕ) × First text (errors.Version line)
unfolding plan_tokens.tokens_of
refused_as_plan text first = let h = no_plan_head (lexemes_of no_dots 1 text) first in (h.0, text_refused text (errors.Version h.0) h.1)

first_exact : (text : List ℕ) (e : PlanError) → IsNoBoard text → head_or (brief_head (lexemes_of briefs 1 text)) (lexemes_of no_dots 1 text) ≡ Err e → IsNeither text e
unfolding tokens_of
first_exact text e first h = by (brief_head (lexemes_of briefs 1 text)) refl h
  where
    by_version : brief_head (lexemes_of briefs 1 text) ≡ None → head_or None (lexemes_of no_dots 1 text) ≡ Err e → (t : Bool) → is_version e ≡ t → IsNeither text e
    by_version none g false is = no_plan (begins_no_second text first) (plan_refused text e g) is
    by_version none g true is =
        let brief = lacks_read text (head_lacks (lexemes_of briefs 1 text) none (first_too text (plan_first (lexemes_of no_dots 1 text) e g is))) first in
        no_head (plan_refused text e g) is brief.1 brief.2

    by_brief : (r : Result Letters PlanError) → brief_head (lexemes_of briefs 1 text) ≡ Some r → head_or (Some r) (lexemes_of no_dots 1 text) ≡ Err e → IsNeither text e
    by_brief r is g =
        let begins = first_same text (brief_begins (lexemes_of briefs 1 text) r is) in
        let own : r ≡ Err e = sym (ap (head_or (Some r)) begins.3) ∙ g in
        let refused = is ∙ ap (λ (x : Result Letters PlanError). Some x) own in
        let plan = refused_as_plan text begins in
        no_brief plan.1 refl (brief_refused text e refused first) (stranger_no_version (lexemes_of briefs 1 text) e refused)

    by : (o : Option (Result Letters PlanError)) → brief_head (lexemes_of briefs 1 text) ≡ o → head_or o (lexemes_of no_dots 1 text) ≡ Err e → IsNeither text e
    by None is g = by_version is g (is_version e) refl
    by (Some r) is g = by_brief r is g

pub head_exact : (text : List ℕ) (e : PlanError) → letters_in text ≡ Err e → IsNeither text e
unfolding letters_in
head_exact text e h = by (is_board (lexemes_of boards 1 text)) refl
  where
    head : List ℕ → Option (Result Letters PlanError) → Result Letters PlanError
    head other o = head_or o (lexemes_of no_dots 1 other)

    by : (t : Bool) → is_board (lexemes_of boards 1 text) ≡ t → IsNeither text e
    by true is = let lettered = board_lettered text is in let no = sym lettered.1 ∙ h in absurd cc
    by false is =
        let brief = brief_head (lexemes_of briefs 1 text) in
        let same = ap (or_board brief) is ∙ no_board brief in
        first_exact text e is (sym (ap (head text) same) ∙ h)
