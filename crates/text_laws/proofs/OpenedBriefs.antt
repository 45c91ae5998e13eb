-- What the head of a brief says, of either version: whatever its lines are, and as the letters of the layout say it.
use Rattle.std.proofs.Common.{◌≡◌, ℕ, inl, inr, Bool, true, false, List, Option, Some, None, codes, refl, ap, sym, ◌∙◌, arith, subst, true≢false}
use Rattle.std.proofs.lemmas.Grind.{common_steps}
use Rattle.std.specs.Prelude.{Result, Ok, Err, if◌then◌else◌}
use Rattle.std.specs.Str.{bytes_eq}
use Rattle.plan_core.proofs.BuildingLemmas.{same-bytes_eq}
use Rattle.brief_tokens.specs.Heads.{after_head, after_second_head, begun_by, begun, past_files, with_board, is_file_name, after_files, after_with, after_string, opened}
use Rattle.brief_tokens.specs.declared.symbols.Keyword.{Keyword}
use Rattle.brief_tokens.specs.declared.symbols.Keyword.TheVariants as keywords
use Rattle.brief_tokens.specs.declared.symbols.Sign.TheVariants as signs
use Rattle.brief_tokens.specs.Tokens.{Token, keyword, word, sign, quoted, span, span_of, Tokens, next, last, keyword_of, further_keyword_of, or_keyword, board_keyword_of, string_of, token_of_word, board_token_of_word, told, board_told, tokens_by, tokens_from, tokens_of, board_tokens_of}
use Rattle.layout.specs.Refusals.{alphabet_of, brief_letters, brief_head, is_board, is_second_version, or_board, head_or, letters_in, stranger}
use Rattle.layout.specs.SameWords.{without_lines, SameWords}
use Rattle.lexer.specs.declared.lexemes.Letters.{Letters}
use Rattle.lexer.specs.declared.lexemes.Letters.TheVariants.{Brief, Board}
use Rattle.lexer.specs.Lexemes.{Lexeme, Lexemes, text_end, stray, foreign, no_dots, briefs, boards, lexemes_of}
use Rattle.lexer.specs.Lexemes as lexemes
use Rattle.plan_text.specs.declared.errors.PlanError.{PlanError}
use Rattle.plan_text.specs.declared.errors.PlanError.TheVariants as errors
use Rattle.plan_text.proofs.TakesLemmas.{ok_is}
use Rattle.text_laws.proofs.FirstWords.{FirstIs, FirstOr, first_same, board_first}

-- these tokens, all of them on line 0
abbrev pub bare : Tokens → Tokens
bare (next token line rest) = next token 0 (bare rest)
bare (last ending line) = last ending 0

-- the refusal of what the tokens end with
abbrev pub end_of : Tokens → Option PlanError
end_of (next token line rest) = end_of rest
end_of (last text_end line) = None
end_of (last stray line) = Some (errors.Unexpected line)
end_of (last foreign line) = Some (errors.NotAscii line)

-- ---- tokens and their lexemes

ends_alike : (said : Lexeme → Token) (all : Lexemes) → end_of (tokens_by said all) ≡ stranger all
ends_alike said (lexemes.next lexeme line rest) = ends_alike said rest
ends_alike said (lexemes.last text_end line) = refl
ends_alike said (lexemes.last stray line) = refl
ends_alike said (lexemes.last foreign line) = refl

bare_by : (said : Lexeme → Token) (all : Lexemes) → bare (tokens_by said all) ≡ tokens_by said (without_lines all)
bare_by said (lexemes.next lexeme line rest) = ap (next (said lexeme) 0) (bare_by said rest)
bare_by said (lexemes.last ending line) = refl

same_bare : (said : Lexeme → Token) (all others : Lexemes) → without_lines all ≡ without_lines others → bare (tokens_by said all) ≡ bare (tokens_by said others)
same_bare said all others same = bare_by said all ∙ ap (tokens_by said) same ∙ sym (bare_by said others)

module _ (text other : List ℕ) (same : SameWords text other) where
  bare_first : bare (tokens_of 1 text) ≡ bare (tokens_of 1 other)
  unfolding tokens_of
  bare_first = same_bare told (lexemes_of briefs 1 text) (lexemes_of briefs 1 other) same.2

  bare_second : bare (board_tokens_of 1 text) ≡ bare (board_tokens_of 1 other)
  unfolding board_tokens_of
  bare_second = same_bare board_told (lexemes_of boards 1 text) (lexemes_of boards 1 other) same.3

-- ---- heads as two tokens

record Front (from : Tokens) (first second : Token) (rest : Tokens) : Type 0 where
  line : ℕ
  at : ℕ
  is : from ≡ next first line (next second at rest)

front_over : (from other rest : Tokens) (t u : Token) → Front from t u rest → bare from ≡ bare other → (there : Tokens) × Front other t u there × (bare rest ≡ bare there)
front_over from (next a l (next b s more)) rest t u f same =
    let both : next t 0 (next u 0 (bare rest)) ≡ next a 0 (next b 0 (bare more)) = sym (ap bare f.is) ∙ same in
    (more, record { line = l; at = s; is = cc }, cc)
front_over from (next a l (last ending s)) rest t u f same =
    let both : next t 0 (next u 0 (bare rest)) ≡ next a 0 (last ending 0) = sym (ap bare f.is) ∙ same in
    absurd cc
front_over from (last ending l) rest t u f same =
    let both : next t 0 (next u 0 (bare rest)) ≡ last ending 0 = sym (ap bare f.is) ∙ same in
    absurd cc

front_ends : (from rest : Tokens) (t u : Token) → Front from t u rest → end_of from ≡ end_of rest
front_ends from rest t u f = ap end_of f.is

abbrev First : Tokens → Tokens → Type 0
First from rest = Front from (keyword keywords.Brief) (word (codes "1")) rest

abbrev Second : Tokens → Tokens → Type 0
Second from rest = Front from (keyword keywords.Brief) (word (codes "2")) rest

first_front : (from rest : Tokens) → after_head from ≡ Ok rest → First from rest
first_front (next (keyword keywords.Brief) line (next (word bytes) second more)) rest e = by (bytes_eq bytes (codes "1")) refl e
  where
    by : (t : Bool) → bytes_eq bytes (codes "1") ≡ t → (if t then Ok more else Err (errors.Version second)) ≡ Ok rest → First (next (keyword keywords.Brief) line (next (word bytes) second more)) rest
    by true is h =
        let same = same-bytes_eq bytes (codes "1") is in
        let all : more ≡ rest = cc in
        record { line = line; at = second; is = ap (λ (b : List ℕ). next (keyword keywords.Brief) line (next (word b) second more)) same ∙ ap (λ m. next (keyword keywords.Brief) line (next (word (codes "1")) second m)) all }
    by false is h = absurd cc
first_front (next (keyword keywords.Brief) line (next token second more)) rest e = absurd cc
first_front (next (keyword keywords.Brief) line (last ending second)) rest e = absurd cc
first_front from rest e = absurd cc

front_first : (from rest : Tokens) → First from rest → after_head from ≡ Ok rest
front_first from rest f = ap after_head f.is

second_front : (from rest : Tokens) → after_second_head from ≡ Some rest → Second from rest
second_front (next (keyword keywords.Brief) line (next (word bytes) second more)) rest e = by (bytes_eq bytes (codes "2")) refl e
  where
    by : (t : Bool) → bytes_eq bytes (codes "2") ≡ t → (if t then Some more else None) ≡ Some rest → Second (next (keyword keywords.Brief) line (next (word bytes) second more)) rest
    by true is h =
        let same = same-bytes_eq bytes (codes "2") is in
        let all : more ≡ rest = cc in
        record { line = line; at = second; is = ap (λ (b : List ℕ). next (keyword keywords.Brief) line (next (word b) second more)) same ∙ ap (λ m. next (keyword keywords.Brief) line (next (word (codes "2")) second m)) all }
    by false is h = absurd cc
second_front (next (keyword keywords.Brief) line (next token second more)) rest e = absurd cc
second_front (next (keyword keywords.Brief) line (last ending second)) rest e = absurd cc
second_front from rest e = absurd cc

front_second : (from rest : Tokens) → Second from rest → after_second_head from ≡ Some rest
front_second from rest f = ap after_second_head f.is

-- ---- what is opened

-- by which letters
pub data Opens (text : List ℕ) : Letters → Tokens → Type 0 where
  opens_first : {rest : Tokens} → after_head (tokens_of 1 text) ≡ Ok rest → Opens text Brief rest
  opens_second : {rest : Tokens} {e : PlanError} → after_head (tokens_of 1 text) ≡ Err e → after_second_head (board_tokens_of 1 text) ≡ Some rest → Opens text Board rest

abbrev Opened : Letters → Tokens → Result (Letters × Tokens) PlanError
Opened l rest = Ok (l, rest)

pair_is : (p q : Letters × Tokens) → Opened p.0 p.1 ≡ Opened q.0 q.1 → (p.0 ≡ q.0) × (p.1 ≡ q.1)
pair_is p q h = let same = ok_is (p.0, p.1) (q.0, q.1) h in (ap (λ (x : Letters × Tokens). x.0) same, ap (λ (x : Letters × Tokens). x.1) same)

opens : (text : List ℕ) (l : Letters) (rest : Tokens) → begun text ≡ Opened l rest → Opens text l rest
unfolding begun
opens text l rest is = by (after_head (tokens_of 1 text)) refl (after_second_head (board_tokens_of 1 text)) refl is
  where
    by : (a : Result Tokens PlanError) → after_head (tokens_of 1 text) ≡ a → (b : Option Tokens) → after_second_head (board_tokens_of 1 text) ≡ b → begun_by a b ≡ Opened l rest → Opens text l rest
    by (Ok x) e b f h =
        let same = pair_is (Brief, x) (l, rest) h in
        subst (λ (m : Letters). Opens text m rest) same.0 (opens_first (e ∙ ap (λ (y : Tokens). Ok y) same.1))
    by (Err c) e (Some x) f h =
        let same = pair_is (Board, x) (l, rest) h in
        subst (λ (m : Letters). Opens text m rest) same.0 (opens_second e (f ∙ ap (λ (y : Tokens). Some y) same.1))
    by (Err c) e None f h = absurd cc

begun_first : (text : List ℕ) (rest : Tokens) → after_head (tokens_of 1 text) ≡ Ok rest → begun text ≡ Opened Brief rest
unfolding begun
begun_first text rest e = ap (λ a. begun_by a (after_second_head (board_tokens_of 1 text))) e

begun_second : (text : List ℕ) (rest : Tokens) (c : PlanError) → after_head (tokens_of 1 text) ≡ Err c → after_second_head (board_tokens_of 1 text) ≡ Some rest → begun text ≡ Opened Board rest
unfolding begun
begun_second text rest c e f = ap (λ a. begun_by a (after_second_head (board_tokens_of 1 text))) e ∙ ap (begun_by (Err c)) f

begun_none : (text : List ℕ) (c : PlanError) → after_head (tokens_of 1 text) ≡ Err c → after_second_head (board_tokens_of 1 text) ≡ None → begun text ≡ Err c
unfolding begun
begun_none text c e f = ap (λ a. begun_by a (after_second_head (board_tokens_of 1 text))) e ∙ ap (begun_by (Err c)) f

pub opened_none : (text : List ℕ) (c : PlanError) → after_head (tokens_of 1 text) ≡ Err c → after_second_head (board_tokens_of 1 text) ≡ None → opened text ≡ Err c
unfolding opened
opened_none text c e f = ap past_files (begun_none text c e f)

-- ---- the same words

-- a head that is refused is refused in the other text too
refused_too : (from other : Tokens) → bare from ≡ bare other → (c : PlanError) → after_head from ≡ Err c → (d : PlanError) × (after_head other ≡ Err d)
refused_too from other same c e = by (after_head other) refl
  where
    by : (a : Result Tokens PlanError) → after_head other ≡ a → (d : PlanError) × (after_head other ≡ Err d)
    by (Ok y) h =
        let f = front_over other from y (keyword keywords.Brief) (word (codes "1")) (first_front other y h) (sym same) in
        let no = sym (front_first from f.0 f.1) ∙ e in
        absurd cc
    by (Err d) h = (d, h)

same_begun : (text other : List ℕ) (l : Letters) (rest : Tokens) → SameWords text other → begun text ≡ Opened l rest → (there : Tokens) × (begun other ≡ Opened l there) × (bare rest ≡ bare there)
same_begun text other l rest same is = by l rest (opens text l rest is)
  where
    by : (l : Letters) (rest : Tokens) → Opens text l rest → (there : Tokens) × (begun other ≡ Opened l there) × (bare rest ≡ bare there)
    by _ rest (opens_first h) =
        let f = front_over (tokens_of 1 text) (tokens_of 1 other) rest (keyword keywords.Brief) (word (codes "1")) (first_front (tokens_of 1 text) rest h) (bare_first text other same) in
        (f.0, begun_first other f.0 (front_first (tokens_of 1 other) f.0 f.1), f.2)
    by _ rest (opens_second {e = c} h g) =
        let d = refused_too (tokens_of 1 text) (tokens_of 1 other) (bare_first text other same) c h in
        let f = front_over (board_tokens_of 1 text) (board_tokens_of 1 other) rest (keyword keywords.Brief) (word (codes "2")) (second_front (board_tokens_of 1 text) rest g) (bare_second text other same) in
        (f.0, begun_second other f.0 d.0 d.1 (front_second (board_tokens_of 1 other) f.0 f.1), f.2)

-- ---- the files that a head names

bare_twice : (t : Tokens) → bare (bare t) ≡ bare t
bare_twice (next token line rest) = ap (next token 0) (bare_twice rest)
bare_twice (last ending line) = refl

-- what is left, without lines
abbrev passed : Result Tokens PlanError → Option Tokens
passed (Ok rest) = Some (bare rest)
passed (Err e) = None

if_passed : (b : Bool) (one two : Result Tokens PlanError) (c d : PlanError) → passed one ≡ passed two → passed (if b then one else Err c) ≡ passed (if b then two else Err d)
if_passed true one two c d h = h
if_passed false one two c d h = refl

mutual
  files_bare : (t : Tokens) → passed (after_files t) ≡ passed (after_files (bare t))
  files_bare (next (keyword keywords.With) line rest) = with_bare rest
  files_bare t = ap (λ (x : Tokens). Some x) (sym (bare_twice t))

  with_bare : (t : Tokens) → passed (after_with t) ≡ passed (after_with (bare t))
  with_bare (next (quoted bytes) line rest) = if_passed (is_file_name bytes) (after_string rest) (after_string (bare rest)) (errors.Unexpected line) (errors.Unexpected 0) (string_bare rest)
  with_bare t = refl

  string_bare : (t : Tokens) → passed (after_string t) ≡ passed (after_string (bare t))
  string_bare (next (sign signs.Semicolon) line rest) = files_bare rest
  string_bare t = refl

files_same : (from other rest : Tokens) → bare from ≡ bare other → after_files from ≡ Ok rest → (there : Tokens) × (after_files other ≡ Ok there) × (bare rest ≡ bare there)
files_same from other rest same e = by (after_files other) refl
  where
    both : passed (after_files from) ≡ passed (after_files other)
    both = files_bare from ∙ ap (λ t. passed (after_files t)) same ∙ sym (files_bare other)

    by : (r : Result Tokens PlanError) → after_files other ≡ r → (there : Tokens) × (after_files other ≡ Ok there) × (bare rest ≡ bare there)
    by (Ok there) f =
        let all : Some (bare rest) ≡ Some (bare there) = sym (ap passed e) ∙ both ∙ ap passed f in
        (there, f, cc)
    by (Err d) f =
        let none : Some (bare rest) ≡ None = sym (ap passed e) ∙ both ∙ ap passed f in
        absurd cc

-- the text ends as what follows these files
abbrev EndsAs : Result Tokens PlanError → Option PlanError → Type 0
EndsAs (Ok rest) end = end ≡ end_of rest
EndsAs (Err e) end = Unit {0}

if_ends : (b : Bool) (one : Result Tokens PlanError) (c : PlanError) (end : Option PlanError) → EndsAs one end → EndsAs (if b then one else Err c) end
if_ends true one c end h = h
if_ends false one c end h = tt

mutual
  files_end : (t : Tokens) → EndsAs (after_files t) (end_of t)
  files_end (next (keyword keywords.With) line rest) = with_end rest
  files_end t = refl

  with_end : (t : Tokens) → EndsAs (after_with t) (end_of t)
  with_end (next (quoted bytes) line rest) = if_ends (is_file_name bytes) (after_string rest) (errors.Unexpected line) (end_of rest) (string_end rest)
  with_end t = tt

  string_end : (t : Tokens) → EndsAs (after_string t) (end_of t)
  string_end (next (sign signs.Semicolon) line rest) = files_end rest
  string_end t = tt

files_end_as : (t rest : Tokens) → after_files t ≡ Ok rest → end_of t ≡ end_of rest
files_end_as t rest e = subst (λ r. EndsAs r (end_of t)) e (files_end t)

-- the tokens after a head, by those after its version
abbrev Passes : Letters → Tokens → Tokens → Type 0
Passes Board from rest = after_files from ≡ Ok rest
Passes l from rest = from ≡ rest

opened_is : (text : List ℕ) (l : Letters) (rest : Tokens) → opened text ≡ Opened l rest → (from : Tokens) × (begun text ≡ Opened l from) × Passes l from rest
unfolding opened
opened_is text l rest is = by (begun text) refl is
  where
    by_board : (from : Tokens) (r : Result Tokens PlanError) → begun text ≡ Opened Board from → after_files from ≡ r → with_board r ≡ Opened l rest → (from : Tokens) × (begun text ≡ Opened l from) × Passes l from rest
    by_board from (Ok after) e f h =
        let same = pair_is (Board, after) (l, rest) h in
        subst (λ (m : Letters). (from : Tokens) × (begun text ≡ Opened m from) × Passes m from rest) same.0 (from, e, f ∙ ap (λ (t : Tokens). Ok t) same.1)
    by_board from (Err c) e f h = absurd cc

    by_letters : (m : Letters) (from : Tokens) → begun text ≡ Opened m from → past_files (Opened m from) ≡ Opened l rest → (from : Tokens) × (begun text ≡ Opened l from) × Passes l from rest
    by_letters Board from e h = by_board from (after_files from) e refl h
    by_letters m from e h =
        let same = pair_is (m, from) (l, rest) h in
        subst (λ (n : Letters). (from : Tokens) × (begun text ≡ Opened n from) × Passes n from rest) same.0 (from, e, same.1)

    by : (b : Result (Letters × Tokens) PlanError) → begun text ≡ b → past_files b ≡ Opened l rest → (from : Tokens) × (begun text ≡ Opened l from) × Passes l from rest
    by (Ok pair) e h = by_letters pair.0 pair.1 e h
    by (Err c) e h = absurd cc

is_opened : (text : List ℕ) (l : Letters) (from rest : Tokens) → begun text ≡ Opened l from → Passes l from rest → opened text ≡ Opened l rest
unfolding opened
is_opened text Board from rest e p = ap past_files e ∙ ap with_board p
is_opened text l from rest e p = ap past_files e ∙ ap (λ (t : Tokens). Opened l t) p

pub same_opened : (text other : List ℕ) (l : Letters) (rest : Tokens) → SameWords text other → opened text ≡ Opened l rest → (there : Tokens) × (opened other ≡ Opened l there) × (bare rest ≡ bare there)
same_opened text other l rest same is =
    let o = opened_is text l rest is in
    let b = same_begun text other l o.0 same o.1 in
    by l o.0 b.0 b.2 b.1 o.2
  where
    by : (m : Letters) (from there : Tokens) → bare from ≡ bare there → begun other ≡ Opened m there → Passes m from rest → (there : Tokens) × (opened other ≡ Opened m there) × (bare rest ≡ bare there)
    by Board from there alike e p = let f = files_same from there rest alike p in (f.0, is_opened other Board there f.0 e f.1, f.2)
    by m from there alike e p = (there, is_opened other m there there e refl, sym (ap bare p) ∙ alike)

-- ---- words and keywords

pub no_keyword : (bytes : List ℕ) → keyword_of bytes ≡ None → token_of_word bytes ≡ word bytes
unfolding token_of_word
no_keyword bytes e = rw e refl

pub some_keyword : (bytes : List ℕ) (k : Keyword) → keyword_of bytes ≡ Some k → token_of_word bytes ≡ keyword k
unfolding token_of_word
some_keyword bytes k e = rw e refl

-- a word that is told as a word
pub word_is : (bytes others : List ℕ) → token_of_word bytes ≡ word others → bytes ≡ others
word_is bytes others h = grind (arith, common_steps, no_keyword, some_keyword)

pub brief_word : (bytes : List ℕ) → token_of_word bytes ≡ keyword keywords.Brief → bytes ≡ codes "brief"
unfolding token_of_word
brief_word bytes h = same-bytes_eq bytes (codes "brief") (grind arith)

board_string : (bytes s : List ℕ) → string_of bytes ≡ Some s → board_token_of_word bytes ≡ quoted s
unfolding board_token_of_word
board_string bytes s e = rw e refl

board_span : (bytes : List ℕ) (ends : ℕ × ℕ) → string_of bytes ≡ None → span_of bytes ≡ Some ends → board_token_of_word bytes ≡ span ends.0 ends.1
unfolding board_token_of_word
board_span bytes ends e n = rw (e, n) refl

board_keyword : (bytes : List ℕ) (k : Keyword) → string_of bytes ≡ None → span_of bytes ≡ None → board_keyword_of bytes ≡ Some k → board_token_of_word bytes ≡ keyword k
unfolding board_token_of_word
board_keyword bytes k e n f = rw (e, n, f) refl

board_word : (bytes : List ℕ) → string_of bytes ≡ None → span_of bytes ≡ None → board_keyword_of bytes ≡ None → board_token_of_word bytes ≡ word bytes
unfolding board_token_of_word
board_word bytes e n f = rw (e, n, f) refl

board_word_is : (bytes others : List ℕ) → board_token_of_word bytes ≡ word others → bytes ≡ others
board_word_is bytes others h = by_string (string_of bytes) refl (span_of bytes) refl (board_keyword_of bytes) refl
  where
    by_string : (s : Option (List ℕ)) → string_of bytes ≡ s → (o : Option (ℕ × ℕ)) → span_of bytes ≡ o → (k : Option Keyword) → board_keyword_of bytes ≡ k → bytes ≡ others
    by_string (Some s) e o n k f = let token = sym (board_string bytes s e) ∙ h in absurd cc
    by_string None e (Some ends) n k f = let token = sym (board_span bytes ends e n) ∙ h in absurd cc
    by_string None e None n (Some k) f = let token = sym (board_keyword bytes k e n f) ∙ h in absurd cc
    by_string None e None n None f = let token = sym (board_word bytes e n f) ∙ h in cc

further_no_brief : (bytes : List ℕ) → further_keyword_of bytes ≡ Some keywords.Brief → ⊥
further_no_brief bytes h = grind arith

board_brief_word : (bytes : List ℕ) → board_token_of_word bytes ≡ keyword keywords.Brief → bytes ≡ codes "brief"
board_brief_word bytes h = by_string (string_of bytes) refl (span_of bytes) refl (board_keyword_of bytes) refl
  where
    first : (k : Option Keyword) → keyword_of bytes ≡ k → or_keyword k (further_keyword_of bytes) ≡ Some keywords.Brief → bytes ≡ codes "brief"
    first (Some k) e g =
        let same : k ≡ keywords.Brief = cc in
        brief_word bytes (some_keyword bytes keywords.Brief (e ∙ ap (λ (m : Keyword). Some m) same))
    first None e g = absurd (further_no_brief bytes g)

    by_string : (s : Option (List ℕ)) → string_of bytes ≡ s → (o : Option (ℕ × ℕ)) → span_of bytes ≡ o → (k : Option Keyword) → board_keyword_of bytes ≡ k → bytes ≡ codes "brief"
    by_string (Some s) e o n k f = let token = sym (board_string bytes s e) ∙ h in absurd cc
    by_string None e (Some ends) n k f = let token = sym (board_span bytes ends e n) ∙ h in absurd cc
    by_string None e None n (Some k) f =
        let token : keyword k ≡ keyword keywords.Brief = sym (board_keyword bytes k e n f) ∙ h in
        let same : k ≡ keywords.Brief = cc in
        first (keyword_of bytes) refl (f ∙ ap (λ (m : Keyword). Some m) same)
    by_string None e None n None f = let token = sym (board_word bytes e n f) ∙ h in absurd cc

-- ---- letters

-- the first two words of a brief
record LexemeFront (all : Lexemes) (version : List ℕ) : Type 0 where
  line : ℕ
  at : ℕ
  more : Lexemes
  is : all ≡ lexemes.next (lexemes.word (codes "brief")) line (lexemes.next (lexemes.word version) at more)

first_begins : (all : Lexemes) (version : List ℕ) → LexemeFront all version → FirstIs all
first_begins all version f = (codes "rief", f.line, lexemes.next (lexemes.word version) f.at f.more, f.is)

-- where each word is told so
module _ (said : Lexeme → Token) (version : List ℕ)
    (no_sign : (byte : ℕ) (bytes : List ℕ) → said (lexemes.sign byte) ≡ word bytes → ⊥)
    (no_brief : (byte : ℕ) → said (lexemes.sign byte) ≡ keyword keywords.Brief → ⊥)
    (one_word : (bytes others : List ℕ) → said (lexemes.word bytes) ≡ word others → bytes ≡ others)
    (one_brief : (bytes : List ℕ) → said (lexemes.word bytes) ≡ keyword keywords.Brief → bytes ≡ codes "brief") where
  second_is : (all : Lexemes) (at : ℕ) (rest : Tokens) → tokens_by said all ≡ next (word version) at rest → (here : ℕ) × (more : Lexemes) × (all ≡ lexemes.next (lexemes.word version) here more)
  second_is (lexemes.next (lexemes.word b) here more) at rest h =
      let token : said (lexemes.word b) ≡ word version = cc in
      (here, more, ap (λ (n : List ℕ). lexemes.next (lexemes.word n) here more) (one_word b version token))
  second_is (lexemes.next (lexemes.sign c) here more) at rest h = absurd (no_sign c version cc)
  second_is (lexemes.last ending here) at rest h = absurd cc

  front_is : (all : Lexemes) (rest : Tokens) → Front (tokens_by said all) (keyword keywords.Brief) (word version) rest → LexemeFront all version
  front_is (lexemes.next (lexemes.word b) here more) rest f =
      let is = f.is in
      let token : said (lexemes.word b) ≡ keyword keywords.Brief = cc in
      let tail : tokens_by said more ≡ next (word version) f.at rest = cc in
      let s = second_is more f.at rest tail in
      record { line = here; at = s.0; more = s.1; is = ap (λ (n : List ℕ). lexemes.next (lexemes.word n) here more) (one_brief b token) ∙ ap (lexemes.next (lexemes.word (codes "brief")) here) s.2 }
  front_is (lexemes.next (lexemes.sign c) here more) rest f = absurd (no_brief c (let is = f.is in cc))
  front_is (lexemes.last ending here) rest f = absurd (let is = f.is in cc)

abbrev some_letters : Letters → Option (Result Letters PlanError)
some_letters l = Some (Ok l)

-- by the letters of plans the first word of a text that begins so is not `plan`
plan_side : (l : Letters) (all : Lexemes) → FirstOr all → head_or (some_letters l) all ≡ Ok l
plan_side l all (inl first) = ap (head_or (some_letters l)) first.3
plan_side l all (inr foreign_first) = ap (head_or (some_letters l)) foreign_first.1

no_sign_word : (byte : ℕ) (bytes : List ℕ) → told (lexemes.sign byte) ≡ word bytes → ⊥
no_sign_word byte bytes h = cc

no_sign_brief : (byte : ℕ) → told (lexemes.sign byte) ≡ keyword keywords.Brief → ⊥
no_sign_brief byte h = cc

-- a head of the first version is none that has no letters
no_letters : (all : Lexemes) (c : PlanError) → after_head (tokens_from all) ≡ Err c → (second : Bool) → second ≡ true → or_board (brief_head all) second ≡ some_letters Board
unfolding token_of_word
no_letters all c e second is = by (brief_head all) refl
  where
    second_ok : (rest : Lexemes) (l : Letters) → brief_letters rest ≡ some_letters l → (line : ℕ) → (after : Tokens) × (after_head (next (keyword keywords.Brief) line (tokens_from rest)) ≡ Ok after)
    second_ok (lexemes.next (lexemes.word b) at more) l h line = by_version (bytes_eq b (codes "1")) refl h
      where
        by_version : (t : Bool) → bytes_eq b (codes "1") ≡ t → (if t then some_letters Brief else None) ≡ some_letters l → (after : Tokens) × (after_head (next (keyword keywords.Brief) line (tokens_from (lexemes.next (lexemes.word b) at more))) ≡ Ok after)
        by_version true q g = (tokens_from more, ap (λ (n : List ℕ). after_head (next (keyword keywords.Brief) line (tokens_from (lexemes.next (lexemes.word n) at more)))) (same-bytes_eq b (codes "1") q))
        by_version false q g = absurd cc
    second_ok (lexemes.next (lexemes.sign c) at more) l h line = absurd cc
    second_ok (lexemes.last text_end at) l h line = absurd cc
    second_ok (lexemes.last stray at) l h line = absurd cc
    second_ok (lexemes.last foreign at) l h line = absurd cc

    head_ok : (all : Lexemes) (l : Letters) → brief_head all ≡ some_letters l → (after : Tokens) × (after_head (tokens_from all) ≡ Ok after)
    head_ok (lexemes.next (lexemes.word b) line rest) l h = by_word (bytes_eq b (codes "brief")) refl h
      where
        by_word : (t : Bool) → bytes_eq b (codes "brief") ≡ t → (if t then brief_letters rest else None) ≡ some_letters l → (after : Tokens) × (after_head (tokens_from (lexemes.next (lexemes.word b) line rest)) ≡ Ok after)
        by_word true q g = let s = second_ok rest l g line in (s.0, ap (λ (n : List ℕ). after_head (tokens_from (lexemes.next (lexemes.word n) line rest))) (same-bytes_eq b (codes "brief") q) ∙ s.1)
        by_word false q g = absurd cc
    head_ok (lexemes.next (lexemes.sign c) line rest) l h = absurd cc
    head_ok (lexemes.last ending line) l h = absurd cc

    by : (o : Option (Result Letters PlanError)) → brief_head all ≡ o → or_board o second ≡ some_letters Board
    by (Some (Ok l)) h = let s = head_ok all l h in let no = sym s.1 ∙ e in absurd cc
    by (Some (Err d)) h = rw is refl
    by None h = rw is refl

letters_by : (text : List ℕ) (l : Letters) → or_board (brief_head (lexemes_of briefs 1 text)) (is_board (lexemes_of boards 1 text)) ≡ some_letters l → FirstOr (lexemes_of no_dots 1 text) → letters_in text ≡ Ok l
unfolding letters_in
letters_by text l e first = ap (λ o. head_or o (lexemes_of no_dots 1 text)) e ∙ plan_side l (lexemes_of no_dots 1 text) first

-- where the text is opened, the layout has the same letters, and the text ends as what follows its head
begun_letters : (text : List ℕ) (l : Letters) (rest : Tokens) → begun text ≡ Opened l rest → (letters_in text ≡ Ok l) × (stranger (lexemes_of (alphabet_of l) 1 text) ≡ end_of rest)
unfolding tokens_of board_tokens_of
begun_letters text l rest is = by l rest (opens text l rest is)
  where
    by : (l : Letters) (rest : Tokens) → Opens text l rest → (letters_in text ≡ Ok l) × (stranger (lexemes_of (alphabet_of l) 1 text) ≡ end_of rest)
    by _ rest (opens_first h) =
        let f = first_front (tokens_of 1 text) rest h in
        let front = front_is told (codes "1") no_sign_word no_sign_brief word_is brief_word (lexemes_of briefs 1 text) rest f in
        let head = ap (λ all. or_board (brief_head all) (is_board (lexemes_of boards 1 text))) front.is in
        let first = first_same text (first_begins (lexemes_of briefs 1 text) (codes "1") front) in
        (letters_by text Brief head (inl first), sym (ends_alike told (lexemes_of briefs 1 text)) ∙ front_ends (tokens_of 1 text) rest _ _ f)
    by _ rest (opens_second {e = c} h g) =
        let f = second_front (board_tokens_of 1 text) rest g in
        let front = front_is board_told (codes "2") no_sign_word no_sign_brief board_word_is board_brief_word (lexemes_of boards 1 text) rest f in
        let head = no_letters (lexemes_of briefs 1 text) c h (is_board (lexemes_of boards 1 text)) (ap is_board front.is) in
        let first = board_first text (first_begins (lexemes_of boards 1 text) (codes "2") front) in
        (letters_by text Board head first, sym (ends_alike board_told (lexemes_of boards 1 text)) ∙ front_ends (board_tokens_of 1 text) rest _ _ f)

pub opened_letters : (text : List ℕ) (l : Letters) (rest : Tokens) → opened text ≡ Opened l rest → (letters_in text ≡ Ok l) × (stranger (lexemes_of (alphabet_of l) 1 text) ≡ end_of rest)
opened_letters text l rest is =
    let o = opened_is text l rest is in
    let b = begun_letters text l o.0 o.1 in
    (b.0, b.1 ∙ by l o.0 o.2)
  where
    by : (m : Letters) (from : Tokens) → Passes m from rest → end_of from ≡ end_of rest
    by Board from p = files_end_as from rest p
    by m from p = ap end_of p

-- ---- heads that have no letters

board_begins : (all : Lexemes) → is_board all ≡ true → FirstIs all
board_begins (lexemes.next (lexemes.word b) line rest) h = by (bytes_eq b (codes "brief")) refl h
  where
    by : (t : Bool) → bytes_eq b (codes "brief") ≡ t → (if t then is_second_version rest else false) ≡ true → FirstIs (lexemes.next (lexemes.word b) line rest)
    by true is g = (codes "rief", line, rest, ap (λ (n : List ℕ). lexemes.next (lexemes.word n) line rest) (same-bytes_eq b (codes "brief") is))
    by false is g = absurd (true≢false (sym g))
board_begins (lexemes.next (lexemes.sign c) line rest) h = absurd (true≢false (sym h))
board_begins (lexemes.last ending line) h = absurd (true≢false (sym h))

-- a text of the second version has letters
pub board_lettered : (text : List ℕ) → is_board (lexemes_of boards 1 text) ≡ true → (l : Letters) × (letters_in text ≡ Ok l)
board_lettered text is = by (brief_head (lexemes_of briefs 1 text)) refl
  where
    first : FirstOr (lexemes_of no_dots 1 text)
    first = board_first text (board_begins (lexemes_of boards 1 text) is)

    by : (o : Option (Result Letters PlanError)) → brief_head (lexemes_of briefs 1 text) ≡ o → (l : Letters) × (letters_in text ≡ Ok l)
    by (Some (Ok l)) e = (l, letters_by text l (ap (λ o. or_board o (is_board (lexemes_of boards 1 text))) e) first)
    by (Some (Err c)) e = (Board, letters_by text Board (ap (λ o. or_board o (is_board (lexemes_of boards 1 text))) e ∙ ap (or_board (Some (Err c))) is) first)
    by None e = (Board, letters_by text Board (ap (λ o. or_board o (is_board (lexemes_of boards 1 text))) e ∙ ap (or_board None) is) first)

-- what is none of the second version has the letters of the first alone
pub no_board : (o : Option (Result Letters PlanError)) → or_board o false ≡ o
no_board (Some (Ok l)) = refl
no_board (Some (Err c)) = refl
no_board None = refl

pub second_none : (text : List ℕ) → is_board (lexemes_of boards 1 text) ≡ false → after_second_head (board_tokens_of 1 text) ≡ None
unfolding board_tokens_of
second_none text none = by (after_second_head (board_tokens_of 1 text)) refl
  where
    by : (o : Option Tokens) → after_second_head (board_tokens_of 1 text) ≡ o → o ≡ None
    by (Some rest) e =
        let front = front_is board_told (codes "2") no_sign_word no_sign_brief board_word_is board_brief_word (lexemes_of boards 1 text) rest (second_front (board_tokens_of 1 text) rest e) in
        absurd (true≢false (sym (ap is_board front.is) ∙ none))
    by None e = refl
