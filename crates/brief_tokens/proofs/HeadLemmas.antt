-- The files that a head names, one after another, and the tokens after all of them.
use Rattle.std.proofs.Common.{◌≡◌, ℕ, suc, ◌+◌, ◌<◌, ◌≤◌, Bool, true, false, List, ap, ◌∙◌, refl, arith}
use Rattle.std.specs.Prelude.{Result, Ok, Err, if◌then◌else◌}
use Rattle.plan_text.specs.declared.errors.PlanError.{PlanError}
use Rattle.plan_text.specs.declared.errors.PlanError.TheVariants.{Unexpected}
use Rattle.brief_tokens.specs.declared.symbols.Keyword.TheVariants as keywords
use Rattle.brief_tokens.specs.declared.symbols.Sign.TheVariants.{Semicolon}
use Rattle.brief_tokens.specs.Heads.{Naming, names, no_more, wrong, is_file_name, string_first, next_file, after_file, after_files, after_with, after_string}
use Rattle.brief_tokens.specs.Reading.{token_count}
use Rattle.brief_tokens.specs.Tokens.{keyword, sign, quoted, Tokens, next, last}

abbrev by_naming : Naming → Result Tokens PlanError
by_naming (names file line rest) = after_string rest
by_naming (no_more rest) = Ok rest
by_naming (wrong e) = Err e

if_named : (b : Bool) (bytes : List ℕ) (line : ℕ) (rest : Tokens) →
    (if b then after_string rest else Err (Unexpected line)) ≡ by_naming (if b then names bytes line rest else wrong (Unexpected line))
if_named true bytes line rest = refl
if_named false bytes line rest = refl

at_string : (t : Tokens) → after_with t ≡ by_naming (string_first t)
at_string (next (quoted bytes) line rest) = if_named (is_file_name bytes) bytes line rest
at_string t = refl

at_file : (t : Tokens) → after_files t ≡ by_naming (next_file t)
at_file (next (keyword keywords.With) line rest) = at_string rest
at_file t = refl

abbrev by_end : Result Tokens PlanError → Result Tokens PlanError
by_end (Ok more) = after_files more
by_end (Err e) = Err e

at_end : (t : Tokens) → after_string t ≡ by_end (after_file t)
at_end (next (sign Semicolon) line rest) = refl
at_end t = refl

-- no further file comes
pub none_left : (t rest : Tokens) → next_file t ≡ no_more rest → after_files t ≡ Ok rest
none_left t rest e = at_file t ∙ ap by_naming e

-- what comes is refused
pub wrong_left : (t : Tokens) (c : PlanError) → next_file t ≡ wrong c → after_files t ≡ Err c
wrong_left t c e = at_file t ∙ ap by_naming e

-- a file comes, and its end
pub one_past : (t rest more : Tokens) (file : List ℕ) (line : ℕ) → next_file t ≡ names file line rest → after_file rest ≡ Ok more → after_files t ≡ after_files more
one_past t rest more file line e f = at_file t ∙ ap by_naming e ∙ at_end rest ∙ ap by_end f

-- a file comes, and its end is refused
pub unended : (t rest : Tokens) (file : List ℕ) (line : ℕ) (c : PlanError) → next_file t ≡ names file line rest → after_file rest ≡ Err c → after_files t ≡ Err c
unended t rest file line c e f = at_file t ∙ ap by_naming e ∙ at_end rest ∙ ap by_end f

-- ---- that these are fewer tokens

abbrev count_in : Naming → ℕ
count_in (names file line rest) = suc (token_count rest)
count_in _ = 0

if_counted : (b : Bool) (bytes : List ℕ) (line : ℕ) (rest : Tokens) → count_in (if b then names bytes line rest else wrong (Unexpected line)) ≤ suc (token_count rest)
if_counted true bytes line rest = omega arith
if_counted false bytes line rest = omega arith

count_string : (t : Tokens) → count_in (string_first t) ≤ token_count t
count_string (next (quoted bytes) line rest) = if_counted (is_file_name bytes) bytes line rest
count_string t = omega arith

count_file : (t : Tokens) → count_in (next_file t) ≤ token_count t
count_file (next (keyword keywords.With) line rest) = let n = count_string rest in omega (arith, n)
count_file t = omega arith

after_named : (t rest : Tokens) (file : List ℕ) (line : ℕ) → next_file t ≡ names file line rest → suc (token_count rest) ≤ token_count t
after_named t rest file line e = let n = count_file t in let same = ap count_in e in omega (arith, n, same)

abbrev count_after : Result Tokens PlanError → ℕ
count_after (Ok more) = token_count more
count_after (Err e) = 0

count_end : (t : Tokens) → count_after (after_file t) ≤ token_count t
count_end (next (sign Semicolon) line rest) = omega arith
count_end t = omega arith

pub fewer : (t rest more : Tokens) (file : List ℕ) (line : ℕ) → next_file t ≡ names file line rest → after_file rest ≡ Ok more → token_count more < token_count t
fewer t rest more file line e f =
    let n = after_named t rest file line e in
    let m = count_end rest in
    let same = ap count_after f in
    omega (arith, n, m, same)
