-- A text has no more tokens than bytes.
use Rattle.std.proofs.Common.{◌≡◌, ℕ, suc, ◌+◌, ◌≤◌, ◌<◌, ◌==◌, Bool, true, false, List, [], ◌∷◌, Option, Some, None, length, refl, ap, arith}
use Rattle.std.specs.Prelude.{codes, Result, Ok, Err, unwrap_or, if◌then◌else◌}
use Rattle.std.specs.Str.{bytes_eq}
use Rattle.lexer.specs.declared.lexemes.Letters.{Letters}
use Rattle.lexer.specs.declared.lexemes.Letters.TheVariants.{Brief, Board}
use Rattle.lexer.specs.Lexemes.{Alphabet, Lexeme, Lexemes, next, last, word, briefs, boards, letters, later, Class, line_feed, blank, number_sign, sign_byte, word_part, quote, foreign_byte, stray_byte, is_string_part, has_any_comment, class_of, put_before, begins_with_part, raw_lexemes, in_comment, in_string, lexemes_of}
use Rattle.lexer.proofs.LexemeLemmas.{lexemes_at, comment_at, foreign_at, string_by, part_at}
use Rattle.plan_text.specs.declared.errors.PlanError.{PlanError}
use Rattle.plan_text.specs.declared.errors.PlanError.TheVariants.{Version, Unexpected}
use Rattle.plan_text.proofs.TakesLemmas.{ok_is}
use Rattle.brief_tokens.specs.declared.symbols.Keyword.TheVariants as keywords
use Rattle.brief_tokens.specs.declared.symbols.Sign.TheVariants as signs
use Rattle.brief_tokens.specs.Heads.{after_version, after_head, after_second_version, after_second_head, begun_by, begun, past_files, with_board, is_file_name, after_files, after_with, after_string, opened}
use Rattle.brief_tokens.specs.Tokens.{Token, keyword, told, board_told, Tokens, tokens_by, tokens_of, board_tokens_of}
use Rattle.brief_tokens.specs.Tokens as tokens
use Rattle.brief_text.proofs.TakesLemmas.{test_then}
use Rattle.brief_text.proofs.ValueLemmas.{size}

abbrev count : Lexemes → ℕ
count (next lexeme line rest) = suc (count rest)
count (last ending line) = 0

put_small : (byte : ℕ) (from : Lexemes) → count (put_before byte from) ≡ count from
put_small byte (next (word bytes) line rest) = refl
put_small byte from = refl

abbrev Small : List ℕ → Type 0
Small bytes = (a : Alphabet) (line : ℕ) →
    (count (raw_lexemes a line bytes) ≤ length bytes) × (count (in_comment a line bytes) ≤ length bytes) × (count (in_string a line bytes) ≤ length bytes)

module _ (a : Alphabet) (line byte : ℕ) (bytes : List ℕ) (below : Small bytes) where
  by_part : (t : Bool) → count (part_at t a line byte bytes) ≤ suc (length bytes)
  by_part true = let same = put_small byte (raw_lexemes a line bytes) in let h = (below a line).0 in omega (arith, same, h)
  by_part false = let h = (below (later a) line).0 in omega (arith, h)

  outside : (k : Class) → count (lexemes_at k a line byte bytes) ≤ suc (length bytes)
  outside line_feed = let h = (below a (line + 1)).0 in omega (arith, h)
  outside blank = let h = (below a line).0 in omega (arith, h)
  outside number_sign = let h = (below a line).1 in omega (arith, h)
  outside sign_byte = let h = (below (later a) line).0 in omega (arith, h)
  outside word_part = by_part (begins_with_part (letters a) bytes)
  outside quote = let same = put_small byte (in_string a line bytes) in let h = (below a line).2 in omega (arith, same, h)
  outside foreign_byte = omega arith
  outside stray_byte = omega arith

  foreign_small : (any : Bool) → count (foreign_at any a line bytes) ≤ suc (length bytes)
  foreign_small true = let h = (below a line).1 in omega (arith, h)
  foreign_small false = omega arith

  inside : (k : Class) → count (comment_at k a line bytes) ≤ suc (length bytes)
  inside line_feed = let h = (below a (line + 1)).0 in omega (arith, h)
  inside foreign_byte = foreign_small (has_any_comment (letters a))
  inside _ = let h = (below a line).1 in omega (arith, h)

  in_quotes : (closes inner : Bool) → count (string_by closes inner a line byte bytes) ≤ suc (length bytes)
  in_quotes true inner = let h = (below (later a) line).0 in omega (arith, h)
  in_quotes false true = let same = put_small byte (in_string a line bytes) in let h = (below a line).2 in omega (arith, same, h)
  in_quotes false false = omega arith

raw_small : (bytes : List ℕ) → Small bytes
raw_small [] a line = (omega arith, omega arith, omega arith)
raw_small (byte ∷ bytes) a line = (
  outside a line byte bytes (raw_small bytes) (class_of (letters a) byte),
  inside a line byte bytes (raw_small bytes) (class_of (letters a) byte),
  in_quotes a line byte bytes (raw_small bytes) (byte == 34) (is_string_part byte),
)

told_small : (said : Lexeme → Token) (from : Lexemes) → size (tokens_by said from) ≡ count from
told_small said (next lexeme line rest) = ap suc (told_small said rest)
told_small said (last ending line) = refl

pub tokens_small : (line : ℕ) (bytes : List ℕ) → size (tokens_of line bytes) ≤ length bytes
unfolding tokens_of lexemes_of
tokens_small line bytes = let same = told_small told (raw_lexemes briefs line bytes) in let h = (raw_small bytes briefs line).0 in omega (arith, same, h)

board_small : (line : ℕ) (bytes : List ℕ) → size (board_tokens_of line bytes) ≤ length bytes
unfolding board_tokens_of lexemes_of
board_small line bytes = let same = told_small board_told (raw_lexemes boards line bytes) in let h = (raw_small bytes boards line).0 in omega (arith, same, h)

-- the two tokens of a head are not left
after_one : (from rest : Tokens) → after_version from ≡ Ok rest → size rest < size from
after_one (tokens.next (tokens.word bytes) line more) rest e = let t = test_then (bytes_eq bytes (codes "1")) (Ok more) rest (Version line) e in let same = ap size (ok_is more rest t.1) in omega (arith, same)
after_one (tokens.next token line more) rest e = absurd cc
after_one (tokens.last ending line) rest e = absurd cc

first_small : (from rest : Tokens) → after_head from ≡ Ok rest → size rest < size from
first_small (tokens.next (keyword keywords.Brief) line more) rest e = let h = after_one more rest e in omega (arith, h)
first_small (tokens.next token line more) rest e = absurd cc
first_small (tokens.last ending line) rest e = absurd cc

after_two : (from rest : Tokens) → after_second_version from ≡ Some rest → size rest < size from
after_two (tokens.next (tokens.word bytes) line more) rest e = by_test (bytes_eq bytes (codes "2")) e
  where
    by_test : (t : Bool) → (if t then Some more else None) ≡ Some rest → size rest < suc (size more)
    by_test true h = let same = ap (λ o. size (unwrap_or o more)) h in omega (arith, same)
    by_test false h = absurd cc
after_two (tokens.next token line more) rest e = absurd cc
after_two (tokens.last ending line) rest e = absurd cc

second_small : (from rest : Tokens) → after_second_head from ≡ Some rest → size rest < size from
second_small (tokens.next (keyword keywords.Brief) line more) rest e = let h = after_two more rest e in omega (arith, h)
second_small (tokens.next token line more) rest e = absurd cc
second_small (tokens.last ending line) rest e = absurd cc

begun_small : (text : List ℕ) (head : Letters × Tokens) → begun text ≡ Ok head → size head.1 < length text
unfolding begun
begun_small text head e = by_results (after_head (tokens_of 1 text)) (after_second_head (board_tokens_of 1 text)) refl refl e
  where
    by_results : (one : Result Tokens PlanError) (two : Option Tokens) → after_head (tokens_of 1 text) ≡ one → after_second_head (board_tokens_of 1 text) ≡ two → begun_by one two ≡ Ok head → size head.1 < length text
    by_results (Ok rest) two is also h =
        let all = tokens_small 1 text in let less = first_small (tokens_of 1 text) rest is in let same = ap (λ (x : Letters × Tokens). size x.1) (ok_is (Brief, rest) head h) in
        omega (arith, all, less, same)
    by_results (Err f) (Some rest) is also h =
        let all = board_small 1 text in let less = second_small (board_tokens_of 1 text) rest also in let same = ap (λ (x : Letters × Tokens). size x.1) (ok_is (Board, rest) head h) in
        omega (arith, all, less, same)
    by_results (Err f) None is also h = absurd cc

-- the files that a head names are not left either
mutual
  files_small : (from rest : Tokens) → after_files from ≡ Ok rest → size rest ≤ size from
  files_small (tokens.next (keyword keywords.With) line more) rest e = let h = with_small more rest e in omega (arith, h)
  files_small from rest e = let same = ap size (ok_is from rest e) in omega (arith, same)

  with_small : (from rest : Tokens) → after_with from ≡ Ok rest → size rest ≤ size from
  with_small (tokens.next (tokens.quoted bytes) line more) rest e =
      let t = test_then (is_file_name bytes) (after_string more) rest (Unexpected line) e in let h = string_small more rest t.1 in omega (arith, h)
  with_small (tokens.next token line more) rest e = absurd cc
  with_small (tokens.last ending line) rest e = absurd cc

  string_small : (from rest : Tokens) → after_string from ≡ Ok rest → size rest ≤ size from
  string_small (tokens.next (tokens.sign signs.Semicolon) line more) rest e = let h = files_small more rest e in omega (arith, h)
  string_small (tokens.next token line more) rest e = absurd cc
  string_small (tokens.last ending line) rest e = absurd cc

pub opened_small : (text : List ℕ) (head : Letters × Tokens) → opened text ≡ Ok head → size head.1 < length text
unfolding opened
opened_small text head e = by_begun (begun text) refl e
  where
    by_board : (from : Tokens) (after : Result Tokens PlanError) → size from < length text → after_files from ≡ after → with_board after ≡ Ok head → size head.1 < length text
    by_board from (Ok rest) less is h =
        let n = files_small from rest is in let same = ap (λ (x : Letters × Tokens). size x.1) (ok_is (Board, rest) head h) in
        omega (arith, less, n, same)
    by_board from (Err f) less is h = absurd cc

    by_letters : (l : Letters) (from : Tokens) → begun text ≡ Ok (l, from) → past_files (Ok (l, from)) ≡ Ok head → size head.1 < length text
    by_letters Board from is h = by_board from (after_files from) (begun_small text (Board, from) is) refl h
    by_letters l from is h =
        let less = begun_small text (l, from) is in let same = ap (λ (x : Letters × Tokens). size x.1) (ok_is (l, from) head h) in
        omega (arith, less, same)

    by_begun : (b : Result (Letters × Tokens) PlanError) → begun text ≡ b → past_files b ≡ Ok head → size head.1 < length text
    by_begun (Ok pair) is h = by_letters pair.0 pair.1 is h
    by_begun (Err f) is h = absurd cc
