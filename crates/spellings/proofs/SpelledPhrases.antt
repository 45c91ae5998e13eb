-- The tokens of a brief that is written are those of the grammar, from words up to messages.
use Rattle.std.proofs.Common.{◌≡◌, ◌<◌, ◌≤◌, ◌+◌, ℕ, Bool, true, false, List, [], ◌∷◌, ◌++◌, Option, Some, None, inl, inr, refl, ap, sym, ◌∙◌, subst, arith, codes, append_assoc}
use Rattle.std.specs.Prelude.{All, nat_lt, decimal, if◌then◌else◌}
use Rattle.std.proofs.lemmas.Bool.{and_parts}
use Rattle.std.proofs.lemmas.Bool.Decides.{nat_tests}
use Rattle.std.proofs.lemmas.List.Elements.{All-head, All-tail}
use Rattle.message_tree.specs.Trees.{FrameTree, write, read, PayloadTree, last, TailTree, stop, again}
use Rattle.message_tree.specs.Trees as trees
use Rattle.message_tree.specs.declared.bits.Pattern.{Pattern}
use Rattle.message_tree.specs.declared.counts.Count.{Count}
use Rattle.plan_core.specs.Names.{IsName}
use Rattle.spellings.specs.Canonical.{count_word}
use Rattle.lexer.specs.declared.lexemes.Letters.TheVariants.{Brief}
use Rattle.lexer.specs.Lexemes.{is_sign}
use Rattle.plan_text.proofs.WholeWords.{is_word, Apart}
use Rattle.spellings.proofs.CanonicalWords.{count_is_word, decimal_digits, digits_word, first_digit, name_is_word}
use Rattle.spellings.proofs.Saying.{Spelled, Said, Ended, said_none, said_word, said_then}
use Rattle.brief_tokens.specs.declared.symbols.Sign.TheVariants as signs
use Rattle.brief_text.specs.Grammar.{Phrase, one, ◌▸◌, SpellsName, SpellsNames, SpellsData, SpellsOften, SpellsCount, SpellsFrame, SpellsBytes, SpellsNext, SpellsRefused}
use Rattle.brief_tokens.specs.Names.{is_brief_word}
use Rattle.spellings.specs.Spelling.{data_word, run_word, run_words, frame_words, bytes_words, refused_words, next_words}
use Rattle.brief_tokens.specs.Tokens.{Token, word, sign, sign_of, next, tokens_of, token_of_word}
use Rattle.brief_text.specs.Trees.{spelled, times, BriefBytes, data_byte, no_more, go_on}
use Rattle.brief_text.specs.Words.{repetition_by, so_often, is_countable}
use Rattle.spellings.specs.Writing.{Run, goes_on, same_pattern, ended_by, with_byte, after_run, frame_brief, bytes_brief, tail_brief}
use Rattle.spellings.proofs.SpelledWords.{spelled_one, digit_token, name_token, data_said, target_said}
use Rattle.brief_tokens.proofs.TokenLemmas.{skips_space, skips_line_feed, sign_here}

abbrev pub Says : List (List ℕ) → Phrase → Type 0
Says = Said tokens_of Brief

space : (line : ℕ) (rest : List ℕ) → tokens_of line (32 ∷ rest) ≡ tokens_of line rest
space line rest = sym (skips_space line 32 (32 ∷ rest) rest refl (inr (inr refl)))

-- `;`, and the next line
pub end : Ended tokens_of [] (one (sign signs.Semicolon))
end = record {
  says = λ line rest. (
    line,
    space line (codes ";\n" ++ rest)
        ∙ sign_here line 59 (codes ";\n" ++ rest) (codes "\n" ++ rest) refl refl
        ∙ ap (next (sign signs.Semicolon) line) (sym (skips_line_feed line (codes "\n" ++ rest) rest refl)),
  );
}

pub said_as : {w : List ℕ} {P : Phrase} → Spelled tokens_of Brief w P → Says (w ∷ []) P
said_as s = said_word space s

said_one : (w : List ℕ) (t : Token) → is_word Brief w ≡ true → token_of_word w ≡ t → Says (w ∷ []) (one t)
said_one w t is e = said_as (spelled_one w t is e)

said_sign : (byte : ℕ) → is_sign Brief byte ≡ true → Says ((byte ∷ []) ∷ []) (one (sign (sign_of byte)))
said_sign byte is = record { says = λ line rest apart. (line, space line (byte ∷ rest) ∙ sign_here line byte (byte ∷ rest) rest refl is) }

-- ---- names and counts

pub said_name : (name : List ℕ) → IsName name → is_brief_word name ≡ false → Says (name ∷ []) (SpellsName name)
said_name name is free = record {
  says = λ line rest apart. ((said_one name (word name) (name_is_word Brief name is) (name_token name is free)).says line rest apart, is);
}

pub said_names : (names : List (List ℕ)) → All IsName names → All (λ name. is_brief_word name ≡ false) names → Says names (SpellsNames names)
said_names [] are free = said_none (λ line rest. refl)
said_names (name ∷ names) are free =
    record {
      says = (said_then (said_name name (All-head IsName name names are) (All-head (λ n. is_brief_word n ≡ false) name names free)) (said_names names (All-tail IsName name names are) (All-tail (λ n. is_brief_word n ≡ false) name names free))).says;
    }

said_count : (c : Count) → Says (count_word c ∷ []) (SpellsCount c)
said_count c =
    let it = count_is_word Brief c (λ h. refl) in
    record { says = λ line rest apart. (count_word c, (said_one (count_word c) (word (count_word c)) it.is_word (digit_token (count_word c) it.digit)).says line rest apart, it.writes) }

-- ---- runs

-- 1 to 255 bytes
abbrev RunFits : Option Run → Type 0
RunFits None = Unit {0}
RunFits (Some run) = (1 ≤ run.1) × (run.1 ≤ 255)

countable : (n : ℕ) → 1 ≤ n → n ≤ 255 → is_countable n ≡ true
countable n low high = grind (arith, nat_tests)

number_read : (n : ℕ) → n < 256 → repetition_by (decimal n) ≡ Some (so_often n)
unfolding repetition_by
number_read n small = let d = decimal_digits n small in rw d.0 (ap (λ m. Some (so_often m)) d.1)

-- how often the byte of a run stands
abbrev often_text : Bool → ℕ → List ℕ
often_text t n = if t then codes "*" ++ decimal n else []

often_apart : (t : Bool) (n : ℕ) (rest : List ℕ) → Apart Brief rest → Apart Brief (often_text t n ++ rest)
often_apart true n rest apart = refl
often_apart false n rest apart = apart

often_said : (t : Bool) (n : ℕ) → nat_lt 1 n ≡ t → 1 ≤ n → n ≤ 255 → (line : ℕ) (rest : List ℕ) → Apart Brief rest → SpellsOften None (times n) (tokens_of line (often_text t n ++ rest)) (tokens_of line rest)
often_said false n is low high line rest apart = inl (refl, grind (arith, nat_tests))
often_said true n is low high line rest apart =
    let d = decimal_digits n (omega arith) in
    let one_number = spelled_one (decimal n) (word (decimal n)) (digits_word Brief (decimal n) d.0) (digit_token (decimal n) (first_digit (decimal n) d.0)) in
    inr ((tokens_of line (decimal n ++ rest), (line, sign_here line 42 (42 ∷ (decimal n ++ rest)) (decimal n ++ rest) refl refl), (decimal n, one_number.says line rest apart, number_read n (omega arith))), countable n low high)

said_run : (run : Run) → 1 ≤ run.1 → run.1 ≤ 255 → Says (run_word run ∷ []) (SpellsData (spelled run.0) ▸ SpellsOften None (times run.1))
said_run run low high = said_as (record {
  says = λ line rest apart.
      let t = nat_lt 1 run.1 in
      let more : List ℕ = often_text t run.1 ++ rest in
      let front = ap (tokens_of line) (append_assoc (data_word run.0) (often_text t run.1) rest) in
      (tokens_of line more, subst (λ from. SpellsData (spelled run.0) from (tokens_of line more)) (sym front) ((data_said run.0).says line more (often_apart t run.1 rest apart)), often_said t run.1 refl low high line rest apart);
})

-- ---- messages

said_keyword : (w : List ℕ) → is_word Brief w ≡ true → Says (w ∷ []) (one (token_of_word w))
said_keyword w is = said_one w (token_of_word w) is refl

-- a run, and what follows it
said_after : (run : Option Run) (b : BriefBytes) (ws : List (List ℕ)) → RunFits run → Says ws (SpellsBytes None b) → Says (run_words run ++ ws) (SpellsBytes None (after_run run b))
said_after None b ws fits s = record { says = s.says }
said_after (Some run) b ws fits s = record {
  says = λ line rest apart.
      let all = (said_then (said_run run fits.0 fits.1) s).says line rest apart in
      (all.1.0, all.1.1, (all.0, all.1.2, (all.0, inl refl, all.2)));
}

one_byte : (p : Pattern) → Says (data_word p ∷ []) (SpellsData (spelled p))
one_byte p = said_as (data_said p)

-- a run that is ended, and one that goes on, are of 1 to 255 bytes
ended_fits : (run : Option Run) (bits : Pattern) → RunFits run → RunFits (ended_by run bits)
ended_fits None bits fits = tt
ended_fits (Some run) bits fits = by_test (goes_on run bits)
  where
    by_test : (t : Bool) → RunFits (if t then None else Some run)
    by_test true = tt
    by_test false = fits

with_fits : (run : Option Run) (bits : Pattern) → RunFits run → RunFits (Some (with_byte run bits))
with_fits None bits fits = (omega arith, omega arith)
with_fits (Some run) bits fits = by_test (goes_on run bits) refl
  where
    below : (n : ℕ) → nat_lt n 255 ≡ true → n + 1 ≤ 255
    below n h = grind (arith, nat_tests)

    by_test : (t : Bool) → goes_on run bits ≡ t → RunFits (Some (bits, if t then run.1 + 1 else 1))
    by_test true is = (omega arith, below run.1 (and_parts (same_pattern run.0 bits) (nat_lt run.1 255) is).1)
    by_test false is = (omega arith, omega arith)

mutual
  unfolding token_of_word

  pub said_frame : (f : FrameTree) → Says (frame_words f) (SpellsFrame None (frame_brief f))
  said_frame (write address acked refused) = record { says = (said_then (said_keyword (codes "write") refl) (said_then (said_as (target_said address)) (said_then (said_refused refused) (said_bytes acked None tt)))).says }
  said_frame (read address count after refused) = record { says = (said_then (said_keyword (codes "read") refl) (said_then (said_as (target_said address)) (said_then (said_count count) (said_then (said_refused refused) (said_next after))))).says }

  said_bytes : (p : PayloadTree) (run : Option Run) → RunFits run → Says (bytes_words p run) (SpellsBytes None (bytes_brief p run))
  said_bytes (trees.byte bits acked stop) run fits =
      said_after (ended_by run bits) (bytes_brief acked (Some (with_byte run bits))) (bytes_words acked (Some (with_byte run bits))) (ended_fits run bits fits)
      (said_bytes acked (Some (with_byte run bits)) (with_fits run bits fits))
  said_bytes (trees.byte bits acked (again frame)) run fits =
      said_after run (data_byte (spelled bits) (times 1) (go_on (frame_brief frame)) (bytes_brief acked None)) (data_word bits ∷ (refused_words (again frame) ++ bytes_words acked None)) fits
      record { says = (said_then (one_byte bits) (said_then {xs = []} {P = SpellsOften None (times 1)} (said_none (λ line rest. inl (refl, refl))) (said_then (said_refused (again frame)) (said_bytes acked None tt)))).says }
  said_bytes (last tail) run fits = said_after run (no_more (tail_brief tail)) (next_words tail) fits (record { says = (said_next tail).says })

  said_refused : (t : TailTree) → Says (refused_words t) (SpellsRefused None (tail_brief t))
  said_refused stop = said_none (λ line rest. inl refl)
  said_refused (again frame) = record { says = (said_then (said_keyword (codes "else") refl) (said_then (said_sign 40 refl) (said_then (said_frame frame) (said_sign 41 refl)))).says }

  said_next : (t : TailTree) → Says (next_words t) (SpellsNext None (tail_brief t))
  said_next stop = said_none (λ line rest. refl)
  said_next (again frame) = record { says = (said_frame frame).says }
