-- What is read byte by byte is what the tokens of the whole text say.
use Rattle.std.proofs.Common.{◌≡◌, ℕ, Bool, true, false, List, [], ◌∷◌, ◌++◌, Result, Ok, Err, refl, ap, sym, ◌∙◌, append_assoc}
use Rattle.std.specs.Prelude.{if◌then◌else◌, option_to_list}
use Rattle.std.proofs.lemmas.List.{append-nil}
use Rattle.vcd_read.specs.declared.samples.Sample.{Sample}
use Rattle.vcd_read.specs.Changes.{Step}
use Rattle.vcd_read.specs.Dumps.{Run, step, run, and_then, with_front, given, given_by, with_last, at_end, ended}
use Rattle.vcd_read.specs.Pieces.{Kept, Refused, Scan, kept_after, token_ended, after_white, byte_read, go_on, bytes_read, ended_by}
use Rattle.vcd_read.specs.States.{State}
use Rattle.vcd_read.specs.Tokens.{Token, is_white, line_after, tokens_of, has_white, up_to_white}
use Rattle.vcd_read.proofs.TokenLemmas.{still_no_white, none_up_to_white, up_to_white-append, tokens_of-white, tokens_of-last, tokens_of-token}

-- ---- one piece after another

go_on-append : (scan : Scan) (bytes more : List ℕ) →
    ((k : Kept) → bytes_read k (bytes ++ more) ≡ go_on (bytes_read k bytes) (λ next. bytes_read next more)) →
    go_on scan (λ next. bytes_read next (bytes ++ more)) ≡ go_on (go_on scan (λ next. bytes_read next bytes)) (λ next. bytes_read next more)
go_on-append (Ok k) bytes more each = each k
go_on-append (Err refusal) bytes more each = refl

pub bytes_read-append : (bytes more : List ℕ) (k : Kept) → bytes_read k (bytes ++ more) ≡ go_on (bytes_read k bytes) (λ next. bytes_read next more)
bytes_read-append [] more k = refl
bytes_read-append (byte ∷ bytes) more k = go_on-append (byte_read k byte) bytes more (bytes_read-append bytes more)

-- ---- samples that were cleared

abbrev pub with_cleared : List Sample → Kept → Kept
with_cleared cleared k = record k { samples = cleared ++ k.samples }

abbrev pub cleared_in : List Sample → Scan → Scan
cleared_in cleared (Ok k) = Ok (with_cleared cleared k)
cleared_in cleared (Err refused) = Err (record refused { samples = cleared ++ refused.samples })

kept_after-cleared : (cleared : List Sample) (k : Kept) (result : Step) → kept_after (with_cleared cleared k) result ≡ cleared_in cleared (kept_after k result)
kept_after-cleared cleared k (Ok p) = ap (λ samples. Ok (record k { held = []; state = p.0; samples = samples })) (append_assoc cleared k.samples (option_to_list p.1))
kept_after-cleared cleared k (Err refusal) = refl

pub token_ended-cleared : (cleared : List Sample) (line : ℕ) (held : List ℕ) (s : State) (samples : List Sample) →
    token_ended (record { line = line; held = held; state = s; samples = cleared ++ samples }) ≡ cleared_in cleared (token_ended (record { line = line; held = held; state = s; samples = samples }))
token_ended-cleared cleared line [] s samples = refl
token_ended-cleared cleared line (byte ∷ bytes) s samples = kept_after-cleared cleared (record { line = line; held = byte ∷ bytes; state = s; samples = samples }) (step s (byte ∷ bytes) line)

after_white-cleared : (cleared : List Sample) (byte : ℕ) (scan : Scan) → after_white byte (cleared_in cleared scan) ≡ cleared_in cleared (after_white byte scan)
after_white-cleared cleared byte (Ok k) = refl
after_white-cleared cleared byte (Err refusal) = refl

byte_read-by : (cleared : List Sample) (k : Kept) (byte : ℕ) (test : Bool) →
    (if test then after_white byte (token_ended (with_cleared cleared k)) else Ok (record (with_cleared cleared k) { held = k.held ++ (byte ∷ []) }))
    ≡ cleared_in cleared (if test then after_white byte (token_ended k) else Ok (record k { held = k.held ++ (byte ∷ []) }))
byte_read-by cleared k byte true = ap (after_white byte) (token_ended-cleared cleared k.line k.held k.state k.samples) ∙ after_white-cleared cleared byte (token_ended k)
byte_read-by cleared k byte false = refl

go_on-cleared : (cleared : List Sample) (scan : Scan) (bytes : List ℕ) →
    ((k : Kept) → bytes_read (with_cleared cleared k) bytes ≡ cleared_in cleared (bytes_read k bytes)) →
    go_on (cleared_in cleared scan) (λ next. bytes_read next bytes) ≡ cleared_in cleared (go_on scan (λ next. bytes_read next bytes))
go_on-cleared cleared (Ok k) bytes each = each k
go_on-cleared cleared (Err refusal) bytes each = refl

-- samples that were cleared before stand before those that come
pub bytes_read-cleared : (cleared : List Sample) (bytes : List ℕ) (k : Kept) → bytes_read (with_cleared cleared k) bytes ≡ cleared_in cleared (bytes_read k bytes)
bytes_read-cleared cleared [] k = refl
bytes_read-cleared cleared (byte ∷ bytes) k =
    ap (λ scan. go_on scan (λ next. bytes_read next bytes)) (byte_read-by cleared k byte (is_white byte))
    ∙ go_on-cleared cleared (byte_read k byte) bytes (bytes_read-cleared cleared bytes)

-- ---- the tokens of the whole text

pub with_front-with_front : (samples more : List Sample) (said : Run) → with_front samples (with_front more said) ≡ with_front (samples ++ more) said
with_front-with_front samples more (Ok p) = ap (λ all. Ok (p.0, all)) (sym (append_assoc samples more p.1))
with_front-with_front samples more (Err refusal) = refl

-- what tokens leave, with the samples before a refusal too
abbrev pub Told : Type 0
Told = Result (State × List Sample) Refused

abbrev pub in_front : List Sample → Told → Told
in_front samples (Ok p) = Ok (p.0, samples ++ p.1)
in_front samples (Err refused) = Err (record refused { samples = samples ++ refused.samples })

abbrev then_tell : Step → (State → Told) → Told
then_tell (Ok p) rest = in_front (option_to_list p.1) (rest p.0)
then_tell (Err refusal) rest = Err (record { refusal = refusal; samples = [] })

abbrev pub tell : State → List Token → Told
tell s [] = Ok (s, [])
tell s (token ∷ tokens) = then_tell (step s token.bytes token.line) (λ next. tell next tokens)

in_front-in_front : (samples more : List Sample) (told : Told) → in_front samples (in_front more told) ≡ in_front (samples ++ more) told
in_front-in_front samples more (Ok p) = ap (λ all. Ok (p.0, all)) (sym (append_assoc samples more p.1))
in_front-in_front samples more (Err refused) = ap (λ all. Err (record refused { samples = all })) (sym (append_assoc samples more refused.samples))

-- what the tokens that have ended said
abbrev pub said_by : Scan → Told
said_by (Ok k) = Ok (k.state, k.samples)
said_by (Err refused) = Err refused

abbrev Says : List ℕ → Type 0
Says bytes = (line : ℕ) (held : List ℕ) (s : State) (samples : List Sample) → has_white held ≡ false →
    said_by (bytes_read (record { line = line; held = held; state = s; samples = samples }) bytes)
    ≡ in_front samples (tell s (tokens_of line (up_to_white (held ++ bytes))))

says_after : (line byte : ℕ) (held : List ℕ) (s : State) (samples : List Sample) (bytes : List ℕ) (result : Step) → Says bytes →
    said_by (go_on (after_white byte (kept_after (record { line = line; held = held; state = s; samples = samples }) result)) (λ next. bytes_read next bytes))
    ≡ in_front samples (then_tell result (λ next. tell next (tokens_of (line_after line byte) (up_to_white bytes))))
says_after line byte held s samples bytes (Ok p) each =
    each (line_after line byte) [] p.0 (samples ++ option_to_list p.1) refl
    ∙ sym (in_front-in_front samples (option_to_list p.1) (tell p.0 (tokens_of (line_after line byte) (up_to_white bytes))))
says_after line byte held s samples bytes (Err refusal) each = ap (λ all. Err (record { refusal = refusal; samples = all })) (sym (append-nil samples))

says_white : (byte : ℕ) (bytes : List ℕ) → is_white byte ≡ true → Says bytes → Says (byte ∷ bytes)
says_white byte bytes white each line [] s samples none =
    ap (λ test. said_by (go_on (if test then Ok (record { line = line_after line byte; held = []; state = s; samples = samples }) else Ok (record { line = line; held = byte ∷ []; state = s; samples = samples })) (λ next. bytes_read next bytes))) white
    ∙ each (line_after line byte) [] s samples refl
    ∙ ap (λ tokens. in_front samples (tell s tokens)) (sym (ap (tokens_of line) (up_to_white-append [] byte bytes white) ∙ tokens_of-white line byte (up_to_white bytes) white))
says_white byte bytes white each line (first ∷ rest) s samples none =
    ap (λ test. said_by (go_on (if test then after_white byte (kept_after (record { line = line; held = first ∷ rest; state = s; samples = samples }) (step s (first ∷ rest) line)) else Ok (record { line = line; held = (first ∷ rest) ++ (byte ∷ []); state = s; samples = samples })) (λ next. bytes_read next bytes))) white
    ∙ says_after line byte (first ∷ rest) s samples bytes (step s (first ∷ rest) line) each
    ∙ ap (λ tokens. in_front samples (tell s tokens)) (sym (ap (tokens_of line) (up_to_white-append (first ∷ rest) byte bytes white) ∙ tokens_of-token line first rest byte (up_to_white bytes) none white))

says_other : (byte : ℕ) (bytes : List ℕ) → is_white byte ≡ false → Says bytes → Says (byte ∷ bytes)
says_other byte bytes other each line held s samples none =
    ap (λ test. said_by (go_on (if test then after_white byte (token_ended (record { line = line; held = held; state = s; samples = samples })) else Ok (record { line = line; held = held ++ (byte ∷ []); state = s; samples = samples })) (λ next. bytes_read next bytes))) other
    ∙ each line (held ++ (byte ∷ [])) s samples (still_no_white held byte none other)
    ∙ ap (λ text. in_front samples (tell s (tokens_of line (up_to_white text)))) (append_assoc held (byte ∷ []) bytes)

says_by : (byte : ℕ) (bytes : List ℕ) (test : Bool) → is_white byte ≡ test → Says bytes → Says (byte ∷ bytes)
says_by byte bytes true white each = says_white byte bytes white each
says_by byte bytes false other each = says_other byte bytes other each

says_none : Says []
says_none line held s samples none =
    ap (λ all. Ok (s, all)) (sym (append-nil samples))
    ∙ ap (λ tokens. in_front samples (tell s tokens)) (sym (ap (tokens_of line) (ap up_to_white (append-nil held) ∙ none_up_to_white held none)))

pub says : (bytes : List ℕ) → Says bytes
says [] = says_none
says (byte ∷ bytes) = says_by byte bytes (is_white byte) refl (says bytes)

-- what was told, as a run and as samples
abbrev pub run_of : Told → Run
run_of (Ok p) = Ok p
run_of (Err refused) = Err refused.refusal

abbrev pub samples_in : Told → List Sample
samples_in (Ok p) = p.1
samples_in (Err refused) = refused.samples

run_of-front : (samples : List Sample) (told : Told) → with_front samples (run_of told) ≡ run_of (in_front samples told)
run_of-front samples (Ok p) = refl
run_of-front samples (Err refused) = refl

run_of-step : (result : Step) (tokens : List Token) → ((s : State) → run s tokens ≡ run_of (tell s tokens)) → and_then result (λ next. run next tokens) ≡ run_of (then_tell result (λ next. tell next tokens))
run_of-step (Ok p) tokens each = ap (with_front (option_to_list p.1)) (each p.0) ∙ run_of-front (option_to_list p.1) (tell p.0 tokens)
run_of-step (Err refusal) tokens each = refl

pub run_of-tell : (tokens : List Token) (s : State) → run s tokens ≡ run_of (tell s tokens)
run_of-tell [] s = refl
run_of-tell (token ∷ tokens) s = run_of-step (step s token.bytes token.line) tokens (run_of-tell tokens)

samples_in-front : (samples : List Sample) (told : Told) → samples ++ samples_in told ≡ samples_in (in_front samples told)
samples_in-front samples (Ok p) = refl
samples_in-front samples (Err refused) = refl

samples_in-step : (result : Step) (tokens : List Token) → ((s : State) → given s tokens ≡ samples_in (tell s tokens)) →
    given_by result (λ next. given next tokens) ≡ samples_in (then_tell result (λ next. tell next tokens))
samples_in-step (Ok p) tokens each = ap (λ more. option_to_list p.1 ++ more) (each p.0) ∙ samples_in-front (option_to_list p.1) (tell p.0 tokens)
samples_in-step (Err refusal) tokens each = refl

pub samples_in-tell : (tokens : List Token) (s : State) → given s tokens ≡ samples_in (tell s tokens)
samples_in-tell [] s = refl
samples_in-tell (token ∷ tokens) s = samples_in-step (step s token.bytes token.line) tokens (samples_in-tell tokens)

-- ---- the end of the text

abbrev EndsAs : List ℕ → Type 0
EndsAs bytes = (line : ℕ) (held : List ℕ) (s : State) (samples : List Sample) → has_white held ≡ false →
    ended_by (go_on (bytes_read (record { line = line; held = held; state = s; samples = samples }) bytes) token_ended)
    ≡ ended (with_front samples (run s (tokens_of line (held ++ bytes))))

ends_after : (line byte : ℕ) (held : List ℕ) (s : State) (samples : List Sample) (bytes : List ℕ) (result : Step) → EndsAs bytes →
    ended_by (go_on (go_on (after_white byte (kept_after (record { line = line; held = held; state = s; samples = samples }) result)) (λ next. bytes_read next bytes)) token_ended)
    ≡ ended (with_front samples (and_then result (λ next. run next (tokens_of (line_after line byte) bytes))))
ends_after line byte held s samples bytes (Ok p) each =
    each (line_after line byte) [] p.0 (samples ++ option_to_list p.1) refl
    ∙ ap ended (sym (with_front-with_front samples (option_to_list p.1) (run p.0 (tokens_of (line_after line byte) bytes))))
ends_after line byte held s samples bytes (Err refusal) each = refl

ends_white : (byte : ℕ) (bytes : List ℕ) → is_white byte ≡ true → EndsAs bytes → EndsAs (byte ∷ bytes)
ends_white byte bytes white each line [] s samples none =
    ap (λ test. ended_by (go_on (go_on (if test then Ok (record { line = line_after line byte; held = []; state = s; samples = samples }) else Ok (record { line = line; held = byte ∷ []; state = s; samples = samples })) (λ next. bytes_read next bytes)) token_ended)) white
    ∙ each (line_after line byte) [] s samples refl
    ∙ ap (λ tokens. ended (with_front samples (run s tokens))) (sym (tokens_of-white line byte bytes white))
ends_white byte bytes white each line (first ∷ rest) s samples none =
    ap (λ test. ended_by (go_on (go_on (if test then after_white byte (kept_after (record { line = line; held = first ∷ rest; state = s; samples = samples }) (step s (first ∷ rest) line)) else Ok (record { line = line; held = (first ∷ rest) ++ (byte ∷ []); state = s; samples = samples })) (λ next. bytes_read next bytes)) token_ended)) white
    ∙ ends_after line byte (first ∷ rest) s samples bytes (step s (first ∷ rest) line) each
    ∙ ap (λ tokens. ended (with_front samples (run s tokens))) (sym (tokens_of-token line first rest byte bytes none white))

ends_other : (byte : ℕ) (bytes : List ℕ) → is_white byte ≡ false → EndsAs bytes → EndsAs (byte ∷ bytes)
ends_other byte bytes other each line held s samples none =
    ap (λ test. ended_by (go_on (go_on (if test then after_white byte (token_ended (record { line = line; held = held; state = s; samples = samples })) else Ok (record { line = line; held = held ++ (byte ∷ []); state = s; samples = samples })) (λ next. bytes_read next bytes)) token_ended)) other
    ∙ each line (held ++ (byte ∷ [])) s samples (still_no_white held byte none other)
    ∙ ap (λ text. ended (with_front samples (run s (tokens_of line text)))) (append_assoc held (byte ∷ []) bytes)

ends_by : (byte : ℕ) (bytes : List ℕ) (test : Bool) → is_white byte ≡ test → EndsAs bytes → EndsAs (byte ∷ bytes)
ends_by byte bytes true white each = ends_white byte bytes white each
ends_by byte bytes false other each = ends_other byte bytes other each

last_token : (line first : ℕ) (rest : List ℕ) (s : State) (samples : List Sample) (result : Step) →
    ended_by (kept_after (record { line = line; held = first ∷ rest; state = s; samples = samples }) result)
    ≡ ended (with_front samples (and_then result (λ next. run next [])))
last_token line first rest s samples (Ok p) = ap (λ all. with_last all (at_end p.0)) (sym (ap (λ more. samples ++ more) (append-nil (option_to_list p.1))))
last_token line first rest s samples (Err refusal) = refl

ends_last : (line : ℕ) (held : List ℕ) (s : State) (samples : List Sample) → has_white held ≡ false →
    ended_by (token_ended (record { line = line; held = held; state = s; samples = samples })) ≡ ended (with_front samples (run s (tokens_of line held)))
ends_last line [] s samples none = ap (λ all. with_last all (at_end s)) (sym (append-nil samples))
ends_last line (first ∷ rest) s samples none =
    last_token line first rest s samples (step s (first ∷ rest) line)
    ∙ ap (λ tokens. ended (with_front samples (run s tokens))) (sym (tokens_of-last line first rest none))

ends_none : EndsAs []
ends_none line held s samples none =
    ends_last line held s samples none
    ∙ ap (λ text. ended (with_front samples (run s (tokens_of line text)))) (sym (append-nil held))

pub ends_as : (bytes : List ℕ) → EndsAs bytes
ends_as [] = ends_none
ends_as (byte ∷ bytes) = ends_by byte bytes (is_white byte) refl (ends_as bytes)
