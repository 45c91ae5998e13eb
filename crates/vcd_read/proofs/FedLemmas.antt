-- What a reader that was fed a text answers.
use Rattle.std.proofs.Common.{◌≡◌, ℕ, List, [], ◌++◌, Option, Some, None, Result, Ok, Err, refl, ap, sym, ◌∙◌, subst, append_assoc}
use Rattle.std.specs.Prelude.{IfOk, option_to_list}
use Rattle.std.proofs.lemmas.List.{append-nil}
use Rattle.vcd_read.specs.declared.errors.Refusal.{Refusal}
use Rattle.run_errors.specs.declared.dumps.VcdError.{VcdError}
use Rattle.vcd_read.specs.declared.samples.Sample.{Sample}
use Rattle.vcd_read.specs.Dumps.{Run, with_front, with_last, at_end, ended, said_so_far, given_so_far, samples_of}
use Rattle.vcd_read.specs.Pieces.{Kept, Refused, Scan, kept_at_first, token_ended, go_on, bytes_read, ended_by, samples_at_end}
use Rattle.vcd_read.specs.Probes.{Finder}
use Rattle.vcd_read.specs.Readers.{Reading, StandsFor, Fed, IsRefusal}
use Rattle.vcd_read.specs.Refusals.{error_of}
use Rattle.vcd_read.specs.States.{state_at_first}
use Rattle.vcd_read.specs.Tokens.{tokens_of, up_to_white}
use Rattle.vcd_read.proofs.PieceLemmas.{bytes_read-append, with_cleared, cleared_in, bytes_read-cleared, token_ended-cleared, Told, in_front, tell, said_by, says, run_of, run_of-tell, samples_in, samples_in-tell, ends_as}

with_front_none : (said : Run) → with_front [] said ≡ said
with_front_none (Ok p) = refl
with_front_none (Err refusal) = refl

in_front_none : (told : Told) → in_front [] told ≡ told
in_front_none (Ok p) = refl
in_front_none (Err refused) = refl

told-scan : (scl sda : Finder) (text : List ℕ) → tell (state_at_first scl sda) (tokens_of 1 (up_to_white text)) ≡ said_by (bytes_read (kept_at_first scl sda) text)
told-scan scl sda text = sym (says text 1 [] (state_at_first scl sda) [] refl ∙ in_front_none _)

said-scan : (scl sda : Finder) (text : List ℕ) → said_so_far scl sda text ≡ run_of (said_by (bytes_read (kept_at_first scl sda) text))
said-scan scl sda text = run_of-tell (tokens_of 1 (up_to_white text)) (state_at_first scl sda) ∙ ap run_of (told-scan scl sda text)

given-scan : (scl sda : Finder) (text : List ℕ) → given_so_far scl sda text ≡ samples_in (said_by (bytes_read (kept_at_first scl sda) text))
given-scan scl sda text = samples_in-tell (tokens_of 1 (up_to_white text)) (state_at_first scl sda) ∙ ap samples_in (told-scan scl sda text)

samples-scan : (scl sda : Finder) (text : List ℕ) → samples_of scl sda text ≡ ended_by (go_on (bytes_read (kept_at_first scl sda) text) token_ended)
samples-scan scl sda text = sym (ends_as text 1 [] (state_at_first scl sda) [] refl ∙ ap ended (with_front_none _))

-- ---- what a reader stands for, where it has refused nothing, and where it has

pub scan_of_going : (scl sda : Finder) (text : List ℕ) (cleared : List Sample) (r : Reading) → r.refused ≡ None → Fed scl sda text cleared r →
    bytes_read (kept_at_first scl sda) text ≡ Ok (with_cleared cleared r.kept)
unfolding Fed
scan_of_going scl sda text cleared r going fed = rw going at fed

pub scan_of_refused : (scl sda : Finder) (text : List ℕ) (cleared : List Sample) (r : Reading) (refusal : Refusal) → r.refused ≡ Some refusal → Fed scl sda text cleared r →
    bytes_read (kept_at_first scl sda) text ≡ Err (record { refusal = refusal; samples = cleared ++ r.kept.samples })
unfolding Fed
scan_of_refused scl sda text cleared r refusal refused fed = rw refused at fed

pub going_from_scan : (scl sda : Finder) (text : List ℕ) (cleared : List Sample) (r : Reading) → r.refused ≡ None →
    bytes_read (kept_at_first scl sda) text ≡ Ok (with_cleared cleared r.kept) → Fed scl sda text cleared r
unfolding Fed
going_from_scan scl sda text cleared r going scan = rw going scan

pub refused_from_scan : (scl sda : Finder) (text : List ℕ) (cleared : List Sample) (r : Reading) (refusal : Refusal) → r.refused ≡ Some refusal →
    bytes_read (kept_at_first scl sda) text ≡ Err (record { refusal = refusal; samples = cleared ++ r.kept.samples }) → Fed scl sda text cleared r
unfolding Fed
refused_from_scan scl sda text cleared r refusal refused scan = rw refused scan

-- ---- one piece more

pub scan_more : (scl sda : Finder) (text piece : List ℕ) (cleared : List Sample) (k next : Kept) →
    bytes_read (kept_at_first scl sda) text ≡ Ok (with_cleared cleared k) → bytes_read k piece ≡ Ok next →
    bytes_read (kept_at_first scl sda) (text ++ piece) ≡ Ok (with_cleared cleared next)
scan_more scl sda text piece cleared k next scan read =
    bytes_read-append text piece (kept_at_first scl sda)
    ∙ ap (λ s. go_on s (λ n. bytes_read n piece)) scan
    ∙ bytes_read-cleared cleared piece k
    ∙ ap (cleared_in cleared) read

pub scan_refused : (scl sda : Finder) (text piece : List ℕ) (cleared : List Sample) (k : Kept) (refused : Refused) →
    bytes_read (kept_at_first scl sda) text ≡ Ok (with_cleared cleared k) → bytes_read k piece ≡ Err refused →
    bytes_read (kept_at_first scl sda) (text ++ piece) ≡ Err (record refused { samples = cleared ++ refused.samples })
scan_refused scl sda text piece cleared k refused scan read =
    bytes_read-append text piece (kept_at_first scl sda)
    ∙ ap (λ s. go_on s (λ n. bytes_read n piece)) scan
    ∙ bytes_read-cleared cleared piece k
    ∙ ap (cleared_in cleared) read

pub scan_still_refused : (scl sda : Finder) (text piece : List ℕ) (refused : Refused) → bytes_read (kept_at_first scl sda) text ≡ Err refused →
    bytes_read (kept_at_first scl sda) (text ++ piece) ≡ Err refused
scan_still_refused scl sda text piece refused scan =
    bytes_read-append text piece (kept_at_first scl sda) ∙ ap (λ s. go_on s (λ n. bytes_read n piece)) scan

-- ---- what the text has said so far

pub said_going : (scl sda : Finder) (text : List ℕ) (cleared : List Sample) (k : Kept) → bytes_read (kept_at_first scl sda) text ≡ Ok (with_cleared cleared k) →
    said_so_far scl sda text ≡ Ok (k.state, cleared ++ k.samples)
said_going scl sda text cleared k scan = said-scan scl sda text ∙ ap (λ s. run_of (said_by s)) scan

pub said_refused : (scl sda : Finder) (text : List ℕ) (refused : Refused) → bytes_read (kept_at_first scl sda) text ≡ Err refused →
    said_so_far scl sda text ≡ Err refused.refusal
said_refused scl sda text refused scan = said-scan scl sda text ∙ ap (λ s. run_of (said_by s)) scan

-- ---- the end

all_cleared_in : List Sample → Result (List Sample) Refusal → Result (List Sample) Refusal
all_cleared_in cleared (Ok samples) = Ok (cleared ++ samples)
all_cleared_in cleared (Err refusal) = Err refusal

with_last-cleared : (cleared samples : List Sample) (last : Result (Option Sample) Refusal) → with_last (cleared ++ samples) last ≡ all_cleared_in cleared (with_last samples last)
unfolding all_cleared_in
with_last-cleared cleared samples (Ok last) = ap Ok (append_assoc cleared samples (option_to_list last))
with_last-cleared cleared samples (Err refusal) = refl

ended_by-cleared : (cleared : List Sample) (scan : Scan) → ended_by (cleared_in cleared scan) ≡ all_cleared_in cleared (ended_by scan)
unfolding all_cleared_in
ended_by-cleared cleared (Ok k) = with_last-cleared cleared k.samples (at_end k.state)
ended_by-cleared cleared (Err refusal) = refl

samples_at_end-cleared : (cleared : List Sample) (k : Kept) → samples_at_end (with_cleared cleared k) ≡ all_cleared_in cleared (samples_at_end k)
samples_at_end-cleared cleared k = ap ended_by (token_ended-cleared cleared k.line k.held k.state k.samples) ∙ ended_by-cleared cleared (token_ended k)

pub samples_going : (scl sda : Finder) (text : List ℕ) (cleared : List Sample) (k : Kept) (samples : List Sample) →
    bytes_read (kept_at_first scl sda) text ≡ Ok (with_cleared cleared k) → samples_at_end k ≡ Ok samples →
    samples_of scl sda text ≡ Ok (cleared ++ samples)
unfolding all_cleared_in
samples_going scl sda text cleared k samples scan ended =
    samples-scan scl sda text ∙ ap (λ s. ended_by (go_on s token_ended)) scan ∙ samples_at_end-cleared cleared k ∙ ap (all_cleared_in cleared) ended

pub samples_refused_at_end : (scl sda : Finder) (text : List ℕ) (cleared : List Sample) (k : Kept) (refusal : Refusal) →
    bytes_read (kept_at_first scl sda) text ≡ Ok (with_cleared cleared k) → samples_at_end k ≡ Err refusal →
    samples_of scl sda text ≡ Err refusal
unfolding all_cleared_in
samples_refused_at_end scl sda text cleared k refusal scan ended =
    samples-scan scl sda text ∙ ap (λ s. ended_by (go_on s token_ended)) scan ∙ samples_at_end-cleared cleared k ∙ ap (all_cleared_in cleared) ended

pub samples_refused : (scl sda : Finder) (text : List ℕ) (refused : Refused) → bytes_read (kept_at_first scl sda) text ≡ Err refused →
    samples_of scl sda text ≡ Err refused.refusal
samples_refused scl sda text refused scan = samples-scan scl sda text ∙ ap (λ s. ended_by (go_on s token_ended)) scan

-- the error is this refusal
pub is_refusal : {A : Type 0} (given : Result A Refusal) (refusal : Refusal) (e : VcdError) → given ≡ Err refusal → e ≡ error_of refusal → IsRefusal given e
is_refusal given refusal e is error = rw is error

-- ---- samples on the way

stands_cleared : (refused : Option Refusal) (scan : Scan) (cleared : List Sample) (k : Kept) → StandsFor refused scan cleared k →
    StandsFor refused scan (cleared ++ k.samples) (record k { samples = [] })
stands_cleared None scan cleared k stands = stands ∙ ap (λ samples. Ok (record k { samples = samples })) (sym (append-nil (cleared ++ k.samples)))
stands_cleared (Some refusal) scan cleared k stands = stands ∙ ap (λ samples. Err (record { refusal = refusal; samples = samples })) (sym (append-nil (cleared ++ k.samples)))

pub fed_cleared : (scl sda : Finder) (text : List ℕ) (cleared : List Sample) (r : Reading) → Fed scl sda text cleared r →
    Fed scl sda text (cleared ++ r.kept.samples) (record { kept = record r.kept { samples = [] }; refused = r.refused })
unfolding Fed
fed_cleared scl sda text cleared r fed = stands_cleared r.refused (bytes_read (kept_at_first scl sda) text) cleared r.kept fed

given_in_scan : (refused : Option Refusal) (scan : Scan) (cleared : List Sample) (k : Kept) → StandsFor refused scan cleared k → samples_in (said_by scan) ≡ cleared ++ k.samples
given_in_scan None scan cleared k stands = ap (λ s. samples_in (said_by s)) stands
given_in_scan (Some refusal) scan cleared k stands = ap (λ s. samples_in (said_by s)) stands

pub given_in : (scl sda : Finder) (text : List ℕ) (cleared : List Sample) (r : Reading) → Fed scl sda text cleared r → given_so_far scl sda text ≡ cleared ++ r.kept.samples
unfolding Fed
given_in scl sda text cleared r fed =
    given-scan scl sda text ∙ given_in_scan r.refused (bytes_read (kept_at_first scl sda) text) cleared r.kept fed

said_in_scan : (refused : Option Refusal) (scan : Scan) (cleared : List Sample) (k : Kept) → StandsFor refused scan cleared k →
    IfOk (run_of (said_by scan)) (λ said. said.1 ≡ cleared ++ k.samples)
said_in_scan None scan cleared k stands = rw stands refl
said_in_scan (Some refusal) scan cleared k stands = rw stands tt

pub samples_so_far : (scl sda : Finder) (text : List ℕ) (cleared : List Sample) (r : Reading) → Fed scl sda text cleared r →
    IfOk (said_so_far scl sda text) (λ said. said.1 ≡ cleared ++ r.kept.samples)
unfolding Fed
samples_so_far scl sda text cleared r fed =
    let P : Run → Type 0 = λ said. IfOk said (λ p. p.1 ≡ cleared ++ r.kept.samples) in
    subst P (sym (said-scan scl sda text)) (said_in_scan r.refused (bytes_read (kept_at_first scl sda) text) cleared r.kept fed)
