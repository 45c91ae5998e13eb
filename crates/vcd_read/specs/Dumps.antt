-- A whole dump (IEEE 1364-2005, clause 18): its samples, or its first refusal in text order.
use Rattle.std.specs.Prelude.{ℕ, List, [], ◌∷◌, ◌++◌, Option, Some, None, Result, Ok, Err}
use Rattle.std.specs.Prelude.{if◌then◌else◌, option_to_list}
use Rattle.vcd_read.specs.declared.dumps.Context.{Context}
use Rattle.vcd_read.specs.declared.dumps.Context.TheVariants as inside
use Rattle.vcd_read.specs.declared.errors.Refusal.{Refusal}
use Rattle.vcd_read.specs.declared.errors.Refusal.TheVariants.{NoSignal, Unended}
use Rattle.vcd_read.specs.declared.samples.Sample.{Sample}
use Rattle.run_errors.specs.declared.dumps.Signal.{Signal}
use Rattle.vcd_read.specs.Changes.{Step, stays, change, change_of_code, stamp_sample}
use Rattle.vcd_read.specs.Definitions.{definition, inside_var, inside_end_definitions, missing}
use Rattle.vcd_read.specs.Probes.{Finder}
use Rattle.vcd_read.specs.States.{State, state_at_first}
use Rattle.vcd_read.specs.Tokens.{Token, tokens_of, up_to_white}
use Rattle.vcd_read.specs.Words.{is_end}

abbrev pub outside : State → List ℕ → ℕ → Step
outside s token line = if s.defined then change s token line else stays (definition s token line)

-- The next token, in the place where it stands.
abbrev pub token_in : Context → State → List ℕ → ℕ → Step
token_in inside.Nothing s token line = outside s token line
token_in (inside.Skipped began) s token line =
    Ok ((if is_end token then record s { context = inside.Nothing } else s), None)
token_in (inside.Var began so_far) s token line = stays (inside_var began so_far s token line)
token_in (inside.EndDefinitions began) s token line = stays (inside_end_definitions s token)
token_in (inside.Change began level) s token line =
    stays (change_of_code (record s { context = inside.Nothing }) level token line)

unfoldable pub step : State → List ℕ → ℕ → Step
step s token line = token_in s.context s token line

-- what tokens leave, with the samples of the time stamps that they close, in order
abbrev pub Run : Type 0
Run = Result (State × List Sample) Refusal

abbrev pub with_front : List Sample → Run → Run
with_front samples (Ok p) = Ok (p.0, samples ++ p.1)
with_front samples (Err refusal) = Err refusal

abbrev pub and_then : Step → (State → Run) → Run
and_then (Ok p) rest = with_front (option_to_list p.1) (rest p.0)
and_then (Err refusal) rest = Err refusal

abbrev pub run : State → List Token → Run
run s [] = Ok (s, [])
run s (token ∷ tokens) = and_then (step s token.bytes token.line) (λ next. run next tokens)

-- where the innermost open thing began
abbrev context_line : Context → Option ℕ
context_line inside.Nothing = None
context_line (inside.Skipped line) = Some line
context_line (inside.Var line so_far) = Some line
context_line (inside.EndDefinitions line) = Some line
context_line (inside.Change line level) = Some line

-- where the first of the things that are open began: what stands in a block began after it
abbrev pub open_line : State → Option ℕ
open_line s = elim s.block [ Some line ↦ Some line | None ↦ context_line s.context ]

-- The end of the text closes the last time stamp. Nothing may be open, and the definitions must name both signals;
-- without `$enddefinitions` there are no changes and no samples.
abbrev no_changes : Option Signal → Result (Option Sample) Refusal
no_changes (Some signal) = Err (NoSignal signal)
no_changes None = Ok None

abbrev pub at_end : State → Result (Option Sample) Refusal
at_end s = elim (open_line s) [
  | Some line ↦ Err (Unended line)
  | None ↦ if s.defined then Ok (stamp_sample s) else no_changes (missing s)
]

abbrev pub with_last : List Sample → Result (Option Sample) Refusal → Result (List Sample) Refusal
with_last samples (Ok last) = Ok (samples ++ option_to_list last)
with_last samples (Err refusal) = Err refusal

abbrev pub ended : Run → Result (List Sample) Refusal
ended (Ok p) = with_last p.1 (at_end p.0)
ended (Err refusal) = Err refusal

-- The samples of a dump, for two signals that are found by their names or codes, or its first refusal.
abbrev pub samples_of : Finder → Finder → List ℕ → Result (List Sample) Refusal
samples_of scl sda text = ended (run (state_at_first scl sda) (tokens_of 1 text))

-- the samples of the time stamps that tokens close, up to a token that is refused
abbrev pub given_by : Step → (State → List Sample) → List Sample
given_by (Ok p) rest = option_to_list p.1 ++ rest p.0
given_by (Err refusal) rest = []

abbrev pub given : State → List Token → List Sample
given s [] = []
given s (token ∷ tokens) = given_by (step s token.bytes token.line) (λ next. given next tokens)

-- What a dump that goes on has said: each token that has white space after it, and the samples that these give.
abbrev pub said_so_far : Finder → Finder → List ℕ → Run
said_so_far scl sda text = run (state_at_first scl sda) (tokens_of 1 (up_to_white text))

-- The samples that a dump that goes on has given, up to a token that is refused.
abbrev pub given_so_far : Finder → Finder → List ℕ → List Sample
given_so_far scl sda text = given (state_at_first scl sda) (tokens_of 1 (up_to_white text))
