-- Tokens after tokens: what a run says of its beginnings.
use Rattle.std.proofs.Common.{◌≡◌, ℕ, ◌⊎◌, inl, inr, Bool, true, false, List, [], ◌∷◌, ◌++◌, Option, Some, None, Result, Ok, Err, refl, ap, sym, ◌∙◌, subst}
use Rattle.std.specs.Prelude.{option_to_list}
use Rattle.vcd_read.specs.declared.dumps.Context.{Context}
use Rattle.vcd_read.specs.declared.dumps.Context.TheVariants as inside
use Rattle.vcd_read.specs.declared.errors.Refusal.{Refusal}
use Rattle.vcd_read.specs.declared.errors.Refusal.TheVariants.{NoSignal, BadToken, TimeBack, Unended}
use Rattle.vcd_read.specs.declared.samples.Sample.{Sample}
use Rattle.run_errors.specs.declared.dumps.Signal.{Signal}
use Rattle.vcd_read.specs.Beginnings.{IsLate}
use Rattle.vcd_read.specs.Changes.{Step, stays}
use Rattle.vcd_read.specs.Definitions.{missing, definitions_end, inside_end_definitions}
use Rattle.vcd_read.specs.Dumps.{Run, token_in, step, run, and_then, with_front, open_line, at_end, with_last, ended}
use Rattle.vcd_read.specs.States.{State}
use Rattle.vcd_read.specs.Tokens.{Token}
use Rattle.vcd_read.specs.Words.{is_end}
use Rattle.vcd_read.proofs.PieceLemmas.{with_front-with_front}
use Rattle.vcd_read.proofs.RunLemmas.{run_token}
use Rattle.vcd_read.proofs.SpelledChanges.{Accepts, accepts_step}
use Rattle.vcd_read.proofs.StepLemmas.{IsEnding, IsWritten, Lost, Says, says}

-- ---- tokens after tokens

abbrev then_run : Run → List Token → Run
then_run (Ok p) more = with_front p.1 (run p.0 more)
then_run (Err refusal) more = Err refusal

then_run-front : (front : List Sample) (said : Run) (more : List Token) → with_front front (then_run said more) ≡ then_run (with_front front said) more
then_run-front front (Ok p) more = with_front-with_front front p.1 (run p.0 more)
then_run-front front (Err refusal) more = refl

then_run-step : (result : Step) (tokens more : List Token) → ((s : State) → run s (tokens ++ more) ≡ then_run (run s tokens) more) →
    and_then result (λ next. run next (tokens ++ more)) ≡ then_run (and_then result (λ next. run next tokens)) more
then_run-step (Ok p) tokens more each = ap (with_front (option_to_list p.1)) (each p.0) ∙ then_run-front (option_to_list p.1) (run p.0 tokens) more
then_run-step (Err refusal) tokens more each = refl

none_first : (said : Run) → said ≡ with_front [] said
none_first (Ok p) = refl
none_first (Err refusal) = refl

run-append : (tokens more : List Token) (s : State) → run s (tokens ++ more) ≡ then_run (run s tokens) more
run-append [] more s = none_first (run s more)
run-append (token ∷ tokens) more s = then_run-step (step s token.bytes token.line) tokens more (run-append tokens more)

pub run_after : (tokens more : List Token) (s : State) (p : State × List Sample) → run s tokens ≡ Ok p → run s (tokens ++ more) ≡ with_front p.1 (run p.0 more)
run_after tokens more s p is = run-append tokens more s ∙ ap (λ said. then_run said more) is

pub refused_after : (tokens more : List Token) (s : State) (refusal : Refusal) → run s tokens ≡ Err refusal → run s (tokens ++ more) ≡ Err refusal
refused_after tokens more s refusal is = run-append tokens more s ∙ ap (λ said. then_run said more) is

-- ---- one token after tokens

pub refused_then : (tokens : List Token) (token : Token) (more : List Token) (s : State) (p : State × List Sample) (refusal : Refusal) → run s tokens ≡ Ok p → step p.0 token.bytes token.line ≡ Err refusal →
    run s (tokens ++ (token ∷ more)) ≡ Err refusal
refused_then tokens token more s p refusal is steps =
    run_after tokens (token ∷ more) s p is
    ∙ ap (λ result. with_front p.1 (and_then result (λ next. run next more))) steps

pub read_then : (tokens : List Token) (token : Token) (s : State) (p : State × List Sample) (q : State × Option Sample) → run s tokens ≡ Ok p → step p.0 token.bytes token.line ≡ Ok q →
    run s (tokens ++ (token ∷ [])) ≡ Ok (q.0, p.1 ++ (option_to_list q.1 ++ []))
read_then tokens token s p q is steps =
    run_after tokens (token ∷ []) s p is
    ∙ ap (λ result. with_front p.1 (and_then result (λ next. run next []))) steps

-- ---- where a run is refused

pub record Split (s : State) (tokens : List Token) (refusal : Refusal) : Type 0 where
  pub before : List Token
  pub token : Token
  pub rest : List Token
  pub reached : State × List Sample
  pub stands : tokens ≡ before ++ (token ∷ rest)
  pub is : run s before ≡ Ok reached
  pub steps : step reached.0 token.bytes token.line ≡ Err refusal

of_front : (front : List Sample) (said : Run) (refusal : Refusal) → with_front front said ≡ Err refusal → said ≡ Err refusal
of_front front (Ok p) refusal is = absurd cc
of_front front (Err other) refusal is = cc

split_by : (s : State) (token : Token) (tokens : List Token) (refusal : Refusal) (result : Step) → step s token.bytes token.line ≡ result →
    ((next : State) → run next tokens ≡ Err refusal → Split next tokens refusal) → and_then result (λ next. run next tokens) ≡ Err refusal → Split s (token ∷ tokens) refusal
split_by s token tokens refusal (Err other) steps each is =
    let same : other ≡ refusal = cc in
    record { before = []; token = token; rest = tokens; reached = (s, []); stands = refl; is = refl; steps = steps ∙ ap Err same }
split_by s token tokens refusal (Ok p) steps each is =
    let r = each p.0 (of_front (option_to_list p.1) (run p.0 tokens) refusal is) in
    record {
      before = token ∷ r.before;
      token = r.token;
      rest = r.rest;
      reached = (r.reached.0, option_to_list p.1 ++ r.reached.1);
      stands = ap (λ t. token ∷ t) r.stands;
      is = ap (λ result. and_then result (λ next. run next r.before)) steps ∙ ap (with_front (option_to_list p.1)) r.is;
      steps = r.steps;
    }

pub split : (tokens : List Token) (s : State) (refusal : Refusal) → run s tokens ≡ Err refusal → Split s tokens refusal
split [] s refusal is = absurd cc
split (token ∷ tokens) s refusal is =
    split_by s token tokens refusal (step s token.bytes token.line) refl (λ next. split tokens next refusal) is

-- ---- what stays

pub record Stays (s next : State) : Type 0 where
  pub scl : next.scl.probe ≡ s.scl.probe
  pub sda : next.sda.probe ≡ s.sda.probe
  pub written : IsWritten s.time → IsWritten next.time

stays_of_front : (front : List Sample) (s : State) (said : Run) (p : State × List Sample) → with_front front said ≡ Ok p → ((q : State × List Sample) → said ≡ Ok q → Stays s q.0) → Stays s p.0
stays_of_front front s (Ok q) p is each =
    let same : q.0 ≡ p.0 = cc in
    let P : State → Type 0 = λ t. Stays s t in
    subst P same (each q refl)
stays_of_front front s (Err refusal) p is each = absurd cc

stays_by : (s : State) (token : Token) (tokens : List Token) (p : State × List Sample) (result : Step) → Says s token.bytes token.line result →
    ((next : State) (q : State × List Sample) → run next tokens ≡ Ok q → Stays next q.0) → and_then result (λ next. run next tokens) ≡ Ok p → Stays s p.0
stays_by s token tokens p (Ok q) keeps each is =
    stays_of_front (option_to_list q.1) s (run q.0 tokens) p is
    (λ r of_rest.
    let later = each q.0 r of_rest in
    record { scl = later.scl ∙ keeps.scl_probe; sda = later.sda ∙ keeps.sda_probe; written = λ written. later.written (keeps.written written) })
stays_by s token tokens p (Err refusal) keeps each is = absurd cc

pub stays_along : (tokens : List Token) (s : State) (p : State × List Sample) → run s tokens ≡ Ok p → Stays s p.0
stays_along [] s p is =
    let same : s ≡ p.0 = cc in
    let P : State → Type 0 = λ t. Stays s t in
    subst P same (record { scl = refl; sda = refl; written = λ written. written })
stays_along (token ∷ tokens) s p is = stays_by s token tokens p (step s token.bytes token.line) (says s token.bytes token.line) (stays_along tokens) is

-- ---- nothing is accepted after `$enddefinitions` without a signal

in_ending : (context : Context) (s : State) (token : List ℕ) (line : ℕ) → IsEnding context → token_in context s token line ≡ stays (inside_end_definitions s token)
in_ending inside.Nothing s token line ending = absurd ending
in_ending (inside.Skipped began) s token line ending = absurd ending
in_ending (inside.Var began so_far) s token line ending = absurd ending
in_ending (inside.EndDefinitions began) s token line ending = refl
in_ending (inside.Change began level) s token line ending = absurd ending

step_ending : (s : State) (token : List ℕ) (line : ℕ) → IsEnding s.context → step s token line ≡ stays (inside_end_definitions s token)
unfolding step
step_ending s token line ending = in_ending s.context s token line ending

definitions_end-missing : (s : State) (signal : Signal) → missing s ≡ Some signal → definitions_end s ≡ Err (NoSignal signal)
definitions_end-missing s signal none = rw (none, definitions_end) refl

lost_by : (s : State) (token : List ℕ) (lost : Lost s) (test : Bool) → is_end token ≡ test →
    (stays (inside_end_definitions s token) ≡ Ok (s, None)) ⊎ (stays (inside_end_definitions s token) ≡ Err (NoSignal lost.signal))
lost_by s token lost true is = inr (rw is (ap stays (definitions_end-missing s lost.signal lost.none)))
lost_by s token lost false is = inl (rw is refl)

-- the state stays, or the refusal comes
pub lost_step : (s : State) (token : List ℕ) (line : ℕ) (lost : Lost s) → (step s token line ≡ Ok (s, None)) ⊎ (step s token line ≡ Err (NoSignal lost.signal))
lost_step s token line lost =
    let P : Step → Type 0 = λ result. (result ≡ Ok (s, None)) ⊎ (result ≡ Err (NoSignal lost.signal)) in
    subst P (sym (step_ending s token line lost.ending)) (lost_by s token lost (is_end token) refl)

open_by : (s : State) (block : Option ℕ) (context : Context) → s.block ≡ block → s.context ≡ context → IsEnding context → (line : ℕ) × (open_line s ≡ Some line)
open_by s (Some line) context is_block is_context ending = (line, rw (is_block, open_line) refl)
open_by s None (inside.EndDefinitions began) is_block is_context ending = (began, rw (is_block, is_context, open_line) refl)
open_by s None inside.Nothing is_block is_context ending = absurd ending
open_by s None (inside.Skipped began) is_block is_context ending = absurd ending
open_by s None (inside.Var began so_far) is_block is_context ending = absurd ending
open_by s None (inside.Change began level) is_block is_context ending = absurd ending

at_end-open : (s : State) (line : ℕ) → open_line s ≡ Some line → at_end s ≡ Err (Unended line)
at_end-open s line is = rw (is, at_end) refl

pub never_accepted : (tokens : List Token) (s : State) → Lost s → Accepts (run s tokens) → ⊥
never_accepted [] s lost accepted =
    let left = open_by s s.block s.context refl refl lost.ending in
    let h = rw (at_end-open s left.0 left.1) at accepted.1 in
    cc
never_accepted (token ∷ tokens) s lost accepted =
    let next = accepts_step (step s token.bytes token.line) (λ t. run t tokens) accepted in
    elim (lost_step s token.bytes token.line lost) [
      | inl stays ↦
          let same : s ≡ next.0.0 = ap (λ q. q.0) (let h : (s, None) ≡ next.0 = cc in h) in
          let P : State → Type 0 = λ t. Accepts (run t tokens) in
          never_accepted tokens s lost (subst P (sym same) next.2)
      | inr refused ↦ cc
    ]

-- the refusal comes with its `$end`, or at the end of the text
pub late : (tokens : List Token) (s : State) → Lost s → IsLate (ended (run s tokens))
late [] s lost =
    let left = open_by s s.block s.context refl refl lost.ending in
    inr (left.0, ap (with_last []) (at_end-open s left.0 left.1))
late (token ∷ tokens) s lost =
    elim (lost_step s token.bytes token.line lost) [
      | inl stays ↦
          let P : Run → Type 0 = λ said. IsLate (ended said) in
          subst P (sym (run_token s s token tokens stays)) (late tokens s lost)
      | inr refused ↦ inl (lost.signal, ap (λ result. ended (and_then result (λ next. run next tokens))) refused)
    ]

-- ---- which refusals come at the end

abbrev pub OfToken : Refusal → Type 0
OfToken (BadToken line) = Unit {0}
OfToken (TimeBack line) = Unit {0}
OfToken _ = ⊥

pub not_of_token : (refusal other : Refusal) → other ≡ refusal → OfToken refusal → OfToken other
not_of_token refusal other same of = let P : Refusal → Type 0 = λ r. OfToken r in subst P (sym same) of

at_end_by : (s : State) (refusal : Refusal) (o : Option ℕ) (defined : Bool) (m : Option Signal) → open_line s ≡ o → s.defined ≡ defined → missing s ≡ m → OfToken refusal → at_end s ≡ Err refusal → ⊥
at_end_by s refusal (Some line) defined m is_open is_defined is_missing of is =
    let h = rw (is_open, at_end) at is in not_of_token refusal (Unended line) (cc) of
at_end_by s refusal None true m is_open is_defined is_missing of is = let h = rw (is_open, at_end, is_defined) at is in cc
at_end_by s refusal None false (Some signal) is_open is_defined is_missing of is =
    let h = rw (is_open, at_end, is_defined, is_missing) at is in not_of_token refusal (NoSignal signal) (cc) of
at_end_by s refusal None false None is_open is_defined is_missing of is = let h = rw (is_open, at_end, is_defined, is_missing) at is in cc

of_last : (samples : List Sample) (last : Result (Option Sample) Refusal) (refusal : Refusal) → with_last samples last ≡ Err refusal → last ≡ Err refusal
of_last samples (Ok sample) refusal is = absurd cc
of_last samples (Err other) refusal is = cc

pub refused_within : (said : Run) (refusal : Refusal) → OfToken refusal → ended said ≡ Err refusal → said ≡ Err refusal
refused_within (Ok p) refusal of is =
    absurd (at_end_by p.0 refusal (open_line p.0) p.0.defined (missing p.0) refl refl refl of (of_last p.1 (at_end p.0) refusal is))
refused_within (Err other) refusal of is = cc
