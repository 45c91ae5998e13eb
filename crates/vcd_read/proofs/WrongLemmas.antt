-- The token that is refused is the first with which no accepted dump goes on.
use Rattle.std.proofs.Common.{◌≡◌, ℕ, ◌⊎◌, inl, inr, Bool, true, false, ◌==◌, List, [], ◌∷◌, ◌++◌, Some, None, Result, Ok, Err, refl, ap, sym, ◌∙◌, subst, append_assoc, codes}
use Rattle.std.specs.Prelude.{if◌then◌else◌, option_to_list}
use Rattle.std.specs.Str.{bytes_eq}
use Rattle.std.proofs.lemmas.Slice.Eq.{bytes_eq-Decides}
use Rattle.vcd_read.specs.declared.dumps.Context.{Context}
use Rattle.vcd_read.specs.declared.dumps.Context.TheVariants as inside
use Rattle.vcd_read.specs.declared.errors.Refusal.{Refusal}
use Rattle.vcd_read.specs.declared.errors.Refusal.TheVariants.{NoSignal, BadToken, TimeBack, Unended}
use Rattle.vcd_read.specs.declared.samples.Sample.{Sample}
use Rattle.vcd_read.specs.declared.words.Command.{Command}
use Rattle.vcd_read.specs.declared.words.Command.TheVariants.{Var, EndDefinitions, Changes, End, Other}
use Rattle.vcd_read.specs.Beginnings.{CanBe, Begins, FirstWrong, IsLate, IsTime, IsOtherTime, HasBadToken, HasTimeBack}
use Rattle.vcd_read.specs.Changes.{Step, stays, change, time_change}
use Rattle.vcd_read.specs.Definitions.{definition, opened}
use Rattle.vcd_read.specs.Dumps.{Run, outside, token_in, step, run, with_front, ended, samples_of}
use Rattle.vcd_read.specs.Grammar.{Spells}
use Rattle.vcd_read.specs.Probes.{Finder}
use Rattle.vcd_read.specs.Runs.{AreRuns}
use Rattle.vcd_read.specs.States.{State, state_at_first}
use Rattle.vcd_read.specs.Tokens.{Token, tokens_of}
use Rattle.vcd_read.specs.Words.{named_command, command_of, time_of}
use Rattle.vcd_read.proofs.ClosingLemmas.{Closes, with_word, closes_or_lost}
use Rattle.vcd_read.proofs.NameLemmas.{names}
use Rattle.vcd_read.proofs.ReachLemmas.{run_after, refused_after, refused_then, read_then, Split, split, stays_along, lost_step, never_accepted, late, OfToken, not_of_token, refused_within}
use Rattle.vcd_read.proofs.RunsLemmas.{are_runs}
use Rattle.vcd_read.proofs.SpelledChanges.{Accepts, rest_ok}
use Rattle.vcd_read.proofs.SpelledDumps.{spelled, accepted}
use Rattle.vcd_read.proofs.StampLemmas.{in_front, ended-front, same_time}
use Rattle.vcd_read.proofs.StepLemmas.{IsWritten, Lost, IsAt, Says, says}
use Rattle.vcd_read.proofs.TextLemmas.{IsWord, text_of, on_line, tokens_of-words, front_of}
use Rattle.vcd_read.proofs.WordLemmas.{time_is_code, code_is_one_token}

-- ---- what an accepted dump begins with

-- these tokens leave this state, which is not lost
pub record Reaches (scl sda : Finder) (tokens : List Token) : Type 0 where
  pub reached : State × List Sample
  pub is : run (state_at_first scl sda) tokens ≡ Ok reached
  pub going : Lost reached.0 → ⊥

accepted_rest : (front : List Sample) (said : Run) (samples : List Sample) → ended (with_front front said) ≡ Ok samples → Accepts said
accepted_rest front said samples is = rest_ok front (ended said) samples (sym (ended-front front said) ∙ is)

reaches_by : (scl sda : Finder) (tokens more : List Token) (samples : List Sample) (said : Run) → run (state_at_first scl sda) tokens ≡ said → ended (run (state_at_first scl sda) (tokens ++ more)) ≡ Ok samples →
    Reaches scl sda tokens
reaches_by scl sda tokens more samples (Ok p) is accepts = record {
  reached = p;
  is = is;
  going = λ lost.
      never_accepted more p.0 lost (accepted_rest p.1 (run p.0 more) samples (ap ended (sym (run_after tokens more (state_at_first scl sda) p is)) ∙ accepts));
}
reaches_by scl sda tokens more samples (Err refusal) is accepts =
    let h = ap ended (sym (refused_after tokens more (state_at_first scl sda) refusal is)) ∙ accepts in absurd cc

reaches : (scl sda : Finder) (tokens : List Token) → Begins scl sda tokens → Reaches scl sda tokens
reaches scl sda tokens b =
    let accepts = accepted scl sda b.text b.samples b.spelled in
    reaches_by scl sda tokens b.more b.samples (run (state_at_first scl sda) tokens) refl (ap (λ t. ended (run (state_at_first scl sda) t)) (sym b.begun) ∙ accepts)

-- ---- accepted dumps

-- some accepted dump begins with these tokens and goes on by these words
pub record Goes (scl sda : Finder) (tokens : List Token) (words : List (List ℕ)) : Type 0 where
  pub text : List ℕ
  pub line : ℕ
  pub samples : List Sample
  pub spelled : Spells scl sda (tokens_of 1 text) samples
  pub begun : tokens_of 1 text ≡ tokens ++ on_line line words

goes : (scl sda : Finder) (text : List ℕ) (tokens rest : List Token) (p : State × List Sample) → tokens_of 1 text ≡ tokens ++ rest → run (state_at_first scl sda) tokens ≡ Ok p → (c : Closes (λ line. p.0)) → Goes scl sda tokens c.words
goes scl sda text tokens rest p stands is c =
    let P : List Token → Type 0 = λ t. AreRuns 1 text t in
    let f = front_of tokens rest 1 text (subst P stands (are_runs text 1)) in
    let whole = f.text ++ text_of c.words in
    let more = on_line f.next c.words in
    let begun : tokens_of 1 whole ≡ tokens ++ more = f.is (text_of c.words) ∙ ap (λ t. tokens ++ t) (tokens_of-words c.words f.next c.are) in
    let accepts = c.accepted f.next in
    let samples = p.1 ++ accepts.0 in
    let is_accepted : samples_of scl sda whole ≡ Ok samples =
    ap (λ t. ended (run (state_at_first scl sda) t)) begun
    ∙ ap ended (run_after tokens more (state_at_first scl sda) p is)
    ∙ ended-front p.1 (run p.0 more)
    ∙ ap (in_front p.1) accepts.1 in
    record { text = whole; line = f.next; samples = samples; spelled = spelled scl sda whole samples is_accepted; begun = begun }

begins : (scl sda : Finder) (tokens : List Token) (words : List (List ℕ)) → Goes scl sda tokens words → Begins scl sda tokens
begins scl sda tokens words g = record { text = g.text; samples = g.samples; spelled = g.spelled; more = on_line g.line words; begun = g.begun }

begins_with : (scl sda : Finder) (tokens : List Token) (word : List ℕ) (words : List (List ℕ)) → (g : Goes scl sda tokens (word ∷ words)) → Begins scl sda (tokens ++ (record { bytes = word; line = g.line } ∷ []))
begins_with scl sda tokens word words g =
    let token : Token = record { bytes = word; line = g.line } in
    record {
      text = g.text;
      samples = g.samples;
      spelled = g.spelled;
      more = on_line g.line words;
      begun = g.begun ∙ sym (append_assoc tokens (token ∷ []) (on_line g.line words));
    }

-- no accepted dump goes on with a token that is refused
not_right : (scl sda : Finder) (tokens : List Token) (token : Token) (p : State × List Sample) (refusal : Refusal) → run (state_at_first scl sda) tokens ≡ Ok p → step p.0 token.bytes token.line ≡ Err refusal →
    Begins scl sda (tokens ++ (token ∷ [])) → ⊥
not_right scl sda tokens token p refusal is steps b =
    let r = reaches scl sda (tokens ++ (token ∷ [])) b in
    let h = sym (refused_then tokens token [] (state_at_first scl sda) p refusal is steps) ∙ r.is in
    cc

can_close : (scl sda : Finder) (tokens : List Token) (p : State × List Sample) → CanBe scl → CanBe sda → run (state_at_first scl sda) tokens ≡ Ok p → Closes (λ line. p.0) ⊎ Lost p.0
can_close scl sda tokens p of_scl of_sda is =
    let s = stays_along tokens (state_at_first scl sda) p is in
    let P : Finder → Type 0 = λ probe. CanBe probe in
    closes_or_lost p.0 (subst P (sym s.scl) of_scl) (subst P (sym s.sda) of_sda)

-- ---- times

step_at : (s : State) (token : List ℕ) (line : ℕ) → s.context ≡ inside.Nothing → step s token line ≡ outside s token line
unfolding step
step_at s token line place = ap (λ c. token_in c s token line) place

outside_at : (s : State) (token : List ℕ) (line : ℕ) (defined : Bool) → IsAt s defined → step s token line ≡ (if defined then change s token line else stays (definition s token line))
outside_at s token line defined at =
    step_at s token line at.place ∙ ap (λ test. if test then change s token line else stays (definition s token line)) at.part

-- a time among the definitions
time_too_soon : (s : State) (token : List ℕ) (line : ℕ) → IsAt s false → IsTime token → step s token line ≡ Err (BadToken line)
time_too_soon s token line at time =
    outside_at s token line false at ∙ ap (λ t. stays (opened line s (command_of t))) time.spelled

-- the last time once more
time_again : (s : State) (digits : List ℕ) (line : ℕ) → IsAt s true → time_of digits ≡ Some s.time → step s (35 ∷ digits) line ≡ Ok (s, None)
time_again s digits line at is =
    outside_at s (35 ∷ digits) line true at ∙ ap (λ o. time_change s o line) is ∙ same_time s line

first_written : IsWritten 0
first_written = record { digits = codes "0"; is = refl }

time_word : (digits : List ℕ) (time : ℕ) → time_of digits ≡ Some time → IsWord (35 ∷ digits)
time_word digits time is = record { some = refl; one_token = code_is_one_token (35 ∷ digits) (time_is_code digits time is) }

-- where changes stand, the last time can stand
other_time : (scl sda : Finder) (text : List ℕ) (tokens rest : List Token) (token : Token) (p : State × List Sample) → tokens_of 1 text ≡ tokens ++ rest → run (state_at_first scl sda) tokens ≡ Ok p → Closes (λ line. p.0) →
    IsTime token.bytes → IsAt p.0 true → IsOtherTime scl sda tokens token
other_time scl sda text tokens rest token p stands is c time at =
    let last = (stays_along tokens (state_at_first scl sda) p is).written first_written in
    let word = 35 ∷ last.digits in
    let again = with_word (λ line. p.0) (λ line. p.0) word (time_word last.digits p.0.time last.is) (λ line. time_again p.0 last.digits line at last.is) c in
    let g : Goes scl sda tokens (word ∷ c.words) = goes scl sda text tokens rest p stands is again in
    record {
      is = time;
      other = record { bytes = word; line = g.line };
      other_is = record { digits = last.digits; time = p.0.time; spelled = refl; is = last.is };
      right = begins_with scl sda tokens word c.words g;
    }

no_other_time : (scl sda : Finder) (tokens : List Token) (token : Token) (p : State × List Sample) → run (state_at_first scl sda) tokens ≡ Ok p → (IsTime token.bytes → IsAt p.0 false) →
    IsOtherTime scl sda tokens token → ⊥
no_other_time scl sda tokens token p is at o =
    not_right scl sda tokens o.other p (BadToken o.other.line) is (time_too_soon p.0 o.other.bytes o.other.line (at o.is) o.other_is) o.right

-- ---- `$enddefinitions` is never refused

abbrev IsOk : Step → Type 0
IsOk (Ok p) = Unit {0}
IsOk (Err refusal) = ⊥

ok_either : (test : Bool) (x y : Step) → IsOk x → IsOk y → IsOk (if test then x else y)
ok_either true x y of_x of_y = of_x
ok_either false x y of_x of_y = of_y

abbrev ending_word : List ℕ
ending_word = codes "$enddefinitions"

ok_in : (context : Context) (s : State) (line : ℕ) → IsOk (token_in context s ending_word line)
ok_in inside.Nothing s line = ok_either s.defined (change s ending_word line) (stays (definition s ending_word line)) tt tt
ok_in (inside.Skipped began) s line = tt
ok_in (inside.Var began so_far) s line = tt
ok_in (inside.EndDefinitions began) s line = tt
ok_in (inside.Change began None) s line = tt
ok_in (inside.Change began (Some level)) s line = tt

ok_step : (s : State) (line : ℕ) → IsOk (step s ending_word line)
unfolding step
ok_step s line = ok_in s.context s line

named_by : (a b c d e f g : Bool) → (if a then End else if b then Var else if c then EndDefinitions else if d then Changes else if e then Changes else if f then Changes else if g then Changes else Other) ≡ EndDefinitions → c ≡ true
named_by a b true d e f g is = refl
named_by true b false d e f g is = absurd cc
named_by false true false d e f g is = absurd cc
named_by false false false true e f g is = absurd cc
named_by false false false false true f g is = absurd cc
named_by false false false false false true g is = absurd cc
named_by false false false false false false true is = absurd cc
named_by false false false false false false false is = absurd cc

command_in : (test : Bool) (command : Command) → (if test then Some command else None) ≡ Some EndDefinitions → command ≡ EndDefinitions
command_in true command is = cc
command_in false command is = absurd cc

is_ending_word : (token : List ℕ) → command_of token ≡ Some EndDefinitions → token ≡ ending_word
is_ending_word [] is = absurd cc
is_ending_word (first ∷ rest) is =
    let token = first ∷ rest in
    let named = command_in (first == 36) (named_command token) is in
    (bytes_eq-Decides token ending_word).0
    (named_by (bytes_eq token (codes "$end")) (bytes_eq token (codes "$var")) (bytes_eq token ending_word)
    (bytes_eq token (codes "$dumpvars")) (bytes_eq token (codes "$dumpall")) (bytes_eq token (codes "$dumpoff")) (bytes_eq token (codes "$dumpon")) named)

ok_not_refused : (result : Step) (refusal : Refusal) → IsOk result → result ≡ Err refusal → ⊥
ok_not_refused (Ok p) refusal ok is = cc
ok_not_refused (Err other) refusal ok is = ok

never_refused : (s : State) (token : List ℕ) (line : ℕ) (refusal : Refusal) → command_of token ≡ Some EndDefinitions → step s token line ≡ Err refusal → ⊥
never_refused s token line refusal is steps =
    ok_not_refused (step s ending_word line) refusal (ok_step s line) (ap (λ t. step s t line) (sym (is_ending_word token is)) ∙ steps)

-- ---- a refused token is the first wrong one

refused_run : (scl sda : Finder) (text : List ℕ) (refusal : Refusal) → OfToken refusal → samples_of scl sda text ≡ Err refusal → Split (state_at_first scl sda) (tokens_of 1 text) refusal
refused_run scl sda text refusal of is =
    split (tokens_of 1 text) (state_at_first scl sda) refusal (refused_within (run (state_at_first scl sda) (tokens_of 1 text)) refusal of is)

abbrev SplitOf : (scl sda : Finder) (text : List ℕ) → Refusal → Type 0
SplitOf scl sda text refusal = Split (state_at_first scl sda) (tokens_of 1 text) refusal

-- a state in which a token is refused as V2 or V3 is not lost
not_lost : (s : State) (token : List ℕ) (line : ℕ) (refusal : Refusal) → OfToken refusal → step s token line ≡ Err refusal → Lost s → ⊥
not_lost s token line refusal of steps lost =
    elim (lost_step s token line lost) [
      | inl stays ↦ let h = sym stays ∙ steps in cc
      | inr refused ↦ not_of_token refusal (NoSignal lost.signal) (let h = sym refused ∙ steps in cc) of
    ]

abbrev first_wrong : (scl sda : Finder) (text : List ℕ) (refusal : Refusal) (sp : SplitOf scl sda text refusal) → Closes (λ line. sp.reached.0) → FirstWrong scl sda (tokens_of 1 text) sp.token
first_wrong scl sda text refusal sp c = record {
  before = sp.before;
  rest = sp.rest;
  stands = sp.stands;
  right = begins scl sda sp.before c.words (goes scl sda text sp.before (sp.token ∷ sp.rest) sp.reached sp.stands sp.is c);
  wrong = not_right scl sda sp.before sp.token sp.reached refusal sp.is sp.steps;
}

says_refused : (s : State) (token : Token) (refusal : Refusal) → step s token.bytes token.line ≡ Err refusal → Says s token.bytes token.line (Err refusal)
says_refused s token refusal steps =
    let P : Step → Type 0 = λ result. Says s token.bytes token.line result in
    subst P steps (says s token.bytes token.line)

bad_by : (scl sda : Finder) (text : List ℕ) (line : ℕ) (sp : SplitOf scl sda text (BadToken line)) → Closes (λ l. sp.reached.0) ⊎ Lost sp.reached.0 → HasBadToken scl sda (tokens_of 1 text) line
bad_by scl sda text line sp (inr lost) = absurd (not_lost sp.reached.0 sp.token.bytes sp.token.line (BadToken line) tt sp.steps lost)
bad_by scl sda text line sp (inl c) =
    let at = says_refused sp.reached.0 sp.token (BadToken line) sp.steps in
    record {
      token = sp.token;
      first = first_wrong scl sda text (BadToken line) sp c;
      on = sym at.0;
      no_time = no_other_time scl sda sp.before sp.token sp.reached sp.is at.1;
      no_end = λ is. never_refused sp.reached.0 sp.token.bytes sp.token.line (BadToken line) is sp.steps;
    }

pub bad : (scl sda : Finder) (text : List ℕ) (line : ℕ) → CanBe scl → CanBe sda → samples_of scl sda text ≡ Err (BadToken line) → HasBadToken scl sda (tokens_of 1 text) line
bad scl sda text line of_scl of_sda is =
    let sp = refused_run scl sda text (BadToken line) tt is in
    bad_by scl sda text line sp (can_close scl sda sp.before sp.reached of_scl of_sda sp.is)

back_by : (scl sda : Finder) (text : List ℕ) (line : ℕ) (sp : SplitOf scl sda text (TimeBack line)) → Closes (λ l. sp.reached.0) ⊎ Lost sp.reached.0 → HasTimeBack scl sda (tokens_of 1 text) line
back_by scl sda text line sp (inr lost) = absurd (not_lost sp.reached.0 sp.token.bytes sp.token.line (TimeBack line) tt sp.steps lost)
back_by scl sda text line sp (inl c) =
    let at = says_refused sp.reached.0 sp.token (TimeBack line) sp.steps in
    record {
      token = sp.token;
      first = first_wrong scl sda text (TimeBack line) sp c;
      on = sym at.0;
      time = other_time scl sda text sp.before (sp.token ∷ sp.rest) sp.token sp.reached sp.stands sp.is c at.1 at.2;
    }

pub back : (scl sda : Finder) (text : List ℕ) (line : ℕ) → CanBe scl → CanBe sda → samples_of scl sda text ≡ Err (TimeBack line) → HasTimeBack scl sda (tokens_of 1 text) line
back scl sda text line of_scl of_sda is =
    let sp = refused_run scl sda text (TimeBack line) tt is in
    back_by scl sda text line sp (can_close scl sda sp.before sp.reached of_scl of_sda sp.is)

-- ---- the first wrong token is refused

-- it is refused on its line
pub record Blamed (scl sda : Finder) (text : List ℕ) (s : State) (token : Token) : Type 0 where
  pub refusal : Refusal
  pub of : OfToken refusal
  pub steps : step s token.bytes token.line ≡ Err refusal
  pub is : samples_of scl sda text ≡ Err refusal

late_after : (front : List Sample) (rest : Result (List Sample) Refusal) → IsLate rest → IsLate (in_front front rest)
late_after front rest (inl missing) = inl (missing.0, ap (in_front front) missing.1)
late_after front rest (inr unended) = inr (unended.0, ap (in_front front) unended.1)

late_dump : (scl sda : Finder) (text : List ℕ) (tokens rest : List Token) (p : State × List Sample) → tokens_of 1 text ≡ tokens ++ rest → run (state_at_first scl sda) tokens ≡ Ok p → Lost p.0 → IsLate (samples_of scl sda text)
late_dump scl sda text tokens rest p stands is lost =
    let P : Result (List Sample) Refusal → Type 0 = λ answer. IsLate answer in
    let same : samples_of scl sda text ≡ in_front p.1 (ended (run p.0 rest)) =
    ap (λ t. ended (run (state_at_first scl sda) t)) stands ∙ ap ended (run_after tokens rest (state_at_first scl sda) p is) ∙ ended-front p.1 (run p.0 rest) in
    subst P (sym same) (late_after p.1 (ended (run p.0 rest)) (late rest p.0 lost))

-- it is `$enddefinitions`
abbrev EndsLate : (scl sda : Finder) (text : List ℕ) → Token → Type 0
EndsLate scl sda text token = (command_of token.bytes ≡ Some EndDefinitions) × IsLate (samples_of scl sda text)

blamed_by : (scl sda : Finder) (text : List ℕ) (token : Token) (w : FirstWrong scl sda (tokens_of 1 text) token) (r : Reaches scl sda w.before) → CanBe scl → CanBe sda → (result : Step) →
    step r.reached.0 token.bytes token.line ≡ result → Says r.reached.0 token.bytes token.line result → Blamed scl sda text r.reached.0 token ⊎ EndsLate scl sda text token
blamed_by scl sda text token w r of_scl of_sda (Err (NoSignal signal)) steps lost = absurd (r.going lost)
blamed_by scl sda text token w r of_scl of_sda (Err (Unended line)) steps at = absurd at
blamed_by scl sda text token w r of_scl of_sda (Err (BadToken line)) steps at =
    inl (record { refusal = BadToken line; of = tt; steps = steps; is = ap (λ t. ended (run (state_at_first scl sda) t)) w.stands ∙ ap ended (refused_then w.before token w.rest (state_at_first scl sda) r.reached (BadToken line) r.is steps) })
blamed_by scl sda text token w r of_scl of_sda (Err (TimeBack line)) steps at =
    inl (record { refusal = TimeBack line; of = tt; steps = steps; is = ap (λ t. ended (run (state_at_first scl sda) t)) w.stands ∙ ap ended (refused_then w.before token w.rest (state_at_first scl sda) r.reached (TimeBack line) r.is steps) })
blamed_by scl sda text token w r of_scl of_sda (Ok q) steps keeps =
    let tokens = w.before ++ (token ∷ []) in
    let stands : tokens_of 1 text ≡ tokens ++ w.rest = w.stands ∙ sym (append_assoc w.before (token ∷ []) w.rest) in
    let is = read_then w.before token (state_at_first scl sda) r.reached q r.is steps in
    let p : State × List Sample = (q.0, r.reached.1 ++ (option_to_list q.1 ++ [])) in
    elim (can_close scl sda tokens p of_scl of_sda is) [
      | inl c ↦ absurd (w.wrong (begins scl sda tokens c.words (goes scl sda text tokens w.rest p stands is c)))
      | inr lost ↦ elim (keeps.lost lost) [
        | inl before ↦ absurd (r.going before)
        | inr ending ↦ inr (ending, late_dump scl sda text tokens w.rest p stands is lost)
      ]
    ]

blamed : (scl sda : Finder) (text : List ℕ) (token : Token) (w : FirstWrong scl sda (tokens_of 1 text) token) (r : Reaches scl sda w.before) → Blamed scl sda text r.reached.0 token ⊎ EndsLate scl sda text token
blamed scl sda text token w r =
    let of = names scl sda w.right.text w.right.samples w.right.spelled in
    blamed_by scl sda text token w r of.0 of.1 (step r.reached.0 token.bytes token.line) refl (says r.reached.0 token.bytes token.line)

-- where the state is not lost, it can close
closes : (scl sda : Finder) (text : List ℕ) (token : Token) (w : FirstWrong scl sda (tokens_of 1 text) token) (r : Reaches scl sda w.before) → Closes (λ line. r.reached.0)
closes scl sda text token w r =
    let of = names scl sda w.right.text w.right.samples w.right.spelled in
    elim (can_close scl sda w.before r.reached of.0 of.1 r.is) [
      | inl c ↦ c
      | inr lost ↦ absurd (r.going lost)
    ]

bad_from : (scl sda : Finder) (text : List ℕ) (line : ℕ) (h : HasBadToken scl sda (tokens_of 1 text) line) (r : Reaches scl sda h.first.before) (refusal : Refusal) → OfToken refusal →
    step r.reached.0 h.token.bytes h.token.line ≡ Err refusal → samples_of scl sda text ≡ Err refusal → samples_of scl sda text ≡ Err (BadToken line)
bad_from scl sda text line h r (BadToken on) of steps is =
    let at = says_refused r.reached.0 h.token (BadToken on) steps in
    is ∙ ap (λ l. Err (BadToken l)) (at.0 ∙ h.on)
bad_from scl sda text line h r (TimeBack on) of steps is =
    let at = says_refused r.reached.0 h.token (TimeBack on) steps in
    absurd (h.no_time (other_time scl sda text h.first.before (h.token ∷ h.first.rest) h.token r.reached h.first.stands r.is (closes scl sda text h.token h.first r) at.1 at.2))
bad_from scl sda text line h r (NoSignal signal) of steps is = absurd of
bad_from scl sda text line h r (Unended on) of steps is = absurd of

pub bad_is_refused : (scl sda : Finder) (text : List ℕ) (line : ℕ) → HasBadToken scl sda (tokens_of 1 text) line → samples_of scl sda text ≡ Err (BadToken line)
bad_is_refused scl sda text line h =
    let r = reaches scl sda h.first.before h.first.right in
    elim (blamed scl sda text h.token h.first r) [
      | inl b ↦ bad_from scl sda text line h r b.refusal b.of b.steps b.is
      | inr ending ↦ absurd (h.no_end ending.0)
    ]

back_from : (scl sda : Finder) (text : List ℕ) (line : ℕ) (h : HasTimeBack scl sda (tokens_of 1 text) line) (r : Reaches scl sda h.first.before) (refusal : Refusal) → OfToken refusal →
    step r.reached.0 h.token.bytes h.token.line ≡ Err refusal → samples_of scl sda text ≡ Err refusal → samples_of scl sda text ≡ Err (TimeBack line)
back_from scl sda text line h r (BadToken on) of steps is =
    let at = says_refused r.reached.0 h.token (BadToken on) steps in
    absurd (no_other_time scl sda h.first.before h.token r.reached r.is at.1 h.time)
back_from scl sda text line h r (TimeBack on) of steps is =
    let at = says_refused r.reached.0 h.token (TimeBack on) steps in
    is ∙ ap (λ l. Err (TimeBack l)) (at.0 ∙ h.on)
back_from scl sda text line h r (NoSignal signal) of steps is = absurd of
back_from scl sda text line h r (Unended on) of steps is = absurd of

time_is_no_end : (token : List ℕ) → IsTime token → command_of token ≡ Some EndDefinitions → ⊥
time_is_no_end token time is = let h = ap command_of (sym time.spelled) ∙ is in cc

pub back_is_refused : (scl sda : Finder) (text : List ℕ) (line : ℕ) → HasTimeBack scl sda (tokens_of 1 text) line → samples_of scl sda text ≡ Err (TimeBack line)
back_is_refused scl sda text line h =
    let r = reaches scl sda h.first.before h.first.right in
    elim (blamed scl sda text h.token h.first r) [
      | inl b ↦ back_from scl sda text line h r b.refusal b.of b.steps b.is
      | inr ending ↦ absurd (time_is_no_end h.token.bytes h.time.is ending.0)
    ]

pub ending : (scl sda : Finder) (text : List ℕ) (token : Token) → FirstWrong scl sda (tokens_of 1 text) token → command_of token.bytes ≡ Some EndDefinitions → IsLate (samples_of scl sda text)
ending scl sda text token w is =
    let r = reaches scl sda w.before w.right in
    elim (blamed scl sda text token w r) [
      | inl b ↦ absurd (never_refused r.reached.0 token.bytes token.line b.refusal is b.steps)
      | inr late ↦ late.1
    ]
