-- What each token leaves as it was, and which refusals it can have.
use Rattle.std.proofs.Common.{◌≡◌, ℕ, ◌⊎◌, inl, inr, Bool, true, false, ◌&&◌, ◌||◌, ◌==◌, nat_lt, List, [], ◌∷◌, Option, Some, None, Result, Ok, Err, refl, ap, sym, ◌∙◌, codes}
use Rattle.std.specs.Prelude.{if◌then◌else◌}
use Rattle.std.specs.Str.{bytes_eq}
use Rattle.std.proofs.lemmas.Bool.{eqb-true}
use Rattle.std.proofs.lemmas.Slice.Eq.{bytes_eq-Decides}
use Rattle.vcd_read.specs.declared.dumps.Context.{Context}
use Rattle.vcd_read.specs.declared.dumps.Context.TheVariants as inside
use Rattle.vcd_read.specs.declared.dumps.Levels.{Levels}
use Rattle.vcd_read.specs.declared.dumps.Seen.{Seen}
use Rattle.vcd_read.specs.declared.dumps.Seen.TheVariants as seen
use Rattle.vcd_read.specs.declared.errors.Refusal.{Refusal}
use Rattle.vcd_read.specs.declared.errors.Refusal.TheVariants.{NoSignal, BadToken, TimeBack, Unended}
use Rattle.vcd_read.specs.declared.samples.Level.{Level}
use Rattle.run_errors.specs.declared.dumps.Signal.{Signal}
use Rattle.vcd_read.specs.declared.words.Command.{Command}
use Rattle.vcd_read.specs.declared.words.Command.TheVariants.{Var, EndDefinitions, Changes, End, Other}
use Rattle.vcd_read.specs.Beginnings.{IsTime}
use Rattle.vcd_read.specs.Changes.{Step, stays, settled, changed, both_changed, change_of_code, command_among_changes, time_change, vector_change, on_both, vector_levels, scalar_change, change}
use Rattle.vcd_read.specs.Definitions.{opened, named_by, declared, var_token, inside_var, missing, definitions_end, inside_end_definitions}
use Rattle.vcd_read.specs.Dumps.{outside, token_in, step}
use Rattle.vcd_read.specs.Probes.{declares}
use Rattle.vcd_read.specs.States.{Line, State}
use Rattle.vcd_read.specs.Words.{is_code, is_empty, is_end, command_of, level_of, time_of}
use Rattle.vcd_read.proofs.WordLemmas.{time_is_code}

-- ---- `$enddefinitions`

abbrev pub IsEnding : Context → Type 0
IsEnding (inside.EndDefinitions began) = Unit {0}
IsEnding _ = ⊥

abbrev pub IsElsewhere : Context → Type 0
IsElsewhere (inside.EndDefinitions began) = ⊥
IsElsewhere _ = Unit {0}

pub not_both : (context : Context) → IsElsewhere context → IsEnding context → ⊥
not_both inside.Nothing elsewhere ending = ending
not_both (inside.Skipped began) elsewhere ending = ending
not_both (inside.Var began so_far) elsewhere ending = ending
not_both (inside.EndDefinitions began) elsewhere ending = elsewhere
not_both (inside.Change began level) elsewhere ending = ending

-- `$enddefinitions` has come, and a signal is missing
pub record Lost (s : State) : Type 0 where
  pub ending : IsEnding s.context
  pub signal : Signal
  pub none : missing s ≡ Some signal

-- some digits write this time
pub record IsWritten (time : ℕ) : Type 0 where
  pub digits : List ℕ
  pub is : time_of digits ≡ Some time

-- the definitions have ended
pub record Past (s : State) : Type 0 where
  pub defined : s.defined ≡ true
  pub elsewhere : IsElsewhere s.context

-- ---- what each token leaves

pub record Keeps (s : State) (token : List ℕ) (next : State) : Type 0 where
  pub scl_probe : next.scl.probe ≡ s.scl.probe
  pub sda_probe : next.sda.probe ≡ s.sda.probe
  pub past : Past s → Past next
  pub lost : Lost next → Lost s ⊎ (command_of token ≡ Some EndDefinitions)
  pub written : IsWritten s.time → IsWritten next.time

-- no command is open, and the definitions have ended or not
pub record IsAt (s : State) (defined : Bool) : Type 0 where
  pub place : s.context ≡ inside.Nothing
  pub part : s.defined ≡ defined

-- what is said of a token on this line
abbrev pub Says : State → List ℕ → ℕ → Step → Type 0
Says s token line (Ok p) = Keeps s token p.0
Says s token line (Err (NoSignal signal)) = Lost s
Says s token line (Err (BadToken at)) = (at ≡ line) × (IsTime token → IsAt s false)
Says s token line (Err (TimeBack at)) = (at ≡ line) × IsTime token × IsAt s true
Says s token line (Err (Unended at)) = ⊥

keeps_all : (s : State) (token : List ℕ) → Keeps s token s
keeps_all s token = record { scl_probe = refl; sda_probe = refl; past = λ past. past; lost = λ lost. inl lost; written = λ written. written }

elsewhere_then : (s next : State) (token : List ℕ) → next.scl.probe ≡ s.scl.probe → next.sda.probe ≡ s.sda.probe → next.defined ≡ s.defined → IsElsewhere next.context → (IsWritten s.time → IsWritten next.time) → Keeps s token next
elsewhere_then s next token scl sda defined elsewhere written = record {
  scl_probe = scl;
  sda_probe = sda;
  past = λ past. record { defined = defined ∙ past.defined; elsewhere = elsewhere };
  lost = λ lost. absurd (not_both next.context elsewhere lost.ending);
  written = written;
}

in_context : (s : State) (token : List ℕ) (context : Context) → IsElsewhere context → Keeps s token (record s { context = context })
in_context s token context elsewhere = elsewhere_then s (record s { context = context }) token refl refl refl elsewhere (λ written. written)

says_either : (s : State) (token : List ℕ) (line : ℕ) (test : Bool) (x y : Step) → Says s token line x → Says s token line y → Says s token line (if test then x else y)
says_either s token line true x y of_x of_y = of_x
says_either s token line false x y of_x of_y = of_y

-- ---- definitions

bad : (s : State) (token : List ℕ) (line : ℕ) → (IsTime token → ⊥) → (line ≡ line) × (IsTime token → IsAt s false)
bad s token line not_time = (refl, λ time. absurd (not_time time))

says_opened : (s : State) (token : List ℕ) (line : ℕ) (o : Option Command) → command_of token ≡ o → IsAt s false → Says s token line (stays (opened line s o))
says_opened s token line (Some Var) is at = in_context s token (inside.Var line seen.Nothing) tt
says_opened s token line (Some EndDefinitions) is at = record {
  scl_probe = refl;
  sda_probe = refl;
  past = λ past. let h : true ≡ false = sym past.defined ∙ at.part in absurd cc;
  lost = λ lost. inr is;
  written = λ written. written;
}
says_opened s token line (Some Other) is at = in_context s token (inside.Skipped line) tt
says_opened s token line (Some Changes) is at = (refl, λ time. at)
says_opened s token line (Some End) is at = (refl, λ time. at)
says_opened s token line None is at = (refl, λ time. at)

same_probe : (test : Bool) (line : Line) (code : List ℕ) → (let l : Line = if test then record line { code = code } else line in l).probe ≡ line.probe
same_probe true line code = refl
same_probe false line code = refl

pub named-probe : (one_bit : Bool) (reference code : List ℕ) (line : Line) → (named_by one_bit reference code line).probe ≡ line.probe
named-probe one_bit reference code line = same_probe (is_empty line.code && declares line.probe one_bit reference code) line code

keeps_declared : (s : State) (token : List ℕ) (one_bit : Bool) (context : Context) → IsElsewhere context → Keeps s token (record (declared one_bit token s) { context = context })
keeps_declared s token one_bit context elsewhere =
    elsewhere_then s (record (declared one_bit token s) { context = context }) token (named-probe one_bit token s.code s.scl) (named-probe one_bit token s.code s.sda) refl elsewhere (λ written. written)

keeps_var : (s : State) (token : List ℕ) (began : ℕ) (so_far : Seen) → IsElsewhere s.context → Keeps s token (var_token began so_far s token)
keeps_var s token began seen.Nothing elsewhere = in_context s token (inside.Var began seen.Type) tt
keeps_var s token began seen.Type elsewhere = in_context s token _ tt
keeps_var s token began (seen.Size one_bit) elsewhere = elsewhere_then s (var_token began (seen.Size one_bit) s token) token refl refl refl tt (λ written. written)
keeps_var s token began (seen.Code one_bit) elsewhere = keeps_declared s token one_bit (inside.Var began seen.Reference) tt
keeps_var s token began seen.Reference elsewhere = keeps_all s token

end_is_no_time : (token : List ℕ) → is_end token ≡ true → IsTime token → ⊥
end_is_no_time token is time =
    let same : token ≡ codes "$end" = (bytes_eq-Decides token (codes "$end")).0 is in
    let h : codes "$end" ≡ 35 ∷ time.digits = sym same ∙ time.spelled in
    cc

says_var : (s : State) (token : List ℕ) (line began : ℕ) (so_far : Seen) (test : Bool) → is_end token ≡ test → IsElsewhere s.context → Says s token line (stays (inside_var began so_far s token line))
says_var s token line began so_far false is elsewhere = rw is (keeps_var s token began so_far elsewhere)
says_var s token line began seen.Reference true is elsewhere = rw is (in_context s token inside.Nothing tt)
says_var s token line began seen.Nothing true is elsewhere = rw is (bad s token line (end_is_no_time token is))
says_var s token line began seen.Type true is elsewhere = rw is (bad s token line (end_is_no_time token is))
says_var s token line began (seen.Size one_bit) true is elsewhere = rw is (bad s token line (end_is_no_time token is))
says_var s token line began (seen.Code one_bit) true is elsewhere = rw is (bad s token line (end_is_no_time token is))

abbrev end_by : State → Option Signal → Result State Refusal
end_by s (Some signal) = Err (NoSignal signal)
end_by s None = Ok (record s { context = inside.Nothing; defined = true })

says_missing : (s : State) (token : List ℕ) (line : ℕ) (o : Option Signal) → missing s ≡ o → IsEnding s.context → Says s token line (stays (end_by s o))
says_missing s token line (Some signal) is ending = record { ending = ending; signal = signal; none = is }
says_missing s token line None is ending = record {
  scl_probe = refl;
  sda_probe = refl;
  past = λ past. record { defined = refl; elsewhere = tt };
  lost = λ lost. absurd lost.ending;
  written = λ written. written;
}

says_definitions_end : (s : State) (token : List ℕ) (line : ℕ) → IsEnding s.context → Says s token line (stays (definitions_end s))
says_definitions_end s token line ending = says_missing s token line (missing s) refl ending

says_ending : (s : State) (token : List ℕ) (line : ℕ) (test : Bool) → is_end token ≡ test → IsEnding s.context → Says s token line (stays (inside_end_definitions s token))
says_ending s token line true is ending = rw is (says_definitions_end s token line ending)
says_ending s token line false is ending = rw is (keeps_all s token)

-- ---- changes

level_probe : (test : Bool) (line : Line) (level : Level) → (let l : Line = if test then record line { level = level } else line in l).probe ≡ line.probe
level_probe true line level = refl
level_probe false line level = refl

pub changed-probe : (code : List ℕ) (level : Level) (line : Line) → (changed code level line).probe ≡ line.probe
changed-probe code level line = level_probe (bytes_eq code line.code) line level

-- from the state in which the code is read
keeps_changed : (s t : State) (token code : List ℕ) (to : Levels) → t.scl.probe ≡ s.scl.probe → t.sda.probe ≡ s.sda.probe → t.defined ≡ s.defined → IsElsewhere t.context → (IsWritten s.time → IsWritten t.time) → Keeps s token (both_changed code to t)
keeps_changed s t token code to scl sda defined elsewhere written =
    elsewhere_then s (both_changed code to t) token (changed-probe code to.scl t.scl ∙ scl) (changed-probe code to.sda t.sda ∙ sda) defined elsewhere written

-- the state in which a code is read, as the state before it
pub record IsLike (s t : State) : Type 0 where
  pub scl_probe : t.scl.probe ≡ s.scl.probe
  pub sda_probe : t.sda.probe ≡ s.sda.probe
  pub defined : t.defined ≡ s.defined
  pub elsewhere : IsElsewhere t.context
  pub written : IsWritten s.time → IsWritten t.time

says_code : (s t : State) (token code : List ℕ) (line : ℕ) (to : Option Levels) (test : Bool) → is_code code ≡ test → IsLike s t → (is_code code ≡ false → IsTime token → ⊥) →
    Says s token line (stays (change_of_code t to code line))
says_code s t token code line None true is like not_time = rw is (elsewhere_then s t token like.scl_probe like.sda_probe like.defined like.elsewhere like.written)
says_code s t token code line None false is like not_time = rw is (bad s token line (not_time is))
says_code s t token code line (Some to) true is like not_time =
    rw is (keeps_changed s t token code to like.scl_probe like.sda_probe like.defined like.elsewhere like.written)
says_code s t token code line (Some to) false is like not_time = rw is (bad s token line (not_time is))

abbrev block_ends : State → ℕ → Option ℕ → Result State Refusal
block_ends s line None = Err (BadToken line)
block_ends s line (Some began) = Ok (record s { block = None })

abbrev block_begins : State → ℕ → Option ℕ → Result State Refusal
block_begins s line None = Ok (record s { block = Some line })
block_begins s line (Some began) = Err (BadToken line)

-- among the changes, outside commands
says_block_ends : (s : State) (token : List ℕ) (line : ℕ) (block : Option ℕ) → IsElsewhere s.context → (IsTime token → ⊥) → Says s token line (stays (block_ends s line block))
says_block_ends s token line None elsewhere not_time = bad s token line not_time
says_block_ends s token line (Some began) elsewhere not_time = elsewhere_then s (record s { block = None }) token refl refl refl elsewhere (λ written. written)

says_block_begins : (s : State) (token : List ℕ) (line : ℕ) (block : Option ℕ) → IsElsewhere s.context → (IsTime token → ⊥) → Says s token line (stays (block_begins s line block))
says_block_begins s token line None elsewhere not_time = elsewhere_then s (record s { block = Some line }) token refl refl refl elsewhere (λ written. written)
says_block_begins s token line (Some began) elsewhere not_time = bad s token line not_time

says_command : (s : State) (token : List ℕ) (line : ℕ) (o : Option Command) → IsElsewhere s.context → (IsTime token → ⊥) → Says s token line (stays (command_among_changes s o line))
says_command s token line None elsewhere not_time = bad s token line not_time
says_command s token line (Some End) elsewhere not_time = says_block_ends s token line s.block elsewhere not_time
says_command s token line (Some Changes) elsewhere not_time = says_block_begins s token line s.block elsewhere not_time
says_command s token line (Some Var) elsewhere not_time = in_context s token (inside.Skipped line) tt
says_command s token line (Some EndDefinitions) elsewhere not_time = in_context s token (inside.Skipped line) tt
says_command s token line (Some Other) elsewhere not_time = in_context s token (inside.Skipped line) tt

time_in : (first : ℕ) (rest digits : List ℕ) → (first ∷ rest) ≡ 35 ∷ digits → rest ≡ digits
time_in first rest digits is = cc

says_time : (s : State) (first : ℕ) (rest : List ℕ) (line : ℕ) (o : Option ℕ) → time_of rest ≡ o → first ≡ 35 → IsElsewhere s.context → IsAt s true → Says s (first ∷ rest) line (time_change s o line)
says_time s first rest line None none begins elsewhere at =
    bad s (first ∷ rest) line (λ time.
    let h : None ≡ Some time.time = sym none ∙ ap time_of (time_in first rest time.digits time.spelled) ∙ time.is in cc)
says_time s first rest line (Some time) is begins elsewhere at =
    let token = first ∷ rest in
    says_either s token line (nat_lt time s.time) _ _ (refl, record { digits = rest; time = time; spelled = ap (λ n. n ∷ rest) begins; is = is }, at)
    (says_either s token line (time == s.time) _ _ (keeps_all s token)
    (elsewhere_then s (record s { time = time; scl = settled s.scl; sda = settled s.sda }) token refl refl refl elsewhere (λ written. record { digits = rest; is = is })))

says_vector : (s : State) (token : List ℕ) (line : ℕ) (o : Option Levels) → (IsTime token → ⊥) → Says s token line (stays (vector_change s o line))
says_vector s token line None not_time = bad s token line not_time
says_vector s token line (Some to) not_time = in_context s token (inside.Change line (Some to)) tt

says_scalar : (s : State) (token code : List ℕ) (line : ℕ) (o : Option Level) → IsElsewhere s.context → (IsTime token → ⊥) → Says s token line (stays (scalar_change s o code line))
says_scalar s token code line None elsewhere not_time = bad s token line not_time
says_scalar s token code line (Some level) elsewhere not_time =
    says_code s s token code line (Some (on_both level)) (is_code code) refl
    (record { scl_probe = refl; sda_probe = refl; defined = refl; elsewhere = elsewhere; written = λ written. written }) (λ none. not_time)

-- what does not begin with `#`
begins_no_time : (first : ℕ) (rest : List ℕ) → (first == 35) ≡ false → IsTime (first ∷ rest) → ⊥
begins_no_time first rest other time =
    let begins : first ≡ 35 = (let spelled = time.spelled in cc) in
    let h = rw begins at other in
    cc

says_no_time : (s : State) (first : ℕ) (rest : List ℕ) (line : ℕ) → IsElsewhere s.context → (IsTime (first ∷ rest) → ⊥) →
    Says s (first ∷ rest) line
    (if first == 36 then stays (command_among_changes s (command_of (first ∷ rest)) line)
    else if first == 98 || first == 66 then stays (vector_change s (vector_levels s rest) line)
    else if first == 114 || first == 82 || first == 115 || first == 83
    then (if is_empty rest then Err (BadToken line) else Ok (record s { context = inside.Change line None }, None))
    else stays (scalar_change s (level_of first) rest line))
says_no_time s first rest line elsewhere not_time =
    let token = first ∷ rest in
    says_either s token line (first == 36) _ _ (says_command s token line (command_of token) elsewhere not_time)
    (says_either s token line (first == 98 || first == 66) _ _ (says_vector s token line (vector_levels s rest) not_time)
    (says_either s token line (first == 114 || first == 82 || first == 115 || first == 83) _ _
    (says_either s token line (is_empty rest) _ _ (bad s token line not_time) (in_context s token (inside.Change line None) tt))
    (says_scalar s token rest line (level_of first) elsewhere not_time)))

says_if : (s : State) (token : List ℕ) (line : ℕ) (test : Bool) (x y : Step) → (test ≡ true → Says s token line x) → (test ≡ false → Says s token line y) → Says s token line (if test then x else y)
says_if s token line true x y of_x of_y = of_x refl
says_if s token line false x y of_x of_y = of_y refl

says_change : (s : State) (token : List ℕ) (line : ℕ) → IsElsewhere s.context → IsAt s true → Says s token line (change s token line)
says_change s [] line elsewhere at = bad s [] line (λ time. let spelled = time.spelled in cc)
says_change s (first ∷ rest) line elsewhere at =
    says_if s (first ∷ rest) line (first == 35) _ _ (λ is. says_time s first rest line (time_of rest) refl (eqb-true first 35 is) elsewhere at)
    (λ other. says_no_time s first rest line elsewhere (begins_no_time first rest other))

-- ---- every place

says_outside : (s : State) (token : List ℕ) (line : ℕ) → IsElsewhere s.context → s.context ≡ inside.Nothing → Says s token line (outside s token line)
says_outside s token line elsewhere place =
    says_if s token line s.defined _ _ (λ is. says_change s token line elsewhere (record { place = place; part = is }))
    (λ is. says_opened s token line (command_of token) refl (record { place = place; part = is }))

says_skipped : (s : State) (token : List ℕ) (line : ℕ) (test : Bool) → IsElsewhere s.context → Says s token line (Ok ((if test then record s { context = inside.Nothing } else s), None))
says_skipped s token line true elsewhere = in_context s token inside.Nothing tt
says_skipped s token line false elsewhere = keeps_all s token

-- a time is a code too
code_is_time : (token : List ℕ) → is_code token ≡ false → IsTime token → ⊥
code_is_time token none time =
    let code : is_code token ≡ true = ap is_code time.spelled ∙ time_is_code time.digits time.time time.is in
    let h : true ≡ false = sym code ∙ none in
    cc

says_in : (context : Context) (s : State) (token : List ℕ) (line : ℕ) → s.context ≡ context → Says s token line (token_in context s token line)
says_in inside.Nothing s token line is =
    let elsewhere : IsElsewhere s.context = rw is tt in
    says_outside s token line elsewhere is
says_in (inside.Skipped began) s token line is =
    let elsewhere : IsElsewhere s.context = rw is tt in
    says_skipped s token line (is_end token) elsewhere
says_in (inside.Var began so_far) s token line is =
    let elsewhere : IsElsewhere s.context = rw is tt in
    says_var s token line began so_far (is_end token) refl elsewhere
says_in (inside.EndDefinitions began) s token line is =
    let ending : IsEnding s.context = rw is tt in
    says_ending s token line (is_end token) refl ending
says_in (inside.Change began level) s token line is =
    says_code s (record s { context = inside.Nothing }) token token line level (is_code token) refl
    (record { scl_probe = refl; sda_probe = refl; defined = refl; elsewhere = tt; written = λ written. written }) (code_is_time token)

pub says : (s : State) (token : List ℕ) (line : ℕ) → Says s token line (step s token line)
unfolding step
says s token line = says_in s.context s token line refl
