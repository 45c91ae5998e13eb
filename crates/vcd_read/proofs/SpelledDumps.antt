-- What is accepted is spelled by the grammar, and what is refused for want of a signal lacks it.
use Rattle.std.proofs.Common.{◌≡◌, ℕ, ◌⊎◌, inl, inr, Bool, true, false, List, [], ◌∷◌, ◌++◌, Option, Some, None, Result, Ok, Err, refl, ap, sym, ◌∙◌, subst}
use Rattle.std.specs.Prelude.{not, option_to_list}
use Rattle.std.proofs.lemmas.List.{append-nil}
use Rattle.vcd_read.specs.declared.dumps.Context.TheVariants as inside
use Rattle.vcd_read.specs.declared.errors.Refusal.{Refusal}
use Rattle.vcd_read.specs.declared.errors.Refusal.TheVariants.{NoSignal, BadToken, TimeBack, Unended}
use Rattle.vcd_read.specs.declared.samples.Level.TheVariants.{Unknown}
use Rattle.vcd_read.specs.declared.samples.Sample.{Sample}
use Rattle.run_errors.specs.declared.dumps.Signal.{Signal}
use Rattle.run_errors.specs.declared.dumps.Signal.TheVariants.{Scl, Sda}
use Rattle.vcd_read.specs.declared.words.Command.TheVariants.{EndDefinitions}
use Rattle.vcd_read.specs.Beginnings.{AreWithout, EndsDefinitions, Lacks}
use Rattle.vcd_read.specs.Changes.{Step, stays}
use Rattle.vcd_read.specs.Definitions.{opened, missing}
use Rattle.vcd_read.specs.Dumps.{step, run, and_then, open_line, at_end, with_last, ended, samples_of}
use Rattle.vcd_read.specs.Grammar.{Skipped, skipped_tokens, without_end, EndsOnce, Declaration, code_for, declarations_tokens, AreDeclarations, Dump, IsDump, dump_tokens, dump_samples, Spells}
use Rattle.vcd_read.specs.Probes.{Finder}
use Rattle.vcd_read.specs.States.{State, state_at_first}
use Rattle.vcd_read.specs.Tokens.{Token, tokens_of}
use Rattle.vcd_read.specs.Words.{is_empty, is_end, command_of}
use Rattle.vcd_read.proofs.DeclarationLemmas.{defining, latest_after, run_declarations, step_definition, step_end_definitions, run_definitions_end, samples_of-dump, samples_of-definitions}
use Rattle.vcd_read.proofs.RunLemmas.{run_token, not_true, and_both}
use Rattle.vcd_read.proofs.SpelledChanges.{ok_is, Rest, parses}
use Rattle.vcd_read.proofs.SpelledDefinitions.{IsRead, Ended, Definitions, definitions_of}
use Rattle.vcd_read.proofs.StampLemmas.{Names, state_at, in_front, ended-front}
use Rattle.vcd_read.proofs.StepLemmas.{not_both, Past, Says, says}

-- ---- the end of the definitions

abbrev Answer : Type 0
Answer = Result (List Sample) Refusal

alone : (scl sda : Finder) (k m latest : List ℕ) (signal : Signal) → missing (defining scl sda inside.Nothing k m latest) ≡ Some signal → ended (run (defining scl sda inside.Nothing k m latest) []) ≡ Err (NoSignal signal)
alone scl sda k m latest signal none = rw none refl

step_missing : (scl sda : Finder) (began : ℕ) (k m latest token : List ℕ) (line : ℕ) (signal : Signal) → is_end token ≡ true → missing (defining scl sda inside.Nothing k m latest) ≡ Some signal →
    step (defining scl sda (inside.EndDefinitions began) k m latest) token line ≡ Err (NoSignal signal)
unfolding step
step_missing scl sda began k m latest token line signal is none = rw (is, none) refl

run_missing : (body : List Token) (close : Token) (rest : List Token) (scl sda : Finder) (began : ℕ) (k m latest : List ℕ) (signal : Signal) → without_end body ≡ true → is_end close.bytes ≡ true →
    missing (defining scl sda inside.Nothing k m latest) ≡ Some signal →
    run (defining scl sda (inside.EndDefinitions began) k m latest) ((body ++ (close ∷ [])) ++ rest) ≡ Err (NoSignal signal)
run_missing [] close rest scl sda began k m latest signal none is without =
    ap (λ result. and_then result (λ next. run next rest)) (step_missing scl sda began k m latest close.bytes close.line signal is without)
run_missing (token ∷ body) close rest scl sda began k m latest signal none is without =
    let parts = and_both (not (is_end token.bytes)) (without_end body) none in
    let s = defining scl sda (inside.EndDefinitions began) k m latest in
    run_token s s token ((body ++ (close ∷ [])) ++ rest) (step_end_definitions scl sda began k m latest token.bytes token.line (not_true (is_end token.bytes) parts.0))
    ∙ run_missing body close rest scl sda began k m latest signal parts.1 is without

run_definitions_missing : (command : Skipped) (rest : List Token) (scl sda : Finder) (k m latest : List ℕ) (signal : Signal) → command_of command.word.bytes ≡ Some EndDefinitions → EndsOnce command →
    missing (defining scl sda inside.Nothing k m latest) ≡ Some signal →
    run (defining scl sda inside.Nothing k m latest) (skipped_tokens command ++ rest) ≡ Err (NoSignal signal)
run_definitions_missing command rest scl sda k m latest signal is ends without =
    let s = defining scl sda inside.Nothing k m latest in
    run_token s (defining scl sda (inside.EndDefinitions command.word.line) k m latest) command.word ((command.body ++ (command.close ∷ [])) ++ rest)
    (step_definition scl sda k m latest command.word.bytes command.word.line ∙ ap (λ o. stays (opened command.word.line s o)) is)
    ∙ run_missing command.body command.close rest scl sda command.word.line k m latest signal ends.0 ends.1 without

-- ---- no signal is missed after the definitions

never_at_end_by : (s : State) (signal : Signal) (o : Option ℕ) → open_line s ≡ o → Past s → at_end s ≡ Err (NoSignal signal) → ⊥
never_at_end_by s signal (Some line) is past at = let h = rw (is, at_end) at at in cc
never_at_end_by s signal None is past at = let h = rw (is, at_end, past.defined) at at in cc

of_last : (last : Result (Option Sample) Refusal) (refusal : Refusal) → with_last [] last ≡ Err refusal → last ≡ Err refusal
of_last (Ok sample) refusal is = absurd cc
of_last (Err other) refusal is = cc

of_rest : (front : List Sample) (rest : Answer) (refusal : Refusal) → in_front front rest ≡ Err refusal → rest ≡ Err refusal
of_rest front (Ok samples) refusal is = absurd cc
of_rest front (Err other) refusal is = cc

abbrev NeverMissed : List Token → Type 0
NeverMissed tokens = (s : State) (signal : Signal) → Past s → ended (run s tokens) ≡ Err (NoSignal signal) → ⊥

never_by : (s : State) (token : Token) (tokens : List Token) (signal : Signal) (result : Step) → Says s token.bytes token.line result → Past s → NeverMissed tokens →
    ended (and_then result (λ next. run next tokens)) ≡ Err (NoSignal signal) → ⊥
never_by s token tokens signal (Ok p) keeps past each is =
    each p.0 signal (keeps.past past)
    (of_rest (option_to_list p.1) (ended (run p.0 tokens)) (NoSignal signal) (sym (ended-front (option_to_list p.1) (run p.0 tokens)) ∙ is))
never_by s token tokens signal (Err (NoSignal other)) lost past each is = not_both s.context past.elsewhere lost.ending
never_by s token tokens signal (Err (BadToken line)) at past each is = cc
never_by s token tokens signal (Err (TimeBack line)) at past each is = cc
never_by s token tokens signal (Err (Unended line)) at past each is = at

never_missed : (tokens : List Token) → NeverMissed tokens
never_missed [] s signal past is = never_at_end_by s signal (open_line s) refl past (of_last (at_end s) (NoSignal signal) is)
never_missed (token ∷ tokens) s signal past is =
    never_by s token tokens signal (step s token.bytes token.line) (says s token.bytes token.line) past (never_missed tokens) is

-- ---- the definitions, and what follows them

abbrev defined : (scl sda : Finder) → List Declaration → State
defined scl sda declarations = defining scl sda inside.Nothing (code_for scl declarations) (code_for sda declarations) (latest_after declarations [])

of_definitions : (scl sda : Finder) (text : List ℕ) (declarations : List Declaration) (rest : List Token) → tokens_of 1 text ≡ declarations_tokens declarations ++ rest → AreDeclarations declarations →
    samples_of scl sda text ≡ ended (run (defined scl sda declarations) rest)
of_definitions scl sda text declarations rest spelled are =
    ap (λ tokens. ended (run (state_at_first scl sda) tokens)) spelled ∙ ap ended (run_declarations declarations rest scl sda [] [] [] are)

missing_in : (scl sda : Finder) (declarations : List Declaration) (signal : Signal) → AreWithout scl sda declarations signal → missing (defined scl sda declarations) ≡ Some signal
missing_in scl sda declarations Scl without = rw without refl
missing_in scl sda declarations Sda without = rw (without.0, without.1) refl

refused_by : (scl sda : Finder) (text : List ℕ) (declarations : List Declaration) (rest : List Token) (signal : Signal) → tokens_of 1 text ≡ declarations_tokens declarations ++ rest → AreDeclarations declarations →
    AreWithout scl sda declarations signal → EndsDefinitions rest → samples_of scl sda text ≡ Err (NoSignal signal)
refused_by scl sda text declarations rest signal spelled are without (inl none) =
    of_definitions scl sda text declarations rest spelled are
    ∙ ap (λ tokens. ended (run (defined scl sda declarations) tokens)) none
    ∙ alone scl sda (code_for scl declarations) (code_for sda declarations) (latest_after declarations []) signal (missing_in scl sda declarations signal without)
refused_by scl sda text declarations rest signal spelled are without (inr c) =
    of_definitions scl sda text declarations rest spelled are
    ∙ ap (λ tokens. ended (run (defined scl sda declarations) tokens)) c.4
    ∙ ap ended (run_definitions_missing c.0 c.1 scl sda (code_for scl declarations) (code_for sda declarations) (latest_after declarations []) signal c.2 c.3 (missing_in scl sda declarations signal without))

pub refused : (scl sda : Finder) (text : List ℕ) (signal : Signal) → Lacks scl sda (tokens_of 1 text) signal → samples_of scl sda text ≡ Err (NoSignal signal)
refused scl sda text signal lacks = refused_by scl sda text lacks.declarations lacks.rest signal lacks.spelled lacks.are lacks.without lacks.ended

-- both signals have a code
abbrev AreNamed : (scl sda : Finder) → List Declaration → Type 0
AreNamed scl sda declarations = (is_empty (code_for scl declarations) ≡ false) × (is_empty (code_for sda declarations) ≡ false)

named_or_not : (scl sda : Finder) (declarations : List Declaration) (of_scl of_sda : Bool) → is_empty (code_for scl declarations) ≡ of_scl → is_empty (code_for sda declarations) ≡ of_sda →
    AreNamed scl sda declarations ⊎ ((signal : Signal) × AreWithout scl sda declarations signal)
named_or_not scl sda declarations true of_sda is_scl is_sda = inr (Scl, is_scl)
named_or_not scl sda declarations false true is_scl is_sda = inr (Sda, (is_scl, is_sda))
named_or_not scl sda declarations false false is_scl is_sda = inl (is_scl, is_sda)

abbrev ends_of : (rest : List Token) → (rest ≡ []) ⊎ Ended rest → EndsDefinitions rest
ends_of rest (inl none) = inl none
ends_of rest (inr c) = inr (c.command, c.rest, c.is, c.ends, c.spelled)

lacks_in : (scl sda : Finder) (text : List ℕ) (r : Definitions (tokens_of 1 text)) (signal : Signal) → AreWithout scl sda r.declarations signal → Lacks scl sda (tokens_of 1 text) signal
lacks_in scl sda text r signal without =
    record { declarations = r.declarations; rest = r.rest; spelled = r.spelled; are = r.are; ended = ends_of r.rest r.follows; without = without }

-- the state in which the changes begin
abbrev beginning : (scl sda : Finder) → List Declaration → State
beginning scl sda declarations =
    state_at (record { scl = scl; sda = sda; scl_code = code_for scl declarations; sda_code = code_for sda declarations; latest = latest_after declarations [] }) 0 Unknown Unknown Unknown Unknown None

of_changes : (scl sda : Finder) (text : List ℕ) (r : Definitions (tokens_of 1 text)) (c : Ended r.rest) → AreNamed scl sda r.declarations → samples_of scl sda text ≡ ended (run (beginning scl sda r.declarations) c.rest)
of_changes scl sda text r c named =
    of_definitions scl sda text r.declarations r.rest r.spelled r.are
    ∙ ap (λ tokens. ended (run (defined scl sda r.declarations) tokens)) c.spelled
    ∙ ap ended (run_definitions_end c.command c.rest scl sda (code_for scl r.declarations) (code_for sda r.declarations) (latest_after r.declarations []) c.is c.ends named.0 named.1)

-- ---- what is accepted

pub accepted : (scl sda : Finder) (text : List ℕ) (samples : List Sample) → Spells scl sda (tokens_of 1 text) samples → samples_of scl sda text ≡ Ok samples
accepted scl sda text samples (inl d) = samples_of-dump scl sda text d.0 d.1 d.2 ∙ ap Ok (sym d.3)
accepted scl sda text samples (inr d) = samples_of-definitions scl sda text d.0 d.1 d.2 ∙ ap Ok (sym d.3)

of_declarations : (scl sda : Finder) (text : List ℕ) (r : Definitions (tokens_of 1 text)) → r.rest ≡ [] → AreNamed scl sda r.declarations → Spells scl sda (tokens_of 1 text) []
of_declarations scl sda text r none named =
    inr (
      r.declarations,
      record { are = r.are; scl_named = named.0; sda_named = named.1 },
      r.spelled ∙ ap (λ t. declarations_tokens r.declarations ++ t) none ∙ append-nil (declarations_tokens r.declarations),
      refl,
    )

same_samples : (scl sda : Finder) (text : List ℕ) (samples more : List Sample) → samples_of scl sda text ≡ Ok samples → samples_of scl sda text ≡ Ok more → samples ≡ more
same_samples scl sda text samples more is also = ok_is samples more (sym is ∙ also)

spelled_changes : (scl sda : Finder) (text : List ℕ) (samples : List Sample) (r : Definitions (tokens_of 1 text)) (c : Ended r.rest) → AreNamed scl sda r.declarations → Rest 0 false c.rest →
    samples_of scl sda text ≡ Ok samples → Spells scl sda (tokens_of 1 text) samples
spelled_changes scl sda text samples r c named changes is =
    let d : Dump = record { declarations = r.declarations; definitions_end = c.command; first = changes.entries; stamps = changes.stamps } in
    let is_dump : IsDump scl sda d = record {
      declarations = r.are;
      definitions_end = (c.is, c.ends);
      scl_named = named.0;
      sda_named = named.1;
      first = changes.entries_are;
      stamps = changes.stamps_are;
      blocks_end = changes.closed;
    } in
    let spelled : tokens_of 1 text ≡ dump_tokens d =
    r.spelled ∙ ap (λ t. declarations_tokens r.declarations ++ t) (c.spelled ∙ ap (λ t. skipped_tokens c.command ++ t) changes.spelled) in
    inl (d, is_dump, spelled, same_samples scl sda text samples (dump_samples scl sda d) is (samples_of-dump scl sda text d is_dump spelled))

spelled_by : (scl sda : Finder) (text : List ℕ) (samples : List Sample) (r : Definitions (tokens_of 1 text)) → ((r.rest ≡ []) ⊎ Ended r.rest) → AreNamed scl sda r.declarations ⊎ ((signal : Signal) × AreWithout scl sda r.declarations signal) →
    samples_of scl sda text ≡ Ok samples → Spells scl sda (tokens_of 1 text) samples
spelled_by scl sda text samples r follows (inr lacks) is =
    let h = sym is ∙ refused scl sda text lacks.0 (lacks_in scl sda text r lacks.0 lacks.1) in absurd cc
spelled_by scl sda text samples r (inl none) (inl named) is =
    let alone : Spells scl sda (tokens_of 1 text) [] = of_declarations scl sda text r none named in
    let P : List Sample → Type 0 = λ s. Spells scl sda (tokens_of 1 text) s in
    subst P (same_samples scl sda text [] samples (accepted scl sda text [] alone) is) alone
spelled_by scl sda text samples r (inr c) (inl named) is =
    let n : Names = record { scl = scl; sda = sda; scl_code = code_for scl r.declarations; sda_code = code_for sda r.declarations; latest = latest_after r.declarations [] } in
    spelled_changes scl sda text samples r c named
    (parses c.rest n inside.Nothing 0 Unknown Unknown Unknown Unknown None (samples, sym (of_changes scl sda text r c named) ∙ is)) is

reads_of : (answer other : Answer) → IsRead other → answer ≡ other → IsRead answer
reads_of answer other reads is = let P : Answer → Type 0 = λ a. IsRead a in subst P (sym is) reads

pub spelled : (scl sda : Finder) (text : List ℕ) (samples : List Sample) → samples_of scl sda text ≡ Ok samples → Spells scl sda (tokens_of 1 text) samples
spelled scl sda text samples is =
    let r = definitions_of scl sda text (reads_of (samples_of scl sda text) (Ok samples) tt is) in
    spelled_by scl sda text samples r r.follows (named_or_not scl sda r.declarations (is_empty (code_for scl r.declarations)) (is_empty (code_for sda r.declarations)) refl refl) is

-- ---- a missing signal

lacking_by : (scl sda : Finder) (text : List ℕ) (signal : Signal) (r : Definitions (tokens_of 1 text)) → ((r.rest ≡ []) ⊎ Ended r.rest) → AreNamed scl sda r.declarations ⊎ ((found : Signal) × AreWithout scl sda r.declarations found) →
    samples_of scl sda text ≡ Err (NoSignal signal) → Lacks scl sda (tokens_of 1 text) signal
lacking_by scl sda text signal r follows (inr found) is =
    let lacks = lacks_in scl sda text r found.0 found.1 in
    let both = sym (refused scl sda text found.0 lacks) ∙ is in
    let same : found.0 ≡ signal = cc in
    let P : Signal → Type 0 = λ s. Lacks scl sda (tokens_of 1 text) s in
    subst P same lacks
lacking_by scl sda text signal r (inl none) (inl named) is =
    let alone = accepted scl sda text [] (of_declarations scl sda text r none named) in
    let both = sym alone ∙ is in
    absurd cc
lacking_by scl sda text signal r (inr c) (inl named) is =
    absurd (never_missed c.rest (beginning scl sda r.declarations) signal (record { defined = refl; elsewhere = tt }) (sym (of_changes scl sda text r c named) ∙ is))

pub lacking : (scl sda : Finder) (text : List ℕ) (signal : Signal) → samples_of scl sda text ≡ Err (NoSignal signal) → Lacks scl sda (tokens_of 1 text) signal
lacking scl sda text signal is =
    let r = definitions_of scl sda text (reads_of (samples_of scl sda text) (Err (NoSignal signal)) tt is) in
    lacking_by scl sda text signal r r.follows (named_or_not scl sda r.declarations (is_empty (code_for scl r.declarations)) (is_empty (code_for sda r.declarations)) refl refl) is
