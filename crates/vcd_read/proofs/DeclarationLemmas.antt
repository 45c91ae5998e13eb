-- The definitions of a dump, command by command.
use Rattle.std.proofs.Common.{◌≡◌, ℕ, Bool, true, false, ◌&&◌, List, [], ◌∷◌, ◌++◌, Some, None, Ok, refl, ap, sym, ◌∙◌, append_assoc, codes}
use Rattle.std.specs.Prelude.{if◌then◌else◌, not}
use Rattle.std.specs.Str.{bytes_eq}
use Rattle.std.proofs.lemmas.List.{append-nil}
use Rattle.vcd_read.specs.declared.dumps.Context.{Context}
use Rattle.vcd_read.specs.declared.dumps.Context.TheVariants as inside
use Rattle.vcd_read.specs.declared.dumps.Seen.{Seen}
use Rattle.vcd_read.specs.declared.dumps.Seen.TheVariants as seen
use Rattle.vcd_read.specs.declared.samples.Level.TheVariants.{Unknown}
use Rattle.vcd_read.specs.declared.words.Command.TheVariants.{EndDefinitions}
use Rattle.vcd_read.specs.Changes.{stays}
use Rattle.vcd_read.specs.Definitions.{opened, named_by, declared, var_token}
use Rattle.vcd_read.specs.Dumps.{step, run, ended, samples_of}
use Rattle.vcd_read.specs.Grammar.{Skipped, skipped_tokens, without_end, EndsOnce, Declaration, var, other, declaration_tokens, IsDeclaration, code_for, declarations_tokens, AreDeclarations, entries_tokens, stamps_tokens, Dump, IsDump, IsDefinitions, dump_tokens, dump_samples}
use Rattle.vcd_read.specs.Probes.{Finder, declares}
use Rattle.vcd_read.specs.States.{Line, State, state_at_first}
use Rattle.vcd_read.specs.Tokens.{Token, tokens_of}
use Rattle.vcd_read.specs.Words.{is_empty, is_end, command_of}
use Rattle.vcd_read.proofs.RunLemmas.{run_token, run_skipped, not_true, and_both}
use Rattle.vcd_read.proofs.StampLemmas.{state_at, ended_stamps}

abbrev pub unknown : Finder → List ℕ → Line
unknown probe code = record { probe = probe; code = code; before = Unknown; level = Unknown }

-- among the definitions, with these codes for the two probes and this one of the latest `$var`
abbrev pub defining : (scl sda : Finder) → Context → (k m latest : List ℕ) → State
defining scl sda context k m latest = record {
  scl = unknown scl k;
  sda = unknown sda m;
  context = context;
  block = None;
  code = latest;
  defined = false;
  time = 0;
}

-- ---- a `$var`

abbrev pub code_after : Bool → (reference code : List ℕ) → Finder → List ℕ → List ℕ
code_after one_bit reference code probe k = if is_empty k && declares probe one_bit reference code then code else k

named-by : (test : Bool) (probe : Finder) (code k : List ℕ) → (if test then record (unknown probe k) { code = code } else unknown probe k) ≡ unknown probe (if test then code else k)
named-by true probe code k = refl
named-by false probe code k = refl

pub declared-by : (one_bit : Bool) (scl sda : Finder) (context : Context) (k m code reference : List ℕ) →
    declared one_bit reference (defining scl sda context k m code)
    ≡ defining scl sda context (code_after one_bit reference code scl k) (code_after one_bit reference code sda m) code
declared-by one_bit scl sda context k m code reference =
    ap (λ line. record (defining scl sda context k m code) { scl = line; sda = named_by one_bit reference code (unknown sda m) }) (named-by (is_empty k && declares scl one_bit reference code) scl code k)
    ∙ ap (λ line. record (defining scl sda context (code_after one_bit reference code scl k) m code) { sda = line }) (named-by (is_empty m && declares sda one_bit reference code) sda code m)

pub step_definition : (scl sda : Finder) (k m latest token : List ℕ) (line : ℕ) →
    step (defining scl sda inside.Nothing k m latest) token line ≡ stays (opened line (defining scl sda inside.Nothing k m latest) (command_of token))
unfolding step
step_definition scl sda k m latest token line = refl

pub step_var : (scl sda : Finder) (began : ℕ) (so_far : Seen) (k m latest token : List ℕ) (line : ℕ) → is_end token ≡ false →
    step (defining scl sda (inside.Var began so_far) k m latest) token line ≡ Ok (var_token began so_far (defining scl sda (inside.Var began so_far) k m latest) token, None)
unfolding step
step_var scl sda began so_far k m latest token line inner = rw inner refl

pub step_var_end : (scl sda : Finder) (began : ℕ) (k m latest token : List ℕ) (line : ℕ) → is_end token ≡ true →
    step (defining scl sda (inside.Var began seen.Reference) k m latest) token line ≡ Ok (defining scl sda inside.Nothing k m latest, None)
unfolding step
step_var_end scl sda began k m latest token line is = rw is refl

run_more : (more : List Token) (close : Token) (rest : List Token) (scl sda : Finder) (began : ℕ) (k m latest : List ℕ) → without_end more ≡ true → is_end close.bytes ≡ true →
    run (defining scl sda (inside.Var began seen.Reference) k m latest) ((more ++ (close ∷ [])) ++ rest) ≡ run (defining scl sda inside.Nothing k m latest) rest
run_more [] close rest scl sda began k m latest none is =
    run_token (defining scl sda (inside.Var began seen.Reference) k m latest) (defining scl sda inside.Nothing k m latest) close rest
    (step_var_end scl sda began k m latest close.bytes close.line is)
run_more (token ∷ more) close rest scl sda began k m latest none is =
    let parts = and_both (not (is_end token.bytes)) (without_end more) none in
    let s = defining scl sda (inside.Var began seen.Reference) k m latest in
    run_token s s token ((more ++ (close ∷ [])) ++ rest) (step_var scl sda began seen.Reference k m latest token.bytes token.line (not_true (is_end token.bytes) parts.0))
    ∙ run_more more close rest scl sda began k m latest parts.1 is

run_var : (word type size code reference : Token) (more : List Token) (close : Token) (rest : List Token) (scl sda : Finder) (k m latest : List ℕ) →
    IsDeclaration (var word type size code reference more close) →
    run (defining scl sda inside.Nothing k m latest) (declaration_tokens (var word type size code reference more close) ++ rest)
    ≡ run (defining scl sda inside.Nothing (code_after (bytes_eq size.bytes (codes "1")) reference.bytes code.bytes scl k) (code_after (bytes_eq size.bytes (codes "1")) reference.bytes code.bytes sda m) code.bytes) rest
run_var word type size code reference more close rest scl sda k m latest is =
    let one_bit = bytes_eq size.bytes (codes "1") in
    let began = word.line in
    let of_type = and_both (not (is_end type.bytes)) _ is.1 in
    let of_size = and_both (not (is_end size.bytes)) _ of_type.1 in
    let of_code = and_both (not (is_end code.bytes)) _ of_size.1 in
    let of_reference = and_both (not (is_end reference.bytes)) (without_end more) of_code.1 in
    let last = (more ++ (close ∷ [])) ++ rest in
    let d = defining scl sda in
    run_token (d inside.Nothing k m latest) (d (inside.Var began seen.Nothing) k m latest) word (type ∷ (size ∷ (code ∷ (reference ∷ last))))
    (step_definition scl sda k m latest word.bytes began ∙ ap (λ o. stays (opened began (d inside.Nothing k m latest) o)) is.0)
    ∙ run_token (d (inside.Var began seen.Nothing) k m latest) (d (inside.Var began seen.Type) k m latest) type (size ∷ (code ∷ (reference ∷ last)))
    (step_var scl sda began seen.Nothing k m latest type.bytes type.line (not_true (is_end type.bytes) of_type.0))
    ∙ run_token (d (inside.Var began seen.Type) k m latest) (d (inside.Var began (seen.Size one_bit)) k m latest) size (code ∷ (reference ∷ last))
    (step_var scl sda began seen.Type k m latest size.bytes size.line (not_true (is_end size.bytes) of_size.0))
    ∙ run_token (d (inside.Var began (seen.Size one_bit)) k m latest) (d (inside.Var began (seen.Code one_bit)) k m code.bytes) code (reference ∷ last)
    (step_var scl sda began (seen.Size one_bit) k m latest code.bytes code.line (not_true (is_end code.bytes) of_code.0))
    ∙ run_token (d (inside.Var began (seen.Code one_bit)) k m code.bytes) (record (declared one_bit reference.bytes (d (inside.Var began (seen.Code one_bit)) k m code.bytes)) { context = inside.Var began seen.Reference }) reference last
    (step_var scl sda began (seen.Code one_bit) k m code.bytes reference.bytes reference.line (not_true (is_end reference.bytes) of_reference.0))
    ∙ ap (λ s. run (record s { context = inside.Var began seen.Reference }) last) (declared-by one_bit scl sda (inside.Var began (seen.Code one_bit)) k m code.bytes reference.bytes)
    ∙ run_more more close rest scl sda began (code_after one_bit reference.bytes code.bytes scl k) (code_after one_bit reference.bytes code.bytes sda m) code.bytes of_reference.1 is.3

-- ---- other commands

run_other : (command : Skipped) (rest : List Token) (scl sda : Finder) (k m latest : List ℕ) → IsDeclaration (other command) →
    run (defining scl sda inside.Nothing k m latest) (declaration_tokens (other command) ++ rest) ≡ run (defining scl sda inside.Nothing k m latest) rest
run_other command rest scl sda k m latest is =
    let s = defining scl sda inside.Nothing k m latest in
    run_token s (defining scl sda (inside.Skipped command.word.line) k m latest) command.word ((command.body ++ (command.close ∷ [])) ++ rest)
    (step_definition scl sda k m latest command.word.bytes command.word.line ∙ ap (λ o. stays (opened command.word.line s o)) is.0)
    ∙ run_skipped command.body command.close rest s command.word.line is.1.0 is.1.1

-- ---- all definitions

-- the code of a signal, where this one stood before
abbrev pub first_code : List ℕ → Finder → List Declaration → List ℕ
first_code k probe declarations = if is_empty k then code_for probe declarations else k

pub nothing_more : (k : List ℕ) (probe : Finder) → first_code k probe [] ≡ k
nothing_more [] probe = refl
nothing_more (byte ∷ bytes) probe = refl

first_or_later : (test : Bool) (code : List ℕ) (probe : Finder) (declarations : List Declaration) → is_empty code ≡ false →
    first_code (if test then code else []) probe declarations ≡ (if test then code else code_for probe declarations)
first_or_later true code probe declarations some = rw some refl
first_or_later false code probe declarations some = refl

pub first_code-var : (word type size code reference : Token) (more : List Token) (close : Token) (declarations : List Declaration) (k : List ℕ) (probe : Finder) → is_empty code.bytes ≡ false →
    first_code (code_after (bytes_eq size.bytes (codes "1")) reference.bytes code.bytes probe k) probe declarations
    ≡ first_code k probe (var word type size code reference more close ∷ declarations)
first_code-var word type size code reference more close declarations [] probe some =
    first_or_later (declares probe (bytes_eq size.bytes (codes "1")) reference.bytes code.bytes) code.bytes probe declarations some
first_code-var word type size code reference more close declarations (byte ∷ bytes) probe some = refl

abbrev pub latest_after : List Declaration → List ℕ → List ℕ
latest_after [] latest = latest
latest_after (var word type size code reference more close ∷ declarations) latest = latest_after declarations code.bytes
latest_after (other command ∷ declarations) latest = latest_after declarations latest

pub run_declarations : (declarations : List Declaration) (rest : List Token) (scl sda : Finder) (k m latest : List ℕ) → AreDeclarations declarations →
    run (defining scl sda inside.Nothing k m latest) (declarations_tokens declarations ++ rest)
    ≡ run (defining scl sda inside.Nothing (first_code k scl declarations) (first_code m sda declarations) (latest_after declarations latest)) rest
run_declarations [] rest scl sda k m latest are =
    ap (λ c. run (defining scl sda inside.Nothing c m latest) rest) (sym (nothing_more k scl))
    ∙ ap (λ c. run (defining scl sda inside.Nothing (first_code k scl []) c latest) rest) (sym (nothing_more m sda))
run_declarations (var word type size code reference more close ∷ declarations) rest scl sda k m latest are =
    let one_bit = bytes_eq size.bytes (codes "1") in
    let command = var word type size code reference more close in
    ap (run (defining scl sda inside.Nothing k m latest)) (append_assoc (declaration_tokens command) (declarations_tokens declarations) rest)
    ∙ run_var word type size code reference more close (declarations_tokens declarations ++ rest) scl sda k m latest are.0
    ∙ run_declarations declarations rest scl sda (code_after one_bit reference.bytes code.bytes scl k) (code_after one_bit reference.bytes code.bytes sda m) code.bytes are.1
    ∙ ap (λ c. run (defining scl sda inside.Nothing c (first_code (code_after one_bit reference.bytes code.bytes sda m) sda declarations) (latest_after declarations code.bytes)) rest)
    (first_code-var word type size code reference more close declarations k scl are.0.2)
    ∙ ap (λ c. run (defining scl sda inside.Nothing (first_code k scl (command ∷ declarations)) c (latest_after declarations code.bytes)) rest)
    (first_code-var word type size code reference more close declarations m sda are.0.2)
run_declarations (other command ∷ declarations) rest scl sda k m latest are =
    ap (run (defining scl sda inside.Nothing k m latest)) (append_assoc (declaration_tokens (other command)) (declarations_tokens declarations) rest)
    ∙ run_other command (declarations_tokens declarations ++ rest) scl sda k m latest are.0
    ∙ run_declarations declarations rest scl sda k m latest are.1

-- ---- their end

pub step_end_definitions : (scl sda : Finder) (began : ℕ) (k m latest token : List ℕ) (line : ℕ) → is_end token ≡ false →
    step (defining scl sda (inside.EndDefinitions began) k m latest) token line ≡ Ok (defining scl sda (inside.EndDefinitions began) k m latest, None)
unfolding step
step_end_definitions scl sda began k m latest token line inner = rw inner refl

step_defined : (scl sda : Finder) (began : ℕ) (k m latest token : List ℕ) (line : ℕ) → is_end token ≡ true → is_empty k ≡ false → is_empty m ≡ false →
    step (defining scl sda (inside.EndDefinitions began) k m latest) token line
    ≡ Ok (state_at (record { scl = scl; sda = sda; scl_code = k; sda_code = m; latest = latest }) 0 Unknown Unknown Unknown Unknown None, None)
unfolding step
step_defined scl sda began k m latest token line is scl_named sda_named = rw (is, scl_named, sda_named) refl

run_end : (body : List Token) (close : Token) (rest : List Token) (scl sda : Finder) (began : ℕ) (k m latest : List ℕ) → without_end body ≡ true → is_end close.bytes ≡ true →
    is_empty k ≡ false → is_empty m ≡ false →
    run (defining scl sda (inside.EndDefinitions began) k m latest) ((body ++ (close ∷ [])) ++ rest)
    ≡ run (state_at (record { scl = scl; sda = sda; scl_code = k; sda_code = m; latest = latest }) 0 Unknown Unknown Unknown Unknown None) rest
run_end [] close rest scl sda began k m latest none is scl_named sda_named =
    run_token (defining scl sda (inside.EndDefinitions began) k m latest)
    (state_at (record { scl = scl; sda = sda; scl_code = k; sda_code = m; latest = latest }) 0 Unknown Unknown Unknown Unknown None) close rest
    (step_defined scl sda began k m latest close.bytes close.line is scl_named sda_named)
run_end (token ∷ body) close rest scl sda began k m latest none is scl_named sda_named =
    let parts = and_both (not (is_end token.bytes)) (without_end body) none in
    let s = defining scl sda (inside.EndDefinitions began) k m latest in
    run_token s s token ((body ++ (close ∷ [])) ++ rest) (step_end_definitions scl sda began k m latest token.bytes token.line (not_true (is_end token.bytes) parts.0))
    ∙ run_end body close rest scl sda began k m latest parts.1 is scl_named sda_named

pub run_definitions_end : (command : Skipped) (rest : List Token) (scl sda : Finder) (k m latest : List ℕ) → command_of command.word.bytes ≡ Some EndDefinitions → EndsOnce command →
    is_empty k ≡ false → is_empty m ≡ false →
    run (defining scl sda inside.Nothing k m latest) (skipped_tokens command ++ rest)
    ≡ run (state_at (record { scl = scl; sda = sda; scl_code = k; sda_code = m; latest = latest }) 0 Unknown Unknown Unknown Unknown None) rest
run_definitions_end command rest scl sda k m latest is ends scl_named sda_named =
    let s = defining scl sda inside.Nothing k m latest in
    run_token s (defining scl sda (inside.EndDefinitions command.word.line) k m latest) command.word ((command.body ++ (command.close ∷ [])) ++ rest)
    (step_definition scl sda k m latest command.word.bytes command.word.line ∙ ap (λ o. stays (opened command.word.line s o)) is)
    ∙ run_end command.body command.close rest scl sda command.word.line k m latest ends.0 ends.1 scl_named sda_named

-- ---- the whole dump

pub samples_of-dump : (scl sda : Finder) (text : List ℕ) (d : Dump) → IsDump scl sda d → tokens_of 1 text ≡ dump_tokens d → samples_of scl sda text ≡ Ok (dump_samples scl sda d)
samples_of-dump scl sda text d is spelled =
    let latest = latest_after d.declarations [] in
    let k = code_for scl d.declarations in
    let m = code_for sda d.declarations in
    let changes = entries_tokens d.first ++ stamps_tokens d.stamps in
    ap (λ tokens. ended (run (state_at_first scl sda) tokens)) spelled
    ∙ ap ended (run_declarations d.declarations (skipped_tokens d.definitions_end ++ changes) scl sda [] [] [] is.declarations)
    ∙ ap ended (run_definitions_end d.definitions_end changes scl sda k m latest is.definitions_end.0 is.definitions_end.1 is.scl_named is.sda_named)
    ∙ ended_stamps d.stamps d.first (record { scl = scl; sda = sda; scl_code = k; sda_code = m; latest = latest }) 0 Unknown Unknown Unknown Unknown None is.first is.stamps is.blocks_end

alone : (scl sda : Finder) (k m latest : List ℕ) → is_empty k ≡ false → is_empty m ≡ false → ended (run (defining scl sda inside.Nothing k m latest) []) ≡ Ok []
alone scl sda k m latest scl_named sda_named = rw (scl_named, sda_named) refl

pub samples_of-definitions : (scl sda : Finder) (text : List ℕ) (declarations : List Declaration) → IsDefinitions scl sda declarations → tokens_of 1 text ≡ declarations_tokens declarations →
    samples_of scl sda text ≡ Ok []
samples_of-definitions scl sda text declarations are spelled =
    ap (λ tokens. ended (run (state_at_first scl sda) tokens)) (spelled ∙ sym (append-nil (declarations_tokens declarations)))
    ∙ ap ended (run_declarations declarations [] scl sda [] [] [] are.are)
    ∙ alone scl sda (code_for scl declarations) (code_for sda declarations) (latest_after declarations []) are.scl_named are.sda_named
