-- The definitions that a dump begins with, where it is accepted, or refused for want of a signal.
use Rattle.std.proofs.Common.{◌≡◌, ℕ, ◌⊎◌, inl, inr, Bool, true, false, ◌&&◌, List, [], ◌∷◌, ◌++◌, Option, Some, None, Result, Ok, Err, refl, ap, sym, ◌∙◌, subst, append_assoc, codes}
use Rattle.std.specs.Prelude.{if◌then◌else◌, not}
use Rattle.std.specs.Str.{bytes_eq}
use Rattle.vcd_read.specs.declared.dumps.Context.{Context}
use Rattle.vcd_read.specs.declared.dumps.Context.TheVariants as inside
use Rattle.vcd_read.specs.declared.dumps.Seen.{Seen}
use Rattle.vcd_read.specs.declared.dumps.Seen.TheVariants as seen
use Rattle.vcd_read.specs.declared.errors.Refusal.{Refusal}
use Rattle.vcd_read.specs.declared.errors.Refusal.TheVariants.{NoSignal, BadToken}
use Rattle.vcd_read.specs.declared.samples.Sample.{Sample}
use Rattle.vcd_read.specs.declared.words.Command.{Command}
use Rattle.vcd_read.specs.declared.words.Command.TheVariants.{Var, EndDefinitions, Changes, End, Other}
use Rattle.vcd_read.specs.Changes.{stays}
use Rattle.vcd_read.specs.Definitions.{opened, var_token}
use Rattle.vcd_read.specs.Dumps.{Run, step, run, and_then, ended}
use Rattle.vcd_read.specs.Grammar.{Skipped, skipped_tokens, EndsOnce, Declaration, var, other, declaration_tokens, IsDeclaration, declarations_tokens, AreDeclarations}
use Rattle.vcd_read.specs.Probes.{Finder}
use Rattle.vcd_read.specs.States.{State, state_at_first}
use Rattle.vcd_read.specs.Tokens.{Token, is_white, line_after, ends_before, put_before, tokens_of}
use Rattle.vcd_read.specs.Words.{is_empty, is_end, command_of}
use Rattle.vcd_read.proofs.DeclarationLemmas.{defining, code_after, declared-by, step_definition, step_var, step_var_end, step_end_definitions}
use Rattle.vcd_read.proofs.RunLemmas.{run_token, step_skipped, step_skipped_end}
use Rattle.vcd_read.proofs.SpelledChanges.{Body, body_more, body_end}

-- accepted, or refused for want of a signal
abbrev pub IsRead : Result (List Sample) Refusal → Type 0
IsRead (Ok samples) = Unit {0}
IsRead (Err (NoSignal signal)) = Unit {0}
IsRead (Err _) = ⊥

abbrev pub Reads : Run → Type 0
Reads said = IsRead (ended said)

reads_next : (s next : State) (token : Token) (tokens : List Token) → step s token.bytes token.line ≡ Ok (next, None) → Reads (run s (token ∷ tokens)) → Reads (run next tokens)
reads_next s next token tokens is reads = let P : Run → Type 0 = λ said. Reads said in subst P (run_token s next token tokens is) reads

not_bad : (s : State) (token : Token) (tokens : List Token) (line : ℕ) → step s token.bytes token.line ≡ Err (BadToken line) → Reads (run s (token ∷ tokens)) → ⊥
not_bad s token tokens line is reads =
    let P : Run → Type 0 = λ said. Reads said in
    subst P (ap (λ result. and_then result (λ next. run next tokens)) is) reads

-- ---- what the tokens are

-- `$enddefinitions .. $end`, and what follows it
pub record Ended (tokens : List Token) : Type 0 where
  pub command : Skipped
  pub rest : List Token
  pub spelled : tokens ≡ skipped_tokens command ++ rest
  pub is : command_of command.word.bytes ≡ Some EndDefinitions
  pub ends : EndsOnce command

pub record Definitions (tokens : List Token) : Type 0 where
  pub declarations : List Declaration
  pub rest : List Token
  pub spelled : tokens ≡ declarations_tokens declarations ++ rest
  pub are : AreDeclarations declarations
  pub follows : (rest ≡ []) ⊎ Ended rest

-- the next token, which is not `$end`
record Next (rest_is : List Token → Type 0) (tokens : List Token) : Type 0 where
  pub token : Token
  pub rest : List Token
  pub spelled : tokens ≡ token ∷ rest
  pub inner : is_end token.bytes ≡ false
  pub some : is_empty token.bytes ≡ false
  pub follows : rest_is rest

abbrev InReference : List Token → Type 0
InReference tokens = Body Definitions tokens

abbrev InCode : List Token → Type 0
InCode tokens = Next InReference tokens

abbrev InSize : List Token → Type 0
InSize tokens = Next InCode tokens

abbrev InType : List Token → Type 0
InType tokens = Next InSize tokens

abbrev InVar : Seen → List Token → Type 0
InVar seen.Nothing tokens = Next InType tokens
InVar seen.Type tokens = InType tokens
InVar (seen.Size one_bit) tokens = InSize tokens
InVar (seen.Code one_bit) tokens = InCode tokens
InVar seen.Reference tokens = InReference tokens

abbrev Parsed : Context → List Token → Type 0
Parsed inside.Nothing tokens = Definitions tokens
Parsed (inside.Skipped began) tokens = Body Definitions tokens
Parsed (inside.Var began so_far) tokens = InVar so_far tokens
Parsed (inside.EndDefinitions began) tokens = Body (λ rest. Unit {0}) tokens
Parsed (inside.Change began level) tokens = Unit {0}

-- tokens are never empty
abbrev Filled : List Token → Type 0
Filled [] = Unit {0}
Filled (token ∷ tokens) = (is_empty token.bytes ≡ false) × Filled tokens

abbrev Parses : List Token → Type 0
Parses tokens = (scl sda : Finder) (k m latest : List ℕ) (context : Context) → Reads (run (defining scl sda context k m latest) tokens) → Parsed context tokens

-- ---- the end of the text

parses_end : Parses []
parses_end scl sda k m latest inside.Nothing reads = record { declarations = []; rest = []; spelled = refl; are = tt; follows = inl refl }
parses_end scl sda k m latest (inside.Skipped began) reads = absurd reads
parses_end scl sda k m latest (inside.Var began so_far) reads = absurd reads
parses_end scl sda k m latest (inside.EndDefinitions began) reads = absurd reads
parses_end scl sda k m latest (inside.Change began level) reads = tt

-- ---- in a command

skipped_by : (scl sda : Finder) (k m latest : List ℕ) (began : ℕ) (token : Token) (tokens : List Token) (test : Bool) → is_end token.bytes ≡ test → Parses tokens →
    Reads (run (defining scl sda (inside.Skipped began) k m latest) (token ∷ tokens)) → Body Definitions (token ∷ tokens)
skipped_by scl sda k m latest began token tokens true is each reads =
    let s = defining scl sda inside.Nothing k m latest in
    body_end Definitions token tokens is
    (each scl sda k m latest inside.Nothing (reads_next (defining scl sda (inside.Skipped began) k m latest) s token tokens (step_skipped_end s began token.line token.bytes is) reads))
skipped_by scl sda k m latest began token tokens false is each reads =
    let s = defining scl sda (inside.Skipped began) k m latest in
    body_more Definitions token tokens is
    (each scl sda k m latest (inside.Skipped began) (reads_next s s token tokens (step_skipped s began token.line token.bytes is) reads))

ending_by : (scl sda : Finder) (k m latest : List ℕ) (began : ℕ) (token : Token) (tokens : List Token) (test : Bool) → is_end token.bytes ≡ test → Parses tokens →
    Reads (run (defining scl sda (inside.EndDefinitions began) k m latest) (token ∷ tokens)) → Body (λ rest. Unit {0}) (token ∷ tokens)
ending_by scl sda k m latest began token tokens true is each reads = body_end (λ rest. Unit {0}) token tokens is tt
ending_by scl sda k m latest began token tokens false is each reads =
    let s = defining scl sda (inside.EndDefinitions began) k m latest in
    body_more (λ rest. Unit {0}) token tokens is
    (each scl sda k m latest (inside.EndDefinitions began) (reads_next s s token tokens (step_end_definitions scl sda began k m latest token.bytes token.line is) reads))

-- one more token of a `$var`, which is not its `$end`
inner_reads : (scl sda : Finder) (k m latest : List ℕ) (began : ℕ) (so_far : Seen) (token : Token) (tokens : List Token) → is_end token.bytes ≡ false →
    Reads (run (defining scl sda (inside.Var began so_far) k m latest) (token ∷ tokens)) →
    Reads (run (var_token began so_far (defining scl sda (inside.Var began so_far) k m latest) token.bytes) tokens)
inner_reads scl sda k m latest began so_far token tokens inner reads =
    let s = defining scl sda (inside.Var began so_far) k m latest in
    reads_next s (var_token began so_far s token.bytes) token tokens (step_var scl sda began so_far k m latest token.bytes token.line inner) reads

abbrev AreFew : Seen → Type 0
AreFew seen.Reference = ⊥
AreFew _ = Unit {0}

step_few : (scl sda : Finder) (began : ℕ) (so_far : Seen) (k m latest token : List ℕ) (line : ℕ) → AreFew so_far → is_end token ≡ true →
    step (defining scl sda (inside.Var began so_far) k m latest) token line ≡ Err (BadToken line)
unfolding step
step_few scl sda began seen.Nothing k m latest token line few is = rw is refl
step_few scl sda began seen.Type k m latest token line few is = rw is refl
step_few scl sda began (seen.Size one_bit) k m latest token line few is = rw is refl
step_few scl sda began (seen.Code one_bit) k m latest token line few is = rw is refl
step_few scl sda began seen.Reference k m latest token line few is = absurd few

few_by : (scl sda : Finder) (k m latest : List ℕ) (began : ℕ) (so_far : Seen) (token : Token) (tokens : List Token) → AreFew so_far → is_end token.bytes ≡ true →
    Reads (run (defining scl sda (inside.Var began so_far) k m latest) (token ∷ tokens)) → ⊥
few_by scl sda k m latest began so_far token tokens few is reads =
    not_bad (defining scl sda (inside.Var began so_far) k m latest) token tokens token.line (step_few scl sda began so_far k m latest token.bytes token.line few is) reads

var_by : (scl sda : Finder) (k m latest : List ℕ) (began : ℕ) (so_far : Seen) (token : Token) (tokens : List Token) (test : Bool) → is_end token.bytes ≡ test → is_empty token.bytes ≡ false → Parses tokens →
    Reads (run (defining scl sda (inside.Var began so_far) k m latest) (token ∷ tokens)) → InVar so_far (token ∷ tokens)
var_by scl sda k m latest began seen.Nothing token tokens false is some each reads =
    record {
      token = token;
      rest = tokens;
      spelled = refl;
      inner = is;
      some = some;
      follows = each scl sda k m latest (inside.Var began seen.Type) (inner_reads scl sda k m latest began seen.Nothing token tokens is reads);
    }
var_by scl sda k m latest began seen.Type token tokens false is some each reads =
    record {
      token = token;
      rest = tokens;
      spelled = refl;
      inner = is;
      some = some;
      follows = each scl sda k m latest (inside.Var began (seen.Size (bytes_eq token.bytes (codes "1")))) (inner_reads scl sda k m latest began seen.Type token tokens is reads);
    }
var_by scl sda k m latest began (seen.Size one_bit) token tokens false is some each reads =
    record {
      token = token;
      rest = tokens;
      spelled = refl;
      inner = is;
      some = some;
      follows = each scl sda k m token.bytes (inside.Var began (seen.Code one_bit)) (inner_reads scl sda k m latest began (seen.Size one_bit) token tokens is reads);
    }
var_by scl sda k m latest began (seen.Code one_bit) token tokens false is some each reads =
    let P : State → Type 0 = λ s. Reads (run (record s { context = inside.Var began seen.Reference }) tokens) in
    record {
      token = token;
      rest = tokens;
      spelled = refl;
      inner = is;
      some = some;
      follows = each scl sda (code_after one_bit token.bytes latest scl k) (code_after one_bit token.bytes latest sda m) latest (inside.Var began seen.Reference)
          (subst P (declared-by one_bit scl sda (inside.Var began (seen.Code one_bit)) k m latest token.bytes) (inner_reads scl sda k m latest began (seen.Code one_bit) token tokens is reads));
    }
var_by scl sda k m latest began seen.Reference token tokens false is some each reads =
    body_more Definitions token tokens is
    (each scl sda k m latest (inside.Var began seen.Reference) (inner_reads scl sda k m latest began seen.Reference token tokens is reads))
var_by scl sda k m latest began seen.Reference token tokens true is some each reads =
    body_end Definitions token tokens is
    (each scl sda k m latest inside.Nothing
    (reads_next (defining scl sda (inside.Var began seen.Reference) k m latest) (defining scl sda inside.Nothing k m latest) token tokens (step_var_end scl sda began k m latest token.bytes token.line is) reads))
var_by scl sda k m latest began seen.Nothing token tokens true is some each reads = absurd (few_by scl sda k m latest began seen.Nothing token tokens tt is reads)
var_by scl sda k m latest began seen.Type token tokens true is some each reads = absurd (few_by scl sda k m latest began seen.Type token tokens tt is reads)
var_by scl sda k m latest began (seen.Size one_bit) token tokens true is some each reads = absurd (few_by scl sda k m latest began (seen.Size one_bit) token tokens tt is reads)
var_by scl sda k m latest began (seen.Code one_bit) token tokens true is some each reads = absurd (few_by scl sda k m latest began (seen.Code one_bit) token tokens tt is reads)

-- ---- one more declaration

with_declaration : (declaration : Declaration) (tokens rest : List Token) → tokens ≡ declaration_tokens declaration ++ rest → IsDeclaration declaration → Definitions rest → Definitions tokens
with_declaration declaration tokens rest is declares r = record {
  declarations = declaration ∷ r.declarations;
  rest = r.rest;
  spelled = is ∙ ap (λ t. declaration_tokens declaration ++ t) r.spelled ∙ sym (append_assoc (declaration_tokens declaration) (declarations_tokens r.declarations) r.rest);
  are = (declares, r.are);
  follows = r.follows;
}

inner_more : (token : List ℕ) (more : Bool) → is_end token ≡ false → more ≡ true → (not (is_end token) && more) ≡ true
inner_more token more inner none = rw (inner, none) refl

var_declaration : (word : Token) (tokens : List Token) → command_of word.bytes ≡ Some Var → Next InType tokens → Definitions (word ∷ tokens)
var_declaration word tokens is a =
    let b = a.follows in
    let c = b.follows in
    let d = c.follows in
    let e = d.follows in
    with_declaration (var word a.token b.token c.token d.token e.body e.close) (word ∷ tokens) e.rest
    (ap (λ t. word ∷ t) (a.spelled ∙ ap (λ t. a.token ∷ t) (b.spelled ∙ ap (λ t. b.token ∷ t) (c.spelled ∙ ap (λ t. c.token ∷ t) (d.spelled ∙ ap (λ t. d.token ∷ t) e.spelled)))))
    (is, inner_more a.token.bytes _ a.inner (inner_more b.token.bytes _ b.inner (inner_more c.token.bytes _ c.inner (inner_more d.token.bytes _ d.inner e.inner))), c.some, e.last)
    e.follows

other_declaration : (word : Token) (tokens : List Token) → command_of word.bytes ≡ Some Other → Body Definitions tokens → Definitions (word ∷ tokens)
other_declaration word tokens is r =
    with_declaration (other (record { word = word; body = r.body; close = r.close })) (word ∷ tokens) r.rest (ap (λ t. word ∷ t) r.spelled) (is, (r.inner, r.last)) r.follows

end_declaration : (word : Token) (tokens : List Token) → command_of word.bytes ≡ Some EndDefinitions → Body (λ rest. Unit {0}) tokens → Definitions (word ∷ tokens)
end_declaration word tokens is r = record {
  declarations = [];
  rest = word ∷ tokens;
  spelled = refl;
  are = tt;
  follows = inr (record {
    command = record { word = word; body = r.body; close = r.close };
    rest = r.rest;
    spelled = ap (λ t. word ∷ t) r.spelled;
    is = is;
    ends = (r.inner, r.last);
  });
}

-- ---- outside commands

step_outside : (scl sda : Finder) (k m latest : List ℕ) (word : Token) (o : Option Command) → command_of word.bytes ≡ o →
    step (defining scl sda inside.Nothing k m latest) word.bytes word.line ≡ stays (opened word.line (defining scl sda inside.Nothing k m latest) o)
step_outside scl sda k m latest word o is =
    step_definition scl sda k m latest word.bytes word.line ∙ ap (λ c. stays (opened word.line (defining scl sda inside.Nothing k m latest) c)) is

declared_by : (scl sda : Finder) (k m latest : List ℕ) (word : Token) (tokens : List Token) (o : Option Command) → command_of word.bytes ≡ o → Parses tokens →
    Reads (run (defining scl sda inside.Nothing k m latest) (word ∷ tokens)) → Definitions (word ∷ tokens)
declared_by scl sda k m latest word tokens (Some Var) is each reads =
    let d = defining scl sda in
    var_declaration word tokens is
    (each scl sda k m latest (inside.Var word.line seen.Nothing)
    (reads_next (d inside.Nothing k m latest) (d (inside.Var word.line seen.Nothing) k m latest) word tokens (step_outside scl sda k m latest word (Some Var) is) reads))
declared_by scl sda k m latest word tokens (Some Other) is each reads =
    let d = defining scl sda in
    other_declaration word tokens is
    (each scl sda k m latest (inside.Skipped word.line)
    (reads_next (d inside.Nothing k m latest) (d (inside.Skipped word.line) k m latest) word tokens (step_outside scl sda k m latest word (Some Other) is) reads))
declared_by scl sda k m latest word tokens (Some EndDefinitions) is each reads =
    let d = defining scl sda in
    end_declaration word tokens is
    (each scl sda k m latest (inside.EndDefinitions word.line)
    (reads_next (d inside.Nothing k m latest) (d (inside.EndDefinitions word.line) k m latest) word tokens (step_outside scl sda k m latest word (Some EndDefinitions) is) reads))
declared_by scl sda k m latest word tokens (Some Changes) is each reads =
    absurd (not_bad (defining scl sda inside.Nothing k m latest) word tokens word.line (step_outside scl sda k m latest word (Some Changes) is) reads)
declared_by scl sda k m latest word tokens (Some End) is each reads =
    absurd (not_bad (defining scl sda inside.Nothing k m latest) word tokens word.line (step_outside scl sda k m latest word (Some End) is) reads)
declared_by scl sda k m latest word tokens None is each reads =
    absurd (not_bad (defining scl sda inside.Nothing k m latest) word tokens word.line (step_outside scl sda k m latest word None is) reads)

parses_more : (token : Token) (tokens : List Token) → is_empty token.bytes ≡ false → Parses tokens → Parses (token ∷ tokens)
parses_more token tokens some each scl sda k m latest inside.Nothing reads = declared_by scl sda k m latest token tokens (command_of token.bytes) refl each reads
parses_more token tokens some each scl sda k m latest (inside.Skipped began) reads = skipped_by scl sda k m latest began token tokens (is_end token.bytes) refl each reads
parses_more token tokens some each scl sda k m latest (inside.Var began so_far) reads = var_by scl sda k m latest began so_far token tokens (is_end token.bytes) refl some each reads
parses_more token tokens some each scl sda k m latest (inside.EndDefinitions began) reads = ending_by scl sda k m latest began token tokens (is_end token.bytes) refl each reads
parses_more token tokens some each scl sda k m latest (inside.Change began level) reads = tt

parses : (tokens : List Token) → Filled tokens → Parses tokens
parses [] filled = parses_end
parses (token ∷ tokens) filled = parses_more token tokens filled.0 (parses tokens filled.1)

-- ---- whole texts

filled_first : (byte : ℕ) (tokens : List Token) → Filled tokens → Filled (put_before byte tokens)
filled_first byte [] filled = tt
filled_first byte (token ∷ tokens) filled = (refl, filled.1)

filled_by : (a b : Bool) (x y z : List Token) → Filled x → Filled y → Filled z → Filled (if a then x else if b then y else z)
filled_by true b x y z of_x of_y of_z = of_x
filled_by false true x y z of_x of_y of_z = of_y
filled_by false false x y z of_x of_y of_z = of_z

filled : (bytes : List ℕ) (line : ℕ) → Filled (tokens_of line bytes)
filled [] line = tt
filled (byte ∷ bytes) line =
    filled_by (is_white byte) (ends_before bytes) _ _ _ (filled bytes (line_after line byte)) (refl, filled bytes line) (filled_first byte (tokens_of line bytes) (filled bytes line))

pub definitions_of : (scl sda : Finder) (text : List ℕ) → Reads (run (state_at_first scl sda) (tokens_of 1 text)) → Definitions (tokens_of 1 text)
definitions_of scl sda text reads = parses (tokens_of 1 text) (filled text 1) scl sda [] [] [] inside.Nothing reads
