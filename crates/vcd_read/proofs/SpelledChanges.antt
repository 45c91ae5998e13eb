-- What is accepted after the definitions is spelled by the grammar.
use Rattle.std.proofs.Common.{◌≡◌, ℕ, ◌<◌, ◌⊎◌, inl, inr, Bool, true, false, ◌==◌, nat_lt, List, [], ◌∷◌, ◌++◌, Option, Some, None, is_some, Result, Ok, Err, refl, ap, sym, ◌∙◌, subst, append_assoc, arith}
use Rattle.std.specs.Prelude.{if◌then◌else◌, option_to_list}
use Rattle.std.proofs.lemmas.Bool.{eqb-true}
use Rattle.std.proofs.lemmas.Bool.Decides.{nat_tests, eqb_tells}
use Rattle.vcd_read.specs.declared.dumps.Context.{Context}
use Rattle.vcd_read.specs.declared.dumps.Context.TheVariants as inside
use Rattle.vcd_read.specs.declared.dumps.Levels.{Levels}
use Rattle.vcd_read.specs.declared.errors.Refusal.{Refusal}
use Rattle.vcd_read.specs.declared.errors.Refusal.TheVariants.{BadToken}
use Rattle.vcd_read.specs.declared.samples.Level.{Level}
use Rattle.vcd_read.specs.declared.samples.Sample.{Sample}
use Rattle.vcd_read.specs.declared.words.Command.{Command}
use Rattle.vcd_read.specs.declared.words.Command.TheVariants.{Var, EndDefinitions, Changes, End, Other}
use Rattle.vcd_read.specs.Changes.{Step, stays, change, change_by, change_of_code, command_among_changes, both_changed, on_both, scalar_change, vector_levels, vector_change, time_change, time_reached}
use Rattle.vcd_read.specs.Dumps.{Run, step, run, and_then, ended}
use Rattle.vcd_read.specs.Grammar.{Skipped, without_end, Entry, scalar, vector, real, command, opens, closes, again, entry_tokens, IsEntry, AreEntries, is_skipped, opened_by, Stamp, entries_tokens, stamps_tokens, AreStamps, open_after, open_after_stamps}
use Rattle.vcd_read.specs.States.{State}
use Rattle.vcd_read.specs.Tokens.{Token}
use Rattle.vcd_read.specs.Words.{is_code, is_empty, is_end, command_of, level_of, is_vector, time_of}
use Rattle.vcd_read.proofs.StampLemmas.{Names, state_in, state_at, step_changes, step_code, both_changed-by, in_front, ended-front}

-- ---- what is accepted goes on

abbrev pub Accepts : Run → Type 0
Accepts said = (samples : List Sample) × (ended said ≡ Ok samples)

pub rest_ok : (front : List Sample) (rest : Result (List Sample) Refusal) (samples : List Sample) → in_front front rest ≡ Ok samples → (more : List Sample) × (rest ≡ Ok more)
rest_ok front (Ok more) samples is = (more, refl)
rest_ok front (Err refusal) samples is = absurd cc

pub accepts_step : (result : Step) (rest : State → Run) → Accepts (and_then result rest) → (p : State × Option Sample) × (result ≡ Ok p) × Accepts (rest p.0)
accepts_step (Ok p) rest accepted =
    (p, refl, rest_ok (option_to_list p.1) (ended (rest p.0)) accepted.0 (sym (ended-front (option_to_list p.1) (rest p.0)) ∙ accepted.1))
accepts_step (Err refusal) rest accepted = absurd cc

-- ---- what a token among the changes is

pub data Kind (s : State) (bytes : List ℕ) (line : ℕ) (p : State × Option Sample) : Type 0 where
  of_time : (digits : List ℕ) (time : ℕ) → bytes ≡ 35 ∷ digits → time_of digits ≡ Some time → time_reached s time line ≡ Ok p → Kind s bytes line p
  of_command : (k : Command) → command_of bytes ≡ Some k → stays (command_among_changes s (Some k) line) ≡ Ok p → Kind s bytes line p
  of_vector : (digits : List ℕ) (to : Levels) → ((bytes ≡ 98 ∷ digits) ⊎ (bytes ≡ 66 ∷ digits)) → is_vector digits ≡ true → (record s { context = inside.Change line (Some to) }, None) ≡ p → Kind s bytes line p
  of_real : (text : List ℕ) → (((bytes ≡ 114 ∷ text) ⊎ (bytes ≡ 82 ∷ text)) ⊎ ((bytes ≡ 115 ∷ text) ⊎ (bytes ≡ 83 ∷ text))) → is_empty text ≡ false → (record s { context = inside.Change line None }, None) ≡ p → Kind s bytes line p
  of_scalar : (value : ℕ) (code : List ℕ) (level : Level) → bytes ≡ value ∷ code → level_of value ≡ Some level → is_code code ≡ true → (both_changed code (on_both level) s, None) ≡ p → Kind s bytes line p

time_kind : (s : State) (digits : List ℕ) (line : ℕ) (p : State × Option Sample) (o : Option ℕ) → time_of digits ≡ o → time_change s o line ≡ Ok p → Kind s (35 ∷ digits) line p
time_kind s digits line p None is ok = absurd cc
time_kind s digits line p (Some time) is ok = of_time digits time refl is ok

pub ok_is : {A : Type 0} (x y : A) → (let r : Result A Refusal = Ok x in r) ≡ Ok y → x ≡ y
ok_is x y is = cc

vector_kind : (s : State) (first : ℕ) (digits : List ℕ) (line : ℕ) (p : State × Option Sample) (test : Bool) → (((first ∷ digits) ≡ 98 ∷ digits) ⊎ ((first ∷ digits) ≡ 66 ∷ digits)) → is_vector digits ≡ test → stays (vector_change s (vector_levels s digits) line) ≡ Ok p → Kind s (first ∷ digits) line p
vector_kind s first digits line p false letter is ok = let h = rw is at ok in absurd cc
vector_kind s first digits line p true letter is ok = of_vector digits _ letter is (ok_is _ _ (rw is at ok))

real_kind : (s : State) (first : ℕ) (text : List ℕ) (line : ℕ) (p : State × Option Sample) (none : Bool) →
    ((((first ∷ text) ≡ 114 ∷ text) ⊎ ((first ∷ text) ≡ 82 ∷ text)) ⊎ (((first ∷ text) ≡ 115 ∷ text) ⊎ ((first ∷ text) ≡ 83 ∷ text))) → is_empty text ≡ none →
    (let r : Step = if none then Err (BadToken line) else Ok (record s { context = inside.Change line None }, None) in r) ≡ Ok p → Kind s (first ∷ text) line p
real_kind s first text line p true letter is ok = absurd cc
real_kind s first text line p false letter is ok = of_real text letter is (ok_is _ _ ok)

code_kind : (s : State) (value : ℕ) (code : List ℕ) (level : Level) (line : ℕ) (p : State × Option Sample) (test : Bool) → level_of value ≡ Some level → is_code code ≡ test →
    stays (if test then Ok (both_changed code (on_both level) s) else Err (BadToken line)) ≡ Ok p → Kind s (value ∷ code) line p
code_kind s value code level line p true of_level is ok = of_scalar value code level refl of_level is (ok_is _ _ ok)
code_kind s value code level line p false of_level is ok = absurd cc

scalar_kind : (s : State) (value : ℕ) (code : List ℕ) (line : ℕ) (p : State × Option Sample) (o : Option Level) → level_of value ≡ o →
    stays (scalar_change s o code line) ≡ Ok p → Kind s (value ∷ code) line p
scalar_kind s value code line p None is ok = absurd cc
scalar_kind s value code line p (Some level) is ok = code_kind s value code level line p (is_code code) is refl ok

abbrev KindOf : State → List ℕ → ℕ → (State × Option Sample) → ℕ → Type 0
KindOf s rest line p first = change_by first rest s line ≡ Ok p → Kind s (first ∷ rest) line p

-- a byte that is this one
at_byte : (s : State) (rest : List ℕ) (line : ℕ) (p : State × Option Sample) (first byte : ℕ) → first ≡ byte → KindOf s rest line p byte → KindOf s rest line p first
at_byte s rest line p first byte is kind = let P : ℕ → Type 0 = λ n. KindOf s rest line p n in subst P (sym is) kind

other_byte : (s : State) (rest : List ℕ) (line : ℕ) (p : State × Option Sample) (first : ℕ) →
    (first == 35) ≡ false → (first == 36) ≡ false → (first == 98) ≡ false → (first == 66) ≡ false →
    (first == 114) ≡ false → (first == 82) ≡ false → (first == 115) ≡ false → (first == 83) ≡ false → KindOf s rest line p first
other_byte s rest line p first a b c d e f g h ok =
    scalar_kind s first rest line p (level_of first) refl (rw (a, b, c, d, e, f, g, h) at ok)

kind_of : (s : State) (bytes : List ℕ) (line : ℕ) (p : State × Option Sample) → change s bytes line ≡ Ok p → Kind s bytes line p
kind_of s [] line p ok = absurd cc
kind_of s (first ∷ rest) line p ok =
    elim (eqb_tells first 35) [
      | inl y ↦ at_byte s rest line p first 35 y.1 (λ h. time_kind s rest line p (time_of rest) refl h) ok
      | inr a ↦ elim (eqb_tells first 36) [
        | inl y ↦ at_byte s rest line p first 36 y.1 (λ h. of_command _ refl h) ok
        | inr b ↦ elim (eqb_tells first 98) [
          | inl y ↦ at_byte s rest line p first 98 y.1 (λ h. vector_kind s 98 rest line p (is_vector rest) (inl refl) refl h) ok
          | inr c ↦ elim (eqb_tells first 66) [
            | inl y ↦ at_byte s rest line p first 66 y.1 (λ h. vector_kind s 66 rest line p (is_vector rest) (inr refl) refl h) ok
            | inr d ↦ elim (eqb_tells first 114) [
              | inl y ↦ at_byte s rest line p first 114 y.1 (λ h. real_kind s 114 rest line p (is_empty rest) (inl (inl refl)) refl h) ok
              | inr e ↦ elim (eqb_tells first 82) [
                | inl y ↦ at_byte s rest line p first 82 y.1 (λ h. real_kind s 82 rest line p (is_empty rest) (inl (inr refl)) refl h) ok
                | inr f ↦ elim (eqb_tells first 115) [
                  | inl y ↦ at_byte s rest line p first 115 y.1 (λ h. real_kind s 115 rest line p (is_empty rest) (inr (inl refl)) refl h) ok
                  | inr g ↦ elim (eqb_tells first 83) [
                    | inl y ↦ at_byte s rest line p first 83 y.1 (λ h. real_kind s 83 rest line p (is_empty rest) (inr (inr refl)) refl h) ok
                    | inr h ↦ other_byte s rest line p first a.0 b.0 c.0 d.0 e.0 f.0 g.0 h.0 ok
                  ]
                ]
              ]
            ]
          ]
        ]
      ]
    ]

-- ---- entries and stamps of the tokens that are left

pub record Rest (time : ℕ) (is_open : Bool) (tokens : List Token) : Type 0 where
  pub entries : List Entry
  pub stamps : List Stamp
  pub spelled : tokens ≡ entries_tokens entries ++ stamps_tokens stamps
  pub entries_are : AreEntries time entries
  pub stamps_are : AreStamps time stamps
  pub closed : open_after_stamps (open_after (Some is_open) entries) stamps ≡ Some false

abbrev neither_opens_nor_closes : Entry → Type 0
neither_opens_nor_closes (opens token) = ⊥
neither_opens_nor_closes (closes token) = ⊥
neither_opens_nor_closes _ = Unit {0}

stays_open : (is_open : Bool) (entry : Entry) → neither_opens_nor_closes entry → opened_by is_open entry ≡ Some is_open
stays_open true (scalar token value code level) other = refl
stays_open false (scalar token value code level) other = refl
stays_open true (vector token digits code) other = refl
stays_open false (vector token digits code) other = refl
stays_open true (real token text code) other = refl
stays_open false (real token text code) other = refl
stays_open true (command skipped) other = refl
stays_open false (command skipped) other = refl
stays_open true (again token digits) other = refl
stays_open false (again token digits) other = refl
stays_open is_open (opens token) other = absurd other
stays_open is_open (closes token) other = absurd other

with_entry : (entry : Entry) (time : ℕ) (before now : Bool) (rest : List Token) → IsEntry time entry → opened_by before entry ≡ Some now → Rest time now rest →
    Rest time before (entry_tokens entry ++ rest)
with_entry entry time before now rest is opened r = record {
  entries = entry ∷ r.entries;
  stamps = r.stamps;
  spelled = ap (λ t. entry_tokens entry ++ t) r.spelled ∙ sym (append_assoc (entry_tokens entry) (entries_tokens r.entries) (stamps_tokens r.stamps));
  entries_are = (is, r.entries_are);
  stamps_are = r.stamps_are;
  closed = ap (λ o. open_after_stamps (open_after o r.entries) r.stamps) opened ∙ r.closed;
}

-- what is inside a skipped command, and what follows it
pub record Body (rest_is : List Token → Type 0) (tokens : List Token) : Type 0 where
  pub body : List Token
  pub close : Token
  pub rest : List Token
  pub spelled : tokens ≡ (body ++ (close ∷ [])) ++ rest
  pub inner : without_end body ≡ true
  pub last : is_end close.bytes ≡ true
  pub follows : rest_is rest

-- a code, and what follows it
pub record Coded (rest_is : List Token → Type 0) (tokens : List Token) : Type 0 where
  pub code : Token
  pub rest : List Token
  pub spelled : tokens ≡ code ∷ rest
  pub fits : is_code code.bytes ≡ true
  pub follows : rest_is rest

abbrev pub Parsed : Context → ℕ → Bool → List Token → Type 0
Parsed inside.Nothing time is_open tokens = Rest time is_open tokens
Parsed (inside.Skipped began) time is_open tokens = Body (Rest time is_open) tokens
Parsed (inside.Change began level) time is_open tokens = Coded (Rest time is_open) tokens
Parsed _ time is_open tokens = Unit {0}

abbrev AcceptsFrom : Names → Context → ℕ → (x y a b : Level) → Option ℕ → List Token → Type 0
AcceptsFrom n context time x y a b block tokens = Accepts (run (state_in n context time x y a b block) tokens)

abbrev Parses : List Token → Type 0
Parses tokens = (n : Names) (context : Context) (time : ℕ) (x y a b : Level) (block : Option ℕ) →
    AcceptsFrom n context time x y a b block tokens → Parsed context time (is_some block) tokens

-- ---- the end

parses_end : Parses []
parses_end n inside.Nothing time x y a b None accepted =
    record { entries = []; stamps = []; spelled = refl; entries_are = tt; stamps_are = tt; closed = refl }
parses_end n inside.Nothing time x y a b (Some line) accepted = let h = accepted.1 in absurd cc
parses_end n (inside.Skipped began) time x y a b None accepted = let h = accepted.1 in absurd cc
parses_end n (inside.Skipped began) time x y a b (Some line) accepted = let h = accepted.1 in absurd cc
parses_end n (inside.Change began level) time x y a b None accepted = let h = accepted.1 in absurd cc
parses_end n (inside.Change began level) time x y a b (Some line) accepted = let h = accepted.1 in absurd cc
parses_end n (inside.Var began so_far) time x y a b block accepted = tt
parses_end n (inside.EndDefinitions began) time x y a b block accepted = tt

-- ---- in a skipped command

pub body_more : (P : List Token → Type 0) (token : Token) (tokens : List Token) → is_end token.bytes ≡ false → Body P tokens → Body P (token ∷ tokens)
body_more P token tokens inner r = record {
  body = token ∷ r.body;
  close = r.close;
  rest = r.rest;
  spelled = ap (λ t. token ∷ t) r.spelled;
  inner = rw inner r.inner;
  last = r.last;
  follows = r.follows;
}

pub body_end : (P : List Token → Type 0) (token : Token) (tokens : List Token) → is_end token.bytes ≡ true → P tokens → Body P (token ∷ tokens)
body_end P token tokens is rest = record { body = []; close = token; rest = tokens; spelled = refl; inner = refl; last = is; follows = rest }

step_in_skipped : (n : Names) (began time : ℕ) (x y a b : Level) (block : Option ℕ) (token : List ℕ) (line : ℕ) →
    step (state_in n (inside.Skipped began) time x y a b block) token line
    ≡ Ok ((if is_end token then state_at n time x y a b block else state_in n (inside.Skipped began) time x y a b block), None)
unfolding step
step_in_skipped n began time x y a b block token line = refl

skipped_by : (n : Names) (began time : ℕ) (x y a b : Level) (block : Option ℕ) (token : Token) (tokens : List Token) (test : Bool) → is_end token.bytes ≡ test → Parses tokens →
    Accepts (run (if test then state_at n time x y a b block else state_in n (inside.Skipped began) time x y a b block) tokens) → Body (Rest time (is_some block)) (token ∷ tokens)
skipped_by n began time x y a b block token tokens true is each accepted =
    body_end (Rest time (is_some block)) token tokens is (each n inside.Nothing time x y a b block accepted)
skipped_by n began time x y a b block token tokens false is each accepted =
    body_more (Rest time (is_some block)) token tokens is (each n (inside.Skipped began) time x y a b block accepted)

parses_skipped : (n : Names) (began time : ℕ) (x y a b : Level) (block : Option ℕ) (token : Token) (tokens : List Token) → Parses tokens →
    AcceptsFrom n (inside.Skipped began) time x y a b block (token ∷ tokens) → Body (Rest time (is_some block)) (token ∷ tokens)
parses_skipped n began time x y a b block token tokens each accepted =
    let next = accepts_step (step (state_in n (inside.Skipped began) time x y a b block) token.bytes token.line) (λ s. run s tokens) accepted in
    let is = ok_is _ next.0 (sym (step_in_skipped n began time x y a b block token.bytes token.line) ∙ next.1) in
    skipped_by n began time x y a b block token tokens (is_end token.bytes) refl each
    (let P : (State × Option Sample) → Type 0 = λ q. Accepts (run q.0 tokens) in subst P (sym is) next.2)

-- ---- at a code

coded_by : (n : Names) (time : ℕ) (x y a b : Level) (block : Option ℕ) (level : Option Levels) (token : Token) (tokens : List Token) (test : Bool) (p : State × Option Sample) →
    is_code token.bytes ≡ test → stays (change_of_code (state_at n time x y a b block) level token.bytes token.line) ≡ Ok p → Parses tokens → Accepts (run p.0 tokens) →
    Coded (Rest time (is_some block)) (token ∷ tokens)
coded_by n time x y a b block None token tokens true p is ok each accepted =
    let same = ok_is _ p (rw is at ok) in
    record {
      code = token;
      rest = tokens;
      spelled = refl;
      fits = is;
      follows = each n inside.Nothing time x y a b block (let P : (State × Option Sample) → Type 0 = λ q. Accepts (run q.0 tokens) in subst P (sym same) accepted);
    }
coded_by n time x y a b block None token tokens false p is ok each accepted = let h = rw is at ok in absurd cc
coded_by n time x y a b block (Some level) token tokens true p is ok each accepted =
    let same = ok_is _ p (rw is at ok) in
    record {
      code = token;
      rest = tokens;
      spelled = refl;
      fits = is;
      follows = each n inside.Nothing time x y _ _ block (let P : State → Type 0 = λ s. Accepts (run s tokens) in
          subst P (both_changed-by n time x y a b block token.bytes level) (let Q : (State × Option Sample) → Type 0 = λ q. Accepts (run q.0 tokens) in subst Q (sym same) accepted));
    }
coded_by n time x y a b block (Some level) token tokens false p is ok each accepted = let h = rw is at ok in absurd cc

parses_code : (n : Names) (began time : ℕ) (x y a b : Level) (block : Option ℕ) (level : Option Levels) (token : Token) (tokens : List Token) → Parses tokens →
    AcceptsFrom n (inside.Change began level) time x y a b block (token ∷ tokens) → Coded (Rest time (is_some block)) (token ∷ tokens)
parses_code n began time x y a b block level token tokens each accepted =
    let next = accepts_step (step (state_in n (inside.Change began level) time x y a b block) token.bytes token.line) (λ s. run s tokens) accepted in
    coded_by n time x y a b block level token tokens (is_code token.bytes) next.0 refl
    (sym (step_code n began time x y a b block level token.bytes token.line) ∙ next.1) each next.2

-- ---- outside commands

-- from the state that the token leaves
pub accepts_from : (q p : State × Option Sample) (tokens : List Token) → q ≡ p → Accepts (run p.0 tokens) → Accepts (run q.0 tokens)
accepts_from q p tokens is accepted = let P : (State × Option Sample) → Type 0 = λ r. Accepts (run r.0 tokens) in subst P (sym is) accepted

same_tokens : (time : ℕ) (is_open : Bool) (tokens other : List Token) → tokens ≡ other → Rest time is_open other → Rest time is_open tokens
same_tokens time is_open tokens other is r = let P : List Token → Type 0 = λ t. Rest time is_open t in subst P (sym is) r

vector_entry : (time : ℕ) (is_open : Bool) (token : Token) (digits : List ℕ) (tokens : List Token) →
    ((token.bytes ≡ 98 ∷ digits) ⊎ (token.bytes ≡ 66 ∷ digits)) → is_vector digits ≡ true → Coded (Rest time is_open) tokens → Rest time is_open (token ∷ tokens)
vector_entry time is_open token digits tokens letter is r =
    same_tokens time is_open (token ∷ tokens) (token ∷ (r.code ∷ r.rest)) (ap (λ t. token ∷ t) r.spelled)
    (with_entry (vector token digits r.code) time is_open is_open r.rest (letter, is, r.fits) (stays_open is_open (vector token digits r.code) tt) r.follows)

real_entry : (time : ℕ) (is_open : Bool) (token : Token) (text : List ℕ) (tokens : List Token) →
    (((token.bytes ≡ 114 ∷ text) ⊎ (token.bytes ≡ 82 ∷ text)) ⊎ ((token.bytes ≡ 115 ∷ text) ⊎ (token.bytes ≡ 83 ∷ text))) → is_empty text ≡ false → Coded (Rest time is_open) tokens → Rest time is_open (token ∷ tokens)
real_entry time is_open token text tokens letter some r =
    same_tokens time is_open (token ∷ tokens) (token ∷ (r.code ∷ r.rest)) (ap (λ t. token ∷ t) r.spelled)
    (with_entry (real token text r.code) time is_open is_open r.rest (letter, some, r.fits) (stays_open is_open (real token text r.code) tt) r.follows)

command_entry : (time : ℕ) (is_open : Bool) (token : Token) (tokens : List Token) (k : Command) → command_of token.bytes ≡ Some k → is_skipped (Some k) ≡ true → Body (Rest time is_open) tokens →
    Rest time is_open (token ∷ tokens)
command_entry time is_open token tokens k is skipped r =
    let c : Skipped = record { word = token; body = r.body; close = r.close } in
    same_tokens time is_open (token ∷ tokens) (token ∷ ((r.body ++ (r.close ∷ [])) ++ r.rest)) (ap (λ t. token ∷ t) r.spelled)
    (with_entry (command c) time is_open is_open r.rest (ap is_skipped is ∙ skipped, (r.inner, r.last)) (stays_open is_open (command c) tt) r.follows)

after_command : (n : Names) (time : ℕ) (x y a b : Level) (block : Option ℕ) (token : Token) (tokens : List Token) (k : Command) (p : State × Option Sample) →
    command_of token.bytes ≡ Some k → stays (command_among_changes (state_at n time x y a b block) (Some k) token.line) ≡ Ok p → Parses tokens → Accepts (run p.0 tokens) →
    Rest time (is_some block) (token ∷ tokens)
after_command n time x y a b block token tokens Var p is ok each accepted =
    command_entry time (is_some block) token tokens Var is refl
    (each n (inside.Skipped token.line) time x y a b block (accepts_from _ p tokens (ok_is _ p ok) accepted))
after_command n time x y a b block token tokens EndDefinitions p is ok each accepted =
    command_entry time (is_some block) token tokens EndDefinitions is refl
    (each n (inside.Skipped token.line) time x y a b block (accepts_from _ p tokens (ok_is _ p ok) accepted))
after_command n time x y a b block token tokens Other p is ok each accepted =
    command_entry time (is_some block) token tokens Other is refl
    (each n (inside.Skipped token.line) time x y a b block (accepts_from _ p tokens (ok_is _ p ok) accepted))
after_command n time x y a b None token tokens Changes p is ok each accepted =
    with_entry (opens token) time false true tokens is refl
    (each n inside.Nothing time x y a b (Some token.line) (accepts_from _ p tokens (ok_is _ p ok) accepted))
after_command n time x y a b (Some line) token tokens Changes p is ok each accepted = absurd cc
after_command n time x y a b None token tokens End p is ok each accepted = absurd cc
after_command n time x y a b (Some line) token tokens End p is ok each accepted =
    with_entry (closes token) time true false tokens is refl
    (each n inside.Nothing time x y a b None (accepts_from _ p tokens (ok_is _ p ok) accepted))

with_stamp : (stamp : Token) (digits : List ℕ) (before time : ℕ) (is_open : Bool) (tokens : List Token) → stamp.bytes ≡ 35 ∷ digits → time_of digits ≡ Some time → before < time →
    Rest time is_open tokens → Rest before is_open (stamp ∷ tokens)
with_stamp stamp digits before time is_open tokens is of_digits after r = record {
  entries = [];
  stamps = record { mark = stamp; digits = digits; time = time; entries = r.entries } ∷ r.stamps;
  spelled = ap (λ t. stamp ∷ t) r.spelled;
  entries_are = tt;
  stamps_are = (is, of_digits, after, r.entries_are, r.stamps_are);
  closed = r.closed;
}

after_time : (n : Names) (time : ℕ) (x y a b : Level) (block : Option ℕ) (token : Token) (tokens : List Token) (digits : List ℕ) (next : ℕ) (p : State × Option Sample) (less equal : Bool) →
    nat_lt next time ≡ less → (next == time) ≡ equal → token.bytes ≡ 35 ∷ digits → time_of digits ≡ Some next →
    time_reached (state_at n time x y a b block) next token.line ≡ Ok p → Parses tokens → Accepts (run p.0 tokens) → Rest time (is_some block) (token ∷ tokens)
after_time n time x y a b block token tokens digits next p true equal is_less is_equal is of_digits ok each accepted = let h = rw is_less at ok in absurd cc
after_time n time x y a b block token tokens digits next p false true is_less is_equal is of_digits ok each accepted =
    let same = ok_is _ p (rw (is_less, is_equal) at ok) in
    let equal : next ≡ time = eqb-true next time is_equal in
    with_entry (again token digits) time (is_some block) (is_some block) tokens (is, of_digits ∙ ap Some equal) (stays_open (is_some block) (again token digits) tt)
    (each n inside.Nothing time x y a b block (accepts_from _ p tokens same accepted))
after_time n time x y a b block token tokens digits next p false false is_less is_equal is of_digits ok each accepted =
    let same = ok_is _ p (rw (is_less, is_equal) at ok) in
    let after : time < next = grind (arith, nat_tests) in
    with_stamp token digits time next (is_some block) tokens is of_digits after
    (each n inside.Nothing next a b a b block (accepts_from _ p tokens same accepted))

after_token : (n : Names) (time : ℕ) (x y a b : Level) (block : Option ℕ) (token : Token) (tokens : List Token) (p : State × Option Sample) →
    Kind (state_at n time x y a b block) token.bytes token.line p → Parses tokens → Accepts (run p.0 tokens) → Rest time (is_some block) (token ∷ tokens)
after_token n time x y a b block token tokens p (of_time digits next is of_digits ok) each accepted =
    after_time n time x y a b block token tokens digits next p (nat_lt next time) (next == time) refl refl is of_digits ok each accepted
after_token n time x y a b block token tokens p (of_command k is ok) each accepted = after_command n time x y a b block token tokens k p is ok each accepted
after_token n time x y a b block token tokens p (of_vector digits to letter is same) each accepted =
    vector_entry time (is_some block) token digits tokens letter is
    (each n (inside.Change token.line (Some to)) time x y a b block (accepts_from _ p tokens same accepted))
after_token n time x y a b block token tokens p (of_real text letter some same) each accepted =
    real_entry time (is_some block) token text tokens letter some
    (each n (inside.Change token.line None) time x y a b block (accepts_from _ p tokens same accepted))
after_token n time x y a b block token tokens p (of_scalar value code level is of_level of_code same) each accepted =
    with_entry (scalar token value code level) time (is_some block) (is_some block) tokens (is, of_level, of_code) (stays_open (is_some block) (scalar token value code level) tt)
    (each n inside.Nothing time x y _ _ block (let P : State → Type 0 = λ s. Accepts (run s tokens) in
    subst P (both_changed-by n time x y a b block code (on_both level)) (accepts_from _ p tokens same accepted)))

parses_more : (token : Token) (tokens : List Token) → Parses tokens → Parses (token ∷ tokens)
parses_more token tokens each n inside.Nothing time x y a b block accepted =
    let next = accepts_step (step (state_at n time x y a b block) token.bytes token.line) (λ s. run s tokens) accepted in
    after_token n time x y a b block token tokens next.0
    (kind_of (state_at n time x y a b block) token.bytes token.line next.0 (sym (step_changes n time x y a b block token.bytes token.line) ∙ next.1)) each next.2
parses_more token tokens each n (inside.Skipped began) time x y a b block accepted = parses_skipped n began time x y a b block token tokens each accepted
parses_more token tokens each n (inside.Change began level) time x y a b block accepted = parses_code n began time x y a b block level token tokens each accepted
parses_more token tokens each n (inside.Var began so_far) time x y a b block accepted = tt
parses_more token tokens each n (inside.EndDefinitions began) time x y a b block accepted = tt

pub parses : (tokens : List Token) → Parses tokens
parses [] = parses_end
parses (token ∷ tokens) = parses_more token tokens (parses tokens)
