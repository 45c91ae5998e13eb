-- What single tokens do, in the places of the grammar.
use Rattle.std.proofs.Common.{◌≡◌, ℕ, Bool, true, false, ◌&&◌, ◌==◌, List, [], ◌∷◌, ◌++◌, Some, None, Ok, Err, refl, ap, sym, ◌∙◌, subst}
use Rattle.std.specs.Prelude.{if◌then◌else◌, not}
use Rattle.std.proofs.lemmas.Bool.{eqb-true}
use Rattle.vcd_read.specs.declared.dumps.Context.TheVariants as inside
use Rattle.vcd_read.specs.declared.samples.Level.{Level}
use Rattle.vcd_read.specs.declared.words.Command.{Command}
use Rattle.vcd_read.specs.Changes.{stays, change, change_by, command_among_changes, both_changed, on_both, scalar_change}
use Rattle.vcd_read.specs.Dumps.{Run, step, run, and_then, with_front}
use Rattle.vcd_read.specs.Grammar.{without_end}
use Rattle.vcd_read.specs.States.{State}
use Rattle.vcd_read.specs.Tokens.{Token}
use Rattle.vcd_read.specs.Words.{is_end, command_of, level_of, is_code}

pub front_none : (said : Run) → with_front [] said ≡ said
front_none (Ok p) = refl
front_none (Err refusal) = refl

pub run_token : (s next : State) (token : Token) (tokens : List Token) → step s token.bytes token.line ≡ Ok (next, None) → run s (token ∷ tokens) ≡ run next tokens
run_token s next token tokens e = ap (λ r. and_then r (λ n. run n tokens)) e ∙ front_none (run next tokens)

-- ---- tests

pub not_true : (a : Bool) → not a ≡ true → a ≡ false
not_true true h = absurd cc
not_true false h = refl

pub and_both : (a b : Bool) → (a && b) ≡ true → (a ≡ true) × (b ≡ true)
and_both true b h = (refl, h)
and_both false b h = absurd cc

-- ---- skipped commands

pub step_skipped : (s : State) (began line : ℕ) (token : List ℕ) → is_end token ≡ false →
    step (record s { context = inside.Skipped began }) token line ≡ Ok (record s { context = inside.Skipped began }, None)
unfolding step
step_skipped s began line token other = rw other refl

pub step_skipped_end : (s : State) (began line : ℕ) (token : List ℕ) → is_end token ≡ true →
    step (record s { context = inside.Skipped began }) token line ≡ Ok (record s { context = inside.Nothing }, None)
unfolding step
step_skipped_end s began line token is = rw is refl

pub run_skipped : (body : List Token) (close : Token) (rest : List Token) (s : State) (began : ℕ) → without_end body ≡ true → is_end close.bytes ≡ true →
    run (record s { context = inside.Skipped began }) ((body ++ (close ∷ [])) ++ rest) ≡ run (record s { context = inside.Nothing }) rest
run_skipped [] close rest s began none is =
    run_token (record s { context = inside.Skipped began }) (record s { context = inside.Nothing }) close rest (step_skipped_end s began close.line close.bytes is)
run_skipped (token ∷ body) close rest s began none is =
    let parts = and_both (not (is_end token.bytes)) (without_end body) none in
    run_token (record s { context = inside.Skipped began }) (record s { context = inside.Skipped began }) token ((body ++ (close ∷ [])) ++ rest)
    (step_skipped s began token.line token.bytes (not_true (is_end token.bytes) parts.0))
    ∙ run_skipped body close rest s began parts.1 is

-- ---- commands among the changes

some_is_true : {A : Type 0} (test : Bool) (x y : A) → (if test then Some x else None) ≡ Some y → test ≡ true
some_is_true true x y h = refl
some_is_true false x y h = absurd cc

begins_command : (first : ℕ) (rest : List ℕ) (k : Command) → command_of (first ∷ rest) ≡ Some k → first ≡ 36
begins_command first rest k is = eqb-true first 36 (some_is_true (first == 36) _ k is)

pub change_command : (s : State) (token : List ℕ) (k : Command) (line : ℕ) → command_of token ≡ Some k →
    change s token line ≡ stays (command_among_changes s (Some k) line)
change_command s [] k line is = absurd cc
change_command s (first ∷ rest) k line is =
    let P : ℕ → Type 0 = λ n. command_of (n ∷ rest) ≡ Some k → change_by n rest s line ≡ stays (command_among_changes s (Some k) line) in
    let at_dollar : P 36 = λ h. ap (λ o. stays (command_among_changes s o line)) h in
    subst P (sym (begins_command first rest k is)) at_dollar is

-- ---- scalar changes

other_than : (value other : ℕ) (level : Level) (test : Bool) → (value == other) ≡ test → level_of value ≡ Some level → level_of other ≡ None → test ≡ false
other_than value other level true same is none =
    let P : ℕ → Type 0 = λ n. level_of n ≡ None in
    let gone : level_of value ≡ None = subst P (sym (eqb-true value other same)) none in
    absurd cc
other_than value other level false same is none = refl

pub change_scalar : (s : State) (value : ℕ) (code : List ℕ) (level : Level) (line : ℕ) → level_of value ≡ Some level → is_code code ≡ true →
    change_by value code s line ≡ Ok (both_changed code (on_both level) s, None)
change_scalar s value code level line is of_code =
    rw (
      other_than value 35 level (value == 35) refl is refl,
      other_than value 36 level (value == 36) refl is refl,
      other_than value 98 level (value == 98) refl is refl,
      other_than value 66 level (value == 66) refl is refl,
      other_than value 114 level (value == 114) refl is refl,
      other_than value 82 level (value == 82) refl is refl,
      other_than value 115 level (value == 115) refl is refl,
      other_than value 83 level (value == 83) refl is refl,
    )
    (ap (λ o. stays (scalar_change s o code line)) is ∙ rw of_code refl)
