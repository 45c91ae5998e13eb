-- The definitions of a dump (IEEE 1364-2005, 18.2.3: declaration commands), up to the `$end` of `$enddefinitions`.
use Rattle.std.specs.Prelude.{ℕ, Bool, true, ◌&&◌, List, Option, Some, None, Result, Ok, Err, codes}
use Rattle.std.specs.Prelude.{if◌then◌else◌}
use Rattle.std.specs.Str.{bytes_eq}
use Rattle.vcd_read.specs.declared.dumps.Context.TheVariants as inside
use Rattle.vcd_read.specs.declared.dumps.Seen.{Seen}
use Rattle.vcd_read.specs.declared.dumps.Seen.TheVariants as seen
use Rattle.vcd_read.specs.declared.errors.Refusal.{Refusal}
use Rattle.vcd_read.specs.declared.errors.Refusal.TheVariants.{NoSignal, BadToken}
use Rattle.run_errors.specs.declared.dumps.Signal.{Signal}
use Rattle.run_errors.specs.declared.dumps.Signal.TheVariants.{Scl, Sda}
use Rattle.vcd_read.specs.declared.words.Command.{Command}
use Rattle.vcd_read.specs.declared.words.Command.TheVariants.{Var, EndDefinitions, Other}
use Rattle.vcd_read.specs.Probes.{declares}
use Rattle.vcd_read.specs.States.{Line, State}
use Rattle.vcd_read.specs.Words.{is_end, is_empty, command_of}

abbrev pub opened : ℕ → State → Option Command → Result State Refusal
opened line s (Some Var) = Ok (record s { context = inside.Var line seen.Nothing })
opened line s (Some EndDefinitions) = Ok (record s { context = inside.EndDefinitions line })
opened line s (Some Other) = Ok (record s { context = inside.Skipped line })
opened line s _ = Err (BadToken line)

-- A token outside commands opens one: every other token is refused, `$end` and the words for value changes among them.
abbrev pub definition : State → List ℕ → ℕ → Result State Refusal
definition s token line = opened line s (command_of token)

-- The line takes the code of a `$var` by which it is found, if it has none yet.
abbrev pub named_by : Bool → (reference code : List ℕ) → Line → Line
named_by one_bit reference code line =
    if is_empty line.code && declares line.probe one_bit reference code then record line { code = code } else line

abbrev pub declared : Bool → List ℕ → State → State
declared one_bit reference s = record s {
  scl = named_by one_bit reference s.code s.scl;
  sda = named_by one_bit reference s.code s.sda;
}

-- One more token of a `$var`: type, size, code and reference, and others that say nothing here.
abbrev pub var_token : ℕ → Seen → State → List ℕ → State
var_token line seen.Nothing s token = record s { context = inside.Var line seen.Type }
var_token line seen.Type s token = record s { context = inside.Var line (seen.Size (bytes_eq token (codes "1"))) }
var_token line (seen.Size one_bit) s token = record s { context = inside.Var line (seen.Code one_bit); code = token }
var_token line (seen.Code one_bit) s token =
    record (declared one_bit token s) { context = inside.Var line seen.Reference }
var_token line seen.Reference s token = s

abbrev var_end : Seen → State → ℕ → Result State Refusal
var_end seen.Reference s line = Ok (record s { context = inside.Nothing })
var_end _ s line = Err (BadToken line)

-- A token inside a `$var`: its `$end` is refused after fewer than four tokens.
abbrev pub inside_var : ℕ → Seen → State → List ℕ → ℕ → Result State Refusal
inside_var began so_far s token line =
    if is_end token then var_end so_far s line else Ok (var_token began so_far s token)

-- the first of the two signals that has no code
abbrev pub missing : State → Option Signal
missing s = if is_empty s.scl.code then Some Scl else if is_empty s.sda.code then Some Sda else None

-- The `$end` of `$enddefinitions`: both signals have to be defined.
abbrev pub definitions_end : State → Result State Refusal
definitions_end s = elim (missing s) [
  | Some signal ↦ Err (NoSignal signal)
  | None ↦ Ok (record s { context = inside.Nothing; defined = true })
]

abbrev pub inside_end_definitions : State → List ℕ → Result State Refusal
inside_end_definitions s token = if is_end token then definitions_end s else Ok s
