-- Times and value changes (IEEE 1364-2005, 18.2.1: simulation time, value changes; 18.2.2: formats of values; 18.2.3:
-- simulation commands).
use Rattle.std.specs.Prelude.{ℕ, Bool, true, false, ◌&&◌, ◌||◌, ◌==◌, nat_lt, List, [], ◌∷◌, Option, Some, None}
use Rattle.std.specs.Prelude.{Result, Ok, Err, if◌then◌else◌}
use Rattle.std.specs.Str.{bytes_eq}
use Rattle.vcd_read.specs.declared.dumps.Context.TheVariants as inside
use Rattle.vcd_read.specs.declared.dumps.Levels.{Levels}
use Rattle.vcd_read.specs.declared.errors.Refusal.{Refusal}
use Rattle.vcd_read.specs.declared.errors.Refusal.TheVariants.{BadToken, TimeBack}
use Rattle.vcd_read.specs.declared.samples.Level.{Level}
use Rattle.vcd_read.specs.declared.samples.Level.TheVariants.{Low, High, Unknown}
use Rattle.vcd_read.specs.declared.samples.Sample.{Sample}
use Rattle.vcd_read.specs.declared.words.Command.{Command}
use Rattle.vcd_read.specs.declared.words.Command.TheVariants.{Changes, End}
use Rattle.vcd_read.specs.Probes.{place_of}
use Rattle.vcd_read.specs.States.{Line, State}
use Rattle.vcd_read.specs.Words.{command_of, is_code, is_empty, level_of, is_vector, level_at, time_of}

-- what a token leaves, and the sample of the time stamp that it closes
abbrev pub Step : Type 0
Step = Result (State × Option Sample) Refusal

abbrev pub stays : Result State Refusal → Step
stays (Ok s) = Ok (s, None)
stays (Err refusal) = Err refusal

abbrev pub same_level : Level → Level → Bool
same_level Low Low = true
same_level High High = true
same_level Unknown Unknown = true
same_level _ _ = false

-- whether the line has the level now that it had before the time stamp
abbrev pub stays_level : Line → Bool
stays_level line = same_level line.before line.level

-- The sample of the time stamp that ends now: there is one where a level differs from before the stamp.
abbrev pub stamp_sample : State → Option Sample
stamp_sample s =
    if stays_level s.scl && stays_level s.sda then None
    else Some (record { time = s.time; scl = s.scl.level; sda = s.sda.level })

abbrev pub settled : Line → Line
settled line = record line { before = line.level }

-- A later time closes the stamp, an equal one continues it, an earlier one is refused.
abbrev pub time_reached : State → ℕ → ℕ → Step
time_reached s time line =
    if nat_lt time s.time then Err (TimeBack line)
    else if time == s.time then Ok (s, None)
    else Ok (record s { time = time; scl = settled s.scl; sda = settled s.sda }, stamp_sample s)

-- the line has this level now if this is its code
abbrev pub changed : List ℕ → Level → Line → Line
changed code level line = if bytes_eq code line.code then record line { level = level } else line

abbrev pub both_changed : List ℕ → Levels → State → State
both_changed code to s = record s { scl = changed code to.scl s.scl; sda = changed code to.sda s.sda }

-- what a scalar change says: the same of both lines
abbrev pub on_both : Level → Levels
on_both level = record { scl = level; sda = level }

-- what the digits of a vector change say, of each line by its own place; none where they are no vector
abbrev pub vector_levels : State → List ℕ → Option Levels
vector_levels s digits =
    if is_vector digits
    then Some (record { scl = level_at (place_of s.scl.probe) digits; sda = level_at (place_of s.sda.probe) digits })
    else None

-- The code of a change, after its value: of a real or string change the value says nothing here.
abbrev pub change_of_code : State → Option Levels → List ℕ → ℕ → Result State Refusal
change_of_code s None code line = if is_code code then Ok s else Err (BadToken line)
change_of_code s (Some to) code line = if is_code code then Ok (both_changed code to s) else Err (BadToken line)

-- A command among the changes. The words for value changes open a block, in which no other of them may open one.
abbrev pub command_among_changes : State → Option Command → ℕ → Result State Refusal
command_among_changes s None line = Err (BadToken line)
command_among_changes s (Some End) line = elim s.block [
  | None ↦ Err (BadToken line)
  | Some began ↦ Ok (record s { block = None })
]
command_among_changes s (Some Changes) line = elim s.block [
  | None ↦ Ok (record s { block = Some line })
  | Some began ↦ Err (BadToken line)
]
command_among_changes s (Some _) line = Ok (record s { context = inside.Skipped line })

abbrev pub time_change : State → Option ℕ → ℕ → Step
time_change s None line = Err (BadToken line)
time_change s (Some time) line = time_reached s time line

abbrev pub vector_change : State → Option Levels → ℕ → Result State Refusal
vector_change s None line = Err (BadToken line)
vector_change s (Some to) line = Ok (record s { context = inside.Change line (Some to) })

abbrev pub scalar_change : State → Option Level → List ℕ → ℕ → Result State Refusal
scalar_change s None code line = Err (BadToken line)
scalar_change s (Some level) code line = change_of_code s (Some (on_both level)) code line

-- a token that begins with this byte, outside commands: `#` and a time, a command, `b` and a vector, `r` or `s` and a
-- real number or a string, or a value and its code
abbrev pub change_by : ℕ → List ℕ → State → ℕ → Step
change_by first rest s line =
    if first == 35 then time_change s (time_of rest) line
    else if first == 36 then stays (command_among_changes s (command_of (first ∷ rest)) line)
    else if first == 98 || first == 66 then stays (vector_change s (vector_levels s rest) line)
    else if first == 114 || first == 82 || first == 115 || first == 83
    then (if is_empty rest then Err (BadToken line) else Ok (record s { context = inside.Change line None }, None))
    else stays (scalar_change s (level_of first) rest line)

abbrev pub change : State → List ℕ → ℕ → Step
change s [] line = Err (BadToken line)
change s (first ∷ rest) line = change_by first rest s line
