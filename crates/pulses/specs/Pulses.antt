-- Pulses: levels that a line has for less than a least time. A run is the time from one change of a line to its next,
-- and each line is looked at by itself. A run that does not last is ignored: the level of the last run before it that
-- lasted goes on. So of short runs that follow one another none is left. The first run of a line lasts, since it may
-- have begun before the capture, and so does its last, which goes on where the capture ends. A level that is not known
-- is a level as any other.
use Rattle.std.specs.Prelude.{ℕ, ◌-◌, Bool, true, false, ◌&&◌, ◌==◌, nat_le, List, [], ◌∷◌, if◌then◌else◌}
use Rattle.vcd_read.specs.declared.samples.Level.{Level}
use Rattle.vcd_read.specs.declared.samples.Sample.{Sample}
use Rattle.vcd_read.specs.Changes.{same_level}

-- a line of the bus: its level in a sample
abbrev pub Line : Type 0
Line = Sample → Level

abbrev pub scl : Line
scl sample = sample.scl

abbrev pub sda : Line
sda sample = sample.sda

-- Whether a line that has this level now keeps it for so much longer. After the last sample it does.
abbrev pub keeps : Line → Level → (longer now : ℕ) → List Sample → Bool
keeps line level longer now [] = true
keeps line level longer now (sample ∷ samples) =
    if nat_le longer (sample.time - now) then true
    else if same_level level (line sample) then keeps line level (longer - (sample.time - now)) sample.time samples
    else false

-- The level that a line goes on with from a sample on: the one that the sample has, where a run begins there that lasts.
-- Before it the line had the level `old`, and went on with `kept`.
abbrev pub level_at : ℕ → Line → (old kept : Level) → Sample → List Sample → Level
level_at least line old kept sample rest =
    if same_level old (line sample) then kept
    else if keeps line (line sample) least sample.time rest then line sample
    else kept

pub record Levels : Type 0 where
  pub scl : Level
  pub sda : Level

abbrev pub levels_in : Sample → Levels
levels_in sample = record { scl = sample.scl; sda = sample.sda }

-- the sample of a time at which the lines come to these levels, if one of them differs from before
abbrev pub before : (old new : Levels) → ℕ → List Sample → List Sample
before old new time samples =
    if same_level old.scl new.scl && same_level old.sda new.sda then samples
    else record { time = time; scl = new.scl; sda = new.sda } ∷ samples

abbrev pub quiet_from : ℕ → (old kept : Levels) → List Sample → List Sample
quiet_from least old kept [] = []
quiet_from least old kept (sample ∷ rest) =
    let levels : Levels = record {
      scl = level_at least scl old.scl kept.scl sample rest;
      sda = level_at least sda old.sda kept.sda sample rest;
    } in
    before kept levels sample.time (quiet_from least (levels_in sample) levels rest)

abbrev pub quiet_behind_first : ℕ → List Sample → List Sample
quiet_behind_first least [] = []
quiet_behind_first least (sample ∷ rest) = sample ∷ quiet_from least (levels_in sample) (levels_in sample) rest

-- The samples of a capture without the runs that last less than this time. No run lasts less than 0.
abbrev pub quiet : ℕ → List Sample → List Sample
quiet least samples = if least == 0 then samples else quiet_behind_first least samples
