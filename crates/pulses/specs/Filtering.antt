-- What a filter that goes on from sample to sample has still to hand out.
use Rattle.std.specs.Prelude.{◌≡◌, ℕ, ◌<◌, true, List, if◌then◌else◌}
use Rattle.vcd_read.specs.declared.samples.Sample.{Sample}
use Rattle.pulses.specs.declared.filtering.Filter.{Filter}
use Rattle.pulses.specs.Pulses.{quiet}
use Rattle.pulses.specs.Wires.{coming, GoesOn}

-- how long a level has to last
abbrev pub least_of : Filter → ℕ
least_of f = f.least

-- what it hands out where these samples come, and there has been one
abbrev pub to_come : Filter → List Sample → List Sample
to_come f more = coming f.least f.first f.scl f.sda f.time more

-- what it hands out where these samples come, and then the end
abbrev pub behind : Filter → List Sample → List Sample
behind f more = if f.begun then to_come f more else quiet f.least more

-- there has been no sample, and a level has to last so long
abbrev pub IsAtFirst : ℕ → Filter → Type 0
IsAtFirst least f = (samples : List Sample) → behind f samples ≡ quiet least samples

-- each level that has lasted goes on
abbrev pub HaveGoneOn : Filter → Type 0
HaveGoneOn f = f.begun ≡ true → (0 < f.least) × GoesOn f.scl × GoesOn f.sda
