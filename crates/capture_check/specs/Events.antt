-- What happens on the bus between two neighbouring samples (UM10204, 3.1.1 to 3.1.4), and so the events of a list of
-- samples. Where SCL and SDA change together, a falling SCL comes before the change of SDA and a rising SCL after it.
use Rattle.std.specs.Prelude.{ℕ, Bool, true, false, ◌&&◌, ◌||◌, not, List, [], ◌∷◌, Option, Some, None, if◌then◌else◌}
use Rattle.vcd_read.specs.declared.samples.Level.{Level}
use Rattle.vcd_read.specs.declared.samples.Level.TheVariants as level
use Rattle.vcd_read.specs.declared.samples.Sample.{Sample}
use Rattle.capture_check.specs.declared.watching.What.{What}
use Rattle.capture_check.specs.declared.watching.What.TheVariants as what
use Rattle.capture_check.specs.declared.watching.Event.{Event}
use Rattle.capture_check.specs.declared.watching.Lines.{Lines}

-- both lines where both levels are known: true is HIGH
abbrev pub known_lines : Level → Level → Option Lines
known_lines level.Low level.Low = Some (record { scl = false; sda = false })
known_lines level.Low level.High = Some (record { scl = false; sda = true })
known_lines level.High level.Low = Some (record { scl = true; sda = false })
known_lines level.High level.High = Some (record { scl = true; sda = true })
known_lines _ _ = None

-- SDA changes while SCL stays HIGH
abbrev pub condition : Bool → Bool → Option What
condition true false = Some what.Start
condition false true = Some what.Stop
condition _ _ = None

-- SCL falls, and SDA had one level in the HIGH period that ends, or has moved in it
abbrev pub bit_unless : Bool → Bool → Option What
bit_unless false sda = Some (what.Bit sda)
bit_unless true sda = None

-- both levels were known and are
abbrev pub what_of_known : Lines → Bool → Lines → Option What
what_of_known old moved new =
    if old.scl then (if new.scl then condition old.sda new.sda else bit_unless moved old.sda) else None

-- from one sample to the next; `moved` is whether SDA has changed in the HIGH period of SCL that goes on
abbrev pub what_between : Option Lines → Bool → Option Lines → Option What
what_between None moved None = None
what_between None moved (Some new) = Some (what.Known (new.scl && new.sda))
what_between (Some old) moved None = Some what.Unknown
what_between (Some old) moved (Some new) = what_of_known old moved new

abbrev pub differ : Bool → Bool → Bool
differ true b = not b
differ false b = b

-- A HIGH period begins where SCL rises, and where the levels become known with SCL at HIGH. SDA has moved in it where it
-- changes while SCL stays HIGH.
abbrev pub moved_between : Option Lines → Bool → Option Lines → Bool
moved_between (Some old) moved (Some new) =
    if old.scl && new.scl then moved || differ old.sda new.sda else false
moved_between _ moved _ = false

-- what has been seen up to a sample
pub record Seen : Type 0 where
  pub lines : Option Lines
  pub moved : Bool

abbrev pub nothing_seen : Seen
nothing_seen = record { lines = None; moved = false }

abbrev pub lines_in : Sample → Option Lines
lines_in sample = known_lines sample.scl sample.sda

abbrev pub seen_after : Seen → Sample → Seen
seen_after seen sample = record {
  lines = lines_in sample;
  moved = moved_between seen.lines seen.moved (lines_in sample);
}

abbrev pub at : ℕ → Option What → Option Event
at time (Some w) = Some (record { time = time; what = w })
at time None = None

-- the event that the next sample makes
abbrev pub event_of : Seen → Sample → Option Event
event_of seen sample = at sample.time (what_between seen.lines seen.moved (lines_in sample))

abbrev pub after_option : Option Event → List Event → List Event
after_option (Some event) events = event ∷ events
after_option None events = events

abbrev pub events_from : Seen → List Sample → List Event
events_from seen [] = []
events_from seen (sample ∷ samples) =
    after_option (event_of seen sample) (events_from (seen_after seen sample) samples)

-- the events of these samples, with nothing known of the time before
abbrev pub events_of : List Sample → List Event
events_of samples = events_from nothing_seen samples
