-- What the values of the code stand for.
use Rattle.std.specs.Prelude.{◌≡◌, ℕ, ◌≤◌, Option, Result, Ok, Err, string_bytes, vec_capacity, MatchResult}
use Rattle.vcd_read.specs.declared.dumps.Dump.{Dump}
use Rattle.vcd_read.specs.declared.errors.Refusal.{Refusal}
use Rattle.vcd_read.specs.declared.probes.Probe as rust
use Rattle.vcd_read.specs.declared.probes.Probe.TheVariants.{Named, Coded, Bit}
use Rattle.vcd_read.specs.declared.probes.Sought.{Sought}
use Rattle.vcd_read.specs.declared.probes.Sought.TheVariants.{Name, Code, CodeAndPlace}
use Rattle.vcd_read.specs.declared.samples.Sample.{Sample}
use Rattle.vcd_read.specs.declared.wires.Wire.{Wire}
use Rattle.vcd_read.specs.Changes.{Step}
use Rattle.vcd_read.specs.Probes.{Finder, by_name, by_code, by_bit}
use Rattle.vcd_read.specs.States.{Line, State}

-- what a call is asked for
abbrev pub asked : rust.Probe → Finder
asked (Named name) = by_name name.now
asked (Coded code) = by_code code.now
asked (Bit code place) = by_bit code.now place

abbrev pub sought_by : Sought → Finder
sought_by (Name name) = by_name (string_bytes name)
sought_by (Code code) = by_code (string_bytes code)
sought_by (CodeAndPlace code place) = by_bit (string_bytes code) place

abbrev pub line_of : Wire → Line
line_of w = record { probe = sought_by w.sought; code = w.code.items; before = w.before; level = w.level }

abbrev pub state_of : Dump → State
state_of d = record {
  scl = line_of d.scl;
  sda = line_of d.sda;
  context = d.context;
  block = d.block;
  code = d.code.items;
  defined = d.defined;
  time = d.time;
}

-- whether a code of so many bytes can be kept
abbrev pub HasRoom : ℕ → Dump → Type 0
HasRoom bytes d = (bytes ≤ vec_capacity d.code) × (bytes ≤ vec_capacity d.scl.code) × (bytes ≤ vec_capacity d.sda.code)

-- The call returned what the definition gives, with this state where it is no refusal.
abbrev pub Leaves : {A : Type 0} → Result A Refusal → Result State Refusal → State → Type 0
Leaves result given s = MatchResult result (λ _. given ≡ Ok s) (λ refusal. given ≡ Err refusal)

abbrev pub Steps : Result (Option Sample) Refusal → Step → State → Type 0
Steps result given s = MatchResult result (λ sample. given ≡ Ok (s, sample)) (λ refusal. given ≡ Err refusal)
