-- What the tokens of a dump have said so far.
use Rattle.std.specs.Prelude.{ℕ, Bool, false, List, [], Option, None}
use Rattle.vcd_read.specs.declared.dumps.Context.{Context}
use Rattle.vcd_read.specs.declared.dumps.Context.TheVariants as inside
use Rattle.vcd_read.specs.declared.samples.Level.{Level}
use Rattle.vcd_read.specs.declared.samples.Level.TheVariants.{Unknown}
use Rattle.vcd_read.specs.Probes.{Finder}

-- A line of the bus: how its `$var` is found, the code that this `$var` gives it (none yet: empty), and its levels before
-- the time stamp and now.
pub record Line : Type 0 where
  pub probe : Finder
  pub code : List ℕ
  pub before : Level
  pub level : Level

-- context: what the next token belongs to; block: where a `$dumpvars` or its like began that has not ended; code: the
-- third token of the latest `$var`; defined: whether the definitions have ended
pub record State : Type 0 where
  pub scl : Line
  pub sda : Line
  pub context : Context
  pub block : Option ℕ
  pub code : List ℕ
  pub defined : Bool
  pub time : ℕ

abbrev pub line_at_first : Finder → Line
line_at_first probe = record { probe = probe; code = []; before = Unknown; level = Unknown }

-- before the first token
abbrev pub state_at_first : Finder → Finder → State
state_at_first scl sda = record {
  scl = line_at_first scl;
  sda = line_at_first sda;
  context = inside.Nothing;
  block = None;
  code = [];
  defined = false;
  time = 0;
}
