-- What `decode` says of a dump.
use Rattle.std.specs.Prelude.{◌≡◌, ℕ, List, Ok}
use Rattle.byte_lines.specs.Lines.{decode_report}
use Rattle.pulses.specs.Following.{quiet_transactions}
use Rattle.vcd_read.specs.declared.samples.Sample.{Sample}
use Rattle.vcd_read.specs.Dumps.{samples_of}
use Rattle.vcd_read.specs.Probes.{Finder}

-- the dump has samples, and the report tells of the transactions in them without the levels that last less than this time
pub record DecodeOf (least : ℕ) (scl sda : Finder) (dump report : List ℕ) : Type 0 where
  pub samples : List Sample
  pub read : samples_of scl sda dump ≡ Ok samples
  pub lines : report ≡ decode_report (quiet_transactions least samples)
