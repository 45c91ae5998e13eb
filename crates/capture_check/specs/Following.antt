-- A capture that comes in parts: what has been seen and heard so far, and the transactions that the samples after it add.
use Rattle.std.specs.Prelude.{List}
use Rattle.vcd_read.specs.declared.samples.Sample.{Sample}
use Rattle.capture_check.specs.Events.{Seen, nothing_seen, events_from, events_of}
use Rattle.capture_check.specs.Transactions.{Bus, unknown, Recorded, transactions_from, transactions_of}

pub record Place : Type 0 where
  pub seen : Seen
  pub bus : Bus

abbrev pub at_the_start : Place
at_the_start = record { seen = nothing_seen; bus = unknown }

-- the transactions that end in these samples, and the one that goes on then
abbrev pub transactions_behind : Place → List Sample → List Recorded
transactions_behind place samples = transactions_from place.bus (events_from place.seen samples)

-- the transactions of a capture
abbrev pub transactions_in : List Sample → List Recorded
transactions_in samples = transactions_of (events_of samples)
