-- Transactions: from a START to the STOP that ends it, with what the wire showed between. The table of what each event does
-- to a bus that is unknown, free or busy (UM10204, 3.1.4).
use Rattle.std.specs.Prelude.{ℕ, true, false, List, [], ◌∷◌, ◌++◌, Option, Some, None}
use Rattle.capture_check.specs.declared.watching.What.{What}
use Rattle.capture_check.specs.declared.watching.What.TheVariants as what
use Rattle.capture_check.specs.declared.watching.Event.{Event}
use Rattle.capture_check.specs.declared.listening.Mark.{Mark}
use Rattle.capture_check.specs.declared.listening.Mark.TheVariants as mark
use Rattle.capture_check.specs.declared.listening.Until.{Until}
use Rattle.capture_check.specs.declared.listening.Until.TheVariants as ending

-- a transaction: its time, how it ended, and its marks in order
pub record Recorded : Type 0 where
  pub from : ℕ
  pub until : Until
  pub marks : List Mark

-- what is known of the bus
pub data Bus : Type 0 where
  unknown : Bus
  free : Bus
  -- a transaction goes on from this time, and has these marks so far
  busy : (from : ℕ) (marks : List Mark) → Bus

-- the bus after an event of this time
abbrev pub bus_after : Bus → ℕ → What → Bus
bus_after unknown time (what.Known true) = free
bus_after unknown time what.Stop = free
bus_after unknown time _ = unknown
bus_after free time (what.Known false) = unknown
bus_after free time what.Unknown = unknown
bus_after free time what.Start = busy time []
bus_after free time _ = free
bus_after (busy from marks) time (what.Known known) = busy from marks
bus_after (busy from marks) time what.Unknown = unknown
bus_after (busy from marks) time what.Start = busy from (marks ++ mark.Again ∷ [])
bus_after (busy from marks) time what.Stop = free
bus_after (busy from marks) time (what.Bit b) = busy from (marks ++ mark.Level b ∷ [])

-- the transaction that goes on, if any, ends so
abbrev pub ended : Bus → Until → Option Recorded
ended (busy from marks) until = Some (record { from = from; until = until; marks = marks })
ended _ until = None

-- the marks that a STOP ends
abbrev pub stopped : Bus → Bus
stopped (busy from marks) = busy from (marks ++ mark.Stop ∷ [])
stopped bus = bus

-- the transaction that an event of this time ends
abbrev pub ended_by : Bus → ℕ → What → Option Recorded
ended_by bus time what.Unknown = ended bus (ending.Cut time)
ended_by bus time what.Stop = ended (stopped bus) (ending.Stopped time)
ended_by bus time _ = None

abbrev pub before : Option Recorded → List Recorded → List Recorded
before (Some t) rest = t ∷ rest
before None rest = rest

abbrev pub transactions_from : Bus → List Event → List Recorded
transactions_from bus [] = before (ended bus ending.Unfinished) []
transactions_from bus (event ∷ events) =
    before (ended_by bus event.time event.what) (transactions_from (bus_after bus event.time event.what) events)

-- the transactions of these events, in the order of their beginnings, with nothing known of the bus before
abbrev pub transactions_of : List Event → List Recorded
transactions_of events = transactions_from unknown events
