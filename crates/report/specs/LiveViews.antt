-- What lines that are written as they come stand for. Only private contracts and proofs use this.
use Rattle.std.specs.Prelude.{◌≡◌, ◌⊎◌, ℕ, ◌+◌, List, [], ◌++◌, length, Ok, string_bytes}
use Rattle.plan_core.specs.Contents.{Contents}
use Rattle.vcd_read.specs.declared.samples.Sample.{Sample}
use Rattle.vcd_read.specs.Dumps.{samples_of}
use Rattle.vcd_read.specs.Probes.{Finder}
use Rattle.pulses.specs.Following.{quiet_transactions}
use Rattle.capture_check.specs.Transactions.{Recorded}
use Rattle.decoding.specs.Dumps.{PassesSoFar}
use Rattle.decoding.specs.Sinks.{Sink}
use Rattle.report.specs.declared.live.Live.{Live}
use Rattle.report.specs.declared.telling.Telling.{Telling}
use Rattle.decoding.specs.Parts.{IsLeft}
use Rattle.report.specs.CaptureLines.{Tally, Tells}
use Rattle.run_parts.specs.Devices.{Reader, Writer}
use Rattle.run_parts.specs.Runs.{ReadsText}
use Rattle.run_parts.specs.Writing.{WritesAll, WritingStops}
use Rattle.run_parts.specs.declared.errors.RunError.{RunError}
use Rattle.run_parts.specs.declared.errors.RunError.TheVariants.{NoMemory}

module _ {O : Type 0} (writer : Writer O) (plan : Contents) (before : Live O) (ts : List Recorded) where
  -- the lines of these transactions were written at once, and the counts grew
  pub record WritesBlock (after : Live O) : Type 0 where
    pub same_writer : after.out.ghost_name ≡ before.out.ghost_name
    pub block : Tally
    pub told : Tells plan ts block
    pub written : WritesAll writer before.out.now block.lines after.out.now
    pub stopped : after.stopped ≡ before.stopped + block.stopped
    pub unexplained : after.unexplained ≡ before.unexplained + block.unexplained
    pub transactions : after.transactions ≡ before.transactions + length ts

  -- the writer failed at the lines of these transactions
  pub record FailsAtBlock (error : RunError) (after : Live O) : Type 0 where
    pub same_writer : after.out.ghost_name ≡ before.out.ghost_name
    pub block : Tally
    pub told : Tells plan ts block
    pub stops : WritingStops writer before.out.now block.lines error after.out.now

  -- memory ran out, and nothing was written
  pub record NoRoom (error : RunError) (after : Live O) : Type 0 where
    pub same_writer : after.out.ghost_name ≡ before.out.ghost_name
    pub no_memory : error ≡ NoMemory
    pub same : after.out.now ≡ before.out.now

-- a call writes the lines of its transactions and counts them; or memory runs out before, or the writer fails
abbrev pub live_sink : {O : Type 0} → Writer O → Contents → Sink (Live O)
live_sink writer plan = record {
  takes = λ before ts after. WritesBlock writer plan before ts after;
  stops = λ before ts error after. NoRoom writer plan before ts error after ⊎ FailsAtBlock writer plan before ts error after;
}

-- the dump was read to its end, all its lines were written, and these are the counts: the last line is left
module _ (least : ℕ) (scl sda : Finder) (plan : Contents) {E O : Type 0} (second : Reader E) (writer : Writer O) (before : E) (start : O) where
  pub record HasTold (it : Telling) (now : E) (end : O) : Type 0 where
    pub dump : List ℕ
    pub read : ReadsText second before dump now
    pub passes : PassesSoFar scl sda dump
    pub samples : List Sample
    pub given : samples_of scl sda dump ≡ Ok samples
    pub tally : Tally
    pub told : Tells plan (quiet_transactions least samples) tally
    pub no_lines : string_bytes it.lines ≡ []
    pub stopped : it.stopped ≡ tally.stopped
    pub unexplained : it.unexplained ≡ tally.unexplained
    pub transactions : it.transactions ≡ length (quiet_transactions least samples)
    pub written : (rest : List ℕ) → IsLeft writer start (tally.lines ++ rest) rest end
