-- What a run has written that tells of a dump while it reads it.
use Rattle.std.specs.Prelude.{◌≡◌, ◌≢◌, ℕ, ◌≤◌, List, ◌++◌, length, Ok}
use Rattle.std.specs.Io.KnownBytes.{Appends}
use Rattle.plan_core.specs.Contents.{Contents}
use Rattle.vcd_read.specs.declared.samples.Sample.{Sample}
use Rattle.vcd_read.specs.Dumps.{samples_of}
use Rattle.vcd_read.specs.Probes.{Finder}
use Rattle.pulses.specs.Following.{quiet_transactions}
use Rattle.capture_check.specs.Transactions.{Recorded}
use Rattle.decoding.specs.Decoding.{BeginsWith, AreAllEnded}
use Rattle.decoding.specs.Dumps.{HasBegun, HaltsAtDump, given_by_then}
use Rattle.report.specs.declared.telling.CaptureCounts.{CaptureCounts}
use Rattle.report.specs.CaptureLines.{Tally, Tells}
use Rattle.report.specs.Captures.{CaptureOf}
use Rattle.run_parts.specs.Devices.{Reader, Writer, by_parts, HasGiven}
use Rattle.run_parts.specs.Runs.{ReadsText, most_reads}
use Rattle.run_parts.specs.Writing.{WritesAll, WritesFront, WritingStops}
use Rattle.run_parts.specs.declared.runs.Status.{Status}
use Rattle.run_parts.specs.declared.errors.RunError.{RunError}
use Rattle.run_parts.specs.declared.errors.RunError.TheVariants.{NoMemory}

module _ (least : ℕ) (scl sda : Finder) (plan : Contents) where
  -- the lines of the first transactions in a dump that begins so: of those that have ended whatever follows
  pub record FirstLines (text lines : List ℕ) : Type 0 where
    pub transactions : List Recorded
    pub ended : BeginsWith least scl sda text transactions
    pub tally : Tally
    pub told : Tells plan transactions tally
    pub same : lines ≡ tally.lines

  -- the lines of the first transactions in a whole dump
  pub record LinesOfDump (dump lines : List ℕ) : Type 0 where
    pub samples : List Sample
    pub read : samples_of scl sda dump ≡ Ok samples
    pub transactions : List Recorded
    pub later : List Recorded
    pub split : quiet_transactions least samples ≡ transactions ++ later
    pub tally : Tally
    pub told : Tells plan transactions tally
    pub same : lines ≡ tally.lines

  -- the report of this dump, if it has one, begins so
  abbrev pub BeginsReport : List ℕ → List ℕ → Type 0
  BeginsReport front dump =
      (report : List ℕ) (status : Status) → CaptureOf least scl sda plan dump report status →
      (left : List ℕ) × (report ≡ front ++ left)

  module _ {E O : Type 0} (second : Reader E) (writer : Writer O) (before : E) (start : O) where
    -- the dump was read to its end, and the writer took its report part by part
    pub record TellsLive (it : CaptureCounts) (now : E) (end : O) : Type 0 where
      pub dump : List ℕ
      pub read : ReadsText second before dump now
      pub report : List ℕ
      pub capture : CaptureOf least scl sda plan dump report it.status
      pub stopped : it.stopped ≡ capture.tally.stopped
      pub unexplained : it.unexplained ≡ capture.tally.unexplained
      pub transactions : it.transactions ≡ length (quiet_transactions least capture.samples)
      pub written : WritesAll (by_parts writer) start report end

    -- Why the report is not whole, and what was written up to then.
    pub data HaltsLive : RunError → E → O → Type 0 where
      -- the dump halted, and the writer took the lines of all that had ended in all that was given, or, where memory ran out,
      -- of the first of it
      at_dump : {error : RunError} {lines : List ℕ} {now : E} {end : O} →
          (halts : HaltsAtDump second scl sda before error now) →
          (first : FirstLines (given_by_then second halts) lines) →
          (error ≢ NoMemory → AreAllEnded least scl sda (given_by_then second halts) first.transactions) →
          WritesAll (by_parts writer) start lines end →
          HaltsLive error now end
      -- the dump halted, and the writer failed at these lines
      at_both : {error : RunError} {lines : List ℕ} {now : E} {end : O} →
          (halts : HaltsAtDump second scl sda before error now) →
          (first : FirstLines (given_by_then second halts) lines) →
          (error ≢ NoMemory → AreAllEnded least scl sda (given_by_then second halts) first.transactions) →
          WritesFront (by_parts writer) start lines end →
          HaltsLive error now end
      -- the writer failed at what had ended
      at_writer : {error : RunError} {reads : ℕ} {text lines : List ℕ} {now : E} {end : O} →
          reads ≤ most_reads →
          HasBegun second scl sda before reads text now →
          FirstLines text lines →
          WritingStops (by_parts writer) start lines error end →
          HaltsLive error now end
      -- the dump was read to its end, and memory ran out before its last lines
      at_end : {dump lines : List ℕ} {now : E} {end : O} →
          ReadsText second before dump now →
          LinesOfDump dump lines →
          WritesAll (by_parts writer) start lines end →
          HaltsLive NoMemory now end
      -- the dump was read to its end, and the writer failed at its report
      at_report : {error : RunError} {dump report : List ℕ} {status : Status} {now : E} {end : O} →
          ReadsText second before dump now →
          CaptureOf least scl sda plan dump report status →
          WritingStops (by_parts writer) start report error end →
          HaltsLive error now end

    -- In plain words: what the writer has taken by then, where it says so, begins the report of each dump that goes on as
    -- this one did; or of this one, where it was read to its end.
    pub data WroteFront : E → O → Type 0 where
      of_each : {reads : ℕ} {text : List ℕ} {last now : E} {end : O} (front : List ℕ) →
          HasGiven second before reads text last →
          ((rest : List ℕ) → BeginsReport front (text ++ rest)) →
          Appends (writer.contents start) (writer.contents end) front →
          WroteFront now end
      of_whole : {dump : List ℕ} {now : E} {end : O} (front : List ℕ) →
          ReadsText second before dump now →
          BeginsReport front dump →
          Appends (writer.contents start) (writer.contents end) front →
          WroteFront now end
