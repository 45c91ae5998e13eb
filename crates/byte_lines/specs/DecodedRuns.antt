-- What a run has written that tells of a dump in bytes while it reads it.
use Rattle.std.specs.Prelude.{◌≡◌, ◌≢◌, ℕ, ◌≤◌, Bool, true, List, ◌++◌, length, Ok}
use Rattle.byte_lines.specs.Decoded.{DecodeOf}
use Rattle.byte_lines.specs.Lines.{decode_lines, stopped}
use Rattle.byte_lines.specs.declared.writing.ByteCounts.{ByteCounts}
use Rattle.capture_check.specs.Transactions.{Recorded}
use Rattle.decoding.specs.Decoding.{AreAllEnded, BeginsWith}
use Rattle.decoding.specs.Dumps.{HasBegun, HaltsAtDump, given_by_then}
use Rattle.pulses.specs.Following.{quiet_transactions}
use Rattle.run_parts.specs.Devices.{Reader, Writer, by_parts}
use Rattle.run_parts.specs.Runs.{ReadsText, most_reads}
use Rattle.run_parts.specs.Writing.{WritesAll, WritesFront, WritingStops}
use Rattle.run_parts.specs.declared.errors.RunError.{RunError}
use Rattle.run_parts.specs.declared.errors.RunError.TheVariants.{NoMemory}
use Rattle.vcd_read.specs.declared.samples.Sample.{Sample}
use Rattle.vcd_read.specs.Dumps.{samples_of}
use Rattle.vcd_read.specs.Probes.{Finder}

module _ (least : ℕ) (scl sda : Finder) where
  -- the lines of the first transactions in a dump that begins so: of some of those that have ended whatever follows
  pub record FirstLines (text lines : List ℕ) : Type 0 where
    pub transactions : List Recorded
    pub ended : BeginsWith least scl sda text transactions
    pub same : lines ≡ decode_lines transactions

  -- the lines of the first transactions in a whole dump
  pub record LinesOfDump (dump lines : List ℕ) : Type 0 where
    pub samples : List Sample
    pub read : samples_of scl sda dump ≡ Ok samples
    pub transactions : List Recorded
    pub later : List Recorded
    pub split : quiet_transactions least samples ≡ transactions ++ later
    pub same : lines ≡ decode_lines transactions

  module _ {E O : Type 0} (second : Reader E) (writer : Writer O) (before : E) (start : O) where
    -- the dump was read to its end, and the writer took its report part by part
    pub record TellsDecoded (it : ByteCounts) (now : E) (end : O) : Type 0 where
      pub dump : List ℕ
      pub read : ReadsText second before dump now
      pub report : List ℕ
      pub decode : DecodeOf least scl sda dump report
      pub transactions : it.transactions ≡ length (quiet_transactions least decode.samples)
      pub stopped : it.stopped ≡ stopped (quiet_transactions least decode.samples)
      pub written : WritesAll (by_parts writer) start report end

    -- Why the report is not whole, and what was written up to then.
    pub data HaltsDecoded (live : Bool) : RunError → E → O → Type 0 where
      -- the dump halted, and the writer took the lines of first transactions in all that was given: live, of all that had
      -- ended there, unless memory ran out
      at_dump : {error : RunError} {lines : List ℕ} {now : E} {end : O} →
          (halts : HaltsAtDump second scl sda before error now) →
          (first : FirstLines (given_by_then second halts) lines) →
          (live ≡ true → error ≢ NoMemory → AreAllEnded least scl sda (given_by_then second halts) first.transactions) →
          WritesAll (by_parts writer) start lines end →
          HaltsDecoded live error now end
      -- the dump halted, and the writer failed at these lines: those of all that had ended there
      at_both : {error : RunError} {lines : List ℕ} {now : E} {end : O} →
          (halts : HaltsAtDump second scl sda before error now) →
          (first : FirstLines (given_by_then second halts) lines) →
          (error ≢ NoMemory → AreAllEnded least scl sda (given_by_then second halts) first.transactions) →
          WritesFront (by_parts writer) start lines end →
          HaltsDecoded live error now end
      -- the writer failed at lines of first transactions
      at_writer : {error : RunError} {reads : ℕ} {text lines : List ℕ} {now : E} {end : O} →
          reads ≤ most_reads →
          HasBegun second scl sda before reads text now →
          FirstLines text lines →
          WritingStops (by_parts writer) start lines error end →
          HaltsDecoded live error now end
      -- the dump was read to its end, and memory ran out before its last lines
      at_end : {dump lines : List ℕ} {now : E} {end : O} →
          ReadsText second before dump now →
          LinesOfDump dump lines →
          WritesAll (by_parts writer) start lines end →
          HaltsDecoded live NoMemory now end
      -- the dump was read to its end, and the writer failed at its report
      at_report : {error : RunError} {dump report : List ℕ} {now : E} {end : O} →
          ReadsText second before dump now →
          DecodeOf least scl sda dump report →
          WritingStops (by_parts writer) start report error end →
          HaltsDecoded live error now end
