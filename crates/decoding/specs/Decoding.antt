-- What a sink has taken of a dump that is read block by block.
use Rattle.std.specs.Prelude.{◌≡◌, ◌≢◌, ℕ, ◌≤◌, List, ◌++◌, Ok}
use Rattle.vcd_read.specs.declared.samples.Sample.{Sample}
use Rattle.vcd_read.specs.Dumps.{samples_of, given_so_far}
use Rattle.vcd_read.specs.Probes.{Finder}
use Rattle.capture_check.specs.Transactions.{Recorded}
use Rattle.pulses.specs.Following.{quiet_transactions}
use Rattle.run_parts.specs.Devices.{Reader}
use Rattle.run_parts.specs.Runs.{ReadsText, most_reads}
use Rattle.run_parts.specs.declared.errors.RunError.{RunError}
use Rattle.run_parts.specs.declared.errors.RunError.TheVariants.{NoMemory}
use Rattle.decoding.specs.Dumps.{PassesSoFar, HasBegun, HaltsAtDump, given_by_then}
use Rattle.decoding.specs.Sinks.{Sink, HasTaken}

-- the transactions in a dump that begins so are these first, whatever samples follow those that it has given so far
abbrev pub BeginsWith : ℕ → Finder → Finder → List ℕ → List Recorded → Type 0
BeginsWith least scl sda text ts =
    (more : List Sample) → (later : List Recorded) × (quiet_transactions least (given_so_far scl sda text ++ more) ≡ ts ++ later)

-- these are all that have ended in a dump that begins so: no more come first whatever samples follow
abbrev pub AreAllEnded : ℕ → Finder → Finder → List ℕ → List Recorded → Type 0
AreAllEnded least scl sda text ts =
    (others : List Recorded) → BeginsWith least scl sda text others → (left : List Recorded) × (ts ≡ others ++ left)

module _ {S : Type 0} (sink : Sink S) (start : S) (least : ℕ) (scl sda : Finder) where
  -- the dump has samples, and the sink has taken the transactions in them, without the levels that last less than this time,
  -- and nothing else
  pub record DecodesDump (dump : List ℕ) (told : S) : Type 0 where
    pub samples : List Sample
    pub read : samples_of scl sda dump ≡ Ok samples
    pub taken : HasTaken sink start (quiet_transactions least samples) told

  module _ {E : Type 0} (second : Reader E) (before : E) where
    -- the dump was read to its end, and the sink has taken all that is in it
    pub record DecodesAll (now : E) (told : S) : Type 0 where
      pub dump : List ℕ
      pub read : ReadsText second before dump now
      pub passes : PassesSoFar scl sda dump
      pub decodes : DecodesDump dump told

    -- Why the decoding of a dump goes no further. The reading halted, and the sink has taken all transactions that had ended
    -- in all that was given, or, where memory ran out, the first of them; or there it stopped too, and the answer is its own
    -- where it had no memory. Or the sink stopped at those that came next, within the dump or at its end.
    pub data HaltsAtDecoding : RunError → E → S → Type 0 where
      at_dump : {error : RunError} {now : E} {ts : List Recorded} {told : S} →
          (halts : HaltsAtDump second scl sda before error now) →
          BeginsWith least scl sda (given_by_then second halts) ts →
          (error ≢ NoMemory → AreAllEnded least scl sda (given_by_then second halts) ts) →
          HasTaken sink start ts told →
          HaltsAtDecoding error now told
      at_both : {error second_error : RunError} {now : E} {ts more : List Recorded} {last told : S} →
          (halts : HaltsAtDump second scl sda before error now) →
          BeginsWith least scl sda (given_by_then second halts) (ts ++ more) →
          (error ≢ NoMemory → AreAllEnded least scl sda (given_by_then second halts) (ts ++ more)) →
          HasTaken sink start ts last →
          sink.stops last more second_error told →
          (second_error ≡ NoMemory → error ≡ NoMemory) →
          HaltsAtDecoding error now told
      at_sink : {error : RunError} {reads : ℕ} {text : List ℕ} {now : E} {ts more : List Recorded} {last told : S} →
          reads ≤ most_reads →
          HasBegun second scl sda before reads text now →
          BeginsWith least scl sda text (ts ++ more) →
          HasTaken sink start ts last →
          sink.stops last more error told →
          HaltsAtDecoding error now told
      at_end : {error : RunError} {text : List ℕ} {now : E} {samples : List Sample} {ts more : List Recorded} {last told : S} →
          ReadsText second before text now →
          PassesSoFar scl sda text →
          samples_of scl sda text ≡ Ok samples →
          quiet_transactions least samples ≡ ts ++ more →
          HasTaken sink start ts last →
          sink.stops last more error told →
          HaltsAtDecoding error now told
