-- What a dump that is being decoded stands for. Only private contracts and proofs use this.
use Rattle.std.specs.Prelude.{◌≡◌, ◌≢◌, ℕ, List, [], ◌++◌, Ok}
use Rattle.vcd_read.specs.declared.samples.Sample.{Sample}
use Rattle.vcd_read.specs.Dumps.{samples_of, given_so_far}
use Rattle.vcd_read.specs.Probes.{Finder}
use Rattle.vcd_read.specs.Readers.{Fed, reading_of}
use Rattle.pulses.specs.Following.{quiet_behind, quiet_transactions, HasHandedOut}
use Rattle.capture_check.specs.Transactions.{Recorded}
use Rattle.run_parts.specs.declared.errors.RunError.{RunError}
use Rattle.run_parts.specs.declared.errors.RunError.TheVariants.{NoMemory}
use Rattle.decoding.specs.Decoding.{BeginsWith, AreAllEnded}
use Rattle.decoding.specs.Dumps.{PassesSoFar, RefusesBeginning, RefusesDump}
use Rattle.decoding.specs.Sinks.{Sink, HasTaken}
use Rattle.decoding.specs.declared.following.Decoder.{Decoder}

-- nothing was read
pub record IsNew (least : ℕ) (scl sda : Finder) (d : Decoder) : Type 0 where
  pub fed : Fed scl sda [] [] (reading_of d.reader)
  pub left : (more : List Sample) → quiet_behind d.follower more ≡ quiet_transactions least more
  pub out : HasHandedOut d.follower

module _ {S : Type 0} (sink : Sink S) (start : S) (least : ℕ) (scl sda : Finder) where
  -- this text of a dump was read, and the sink has taken what its samples say, but for what goes on
  pub record Follows (text : List ℕ) (d : Decoder) (told : S) : Type 0 where
    pub cleared : List Sample
    pub fed : Fed scl sda text cleared (reading_of d.reader)
    pub done : List Recorded
    pub taken : HasTaken sink start done told
    pub left : (more : List Sample) →
        done ++ quiet_behind d.follower more ≡ quiet_transactions least (cleared ++ more)
    pub out : HasHandedOut d.follower

  -- the same, and the sink has taken what all its samples say
  pub record FollowsAll (text : List ℕ) (d : Decoder) (told : S) : Type 0 where
    pub follows : Follows text d told
    pub all : given_so_far scl sda text ≡ follows.cleared

  -- the sink stops at what comes next in this text, or memory runs out before it is called
  pub data StopsAt (text : List ℕ) (told : S) : RunError → S → Type 0 where
    no_memory : StopsAt text told NoMemory told
    stops_at : {error : RunError} {ts more : List Recorded} {end : S} →
        BeginsWith least scl sda text (ts ++ more) →
        HasTaken sink start ts told →
        sink.stops told more error end →
        StopsAt text told error end

  -- the piece behind this text is refused, and the sink has taken what ended before, or stops there; or the piece passes and
  -- the sink stops
  pub data StopsAtPiece (text piece : List ℕ) : RunError → S → Type 0 where
    refused : {error : RunError} {ts : List Recorded} {told : S} →
        RefusesBeginning scl sda (text ++ piece) error →
        BeginsWith least scl sda (text ++ piece) ts →
        (error ≢ NoMemory → AreAllEnded least scl sda (text ++ piece) ts) →
        HasTaken sink start ts told →
        StopsAtPiece text piece error told
    both : {error second_error : RunError} {ts more : List Recorded} {last told : S} →
        RefusesBeginning scl sda (text ++ piece) error →
        BeginsWith least scl sda (text ++ piece) (ts ++ more) →
        (error ≢ NoMemory → AreAllEnded least scl sda (text ++ piece) (ts ++ more)) →
        HasTaken sink start ts last →
        sink.stops last more second_error told →
        (second_error ≡ NoMemory → error ≡ NoMemory) →
        StopsAtPiece text piece error told
    within : {error : RunError} {ts more : List Recorded} {last told : S} →
        PassesSoFar scl sda (text ++ piece) →
        BeginsWith least scl sda (text ++ piece) (ts ++ more) →
        HasTaken sink start ts last →
        sink.stops last more error told →
        StopsAtPiece text piece error told

  -- the dump is refused, or it has samples and the sink stops
  pub data StopsAtEnd (text : List ℕ) : RunError → S → Type 0 where
    refused : {error : RunError} {ts : List Recorded} {told : S} →
        RefusesDump scl sda text error →
        BeginsWith least scl sda text ts →
        (error ≢ NoMemory → AreAllEnded least scl sda text ts) →
        HasTaken sink start ts told →
        StopsAtEnd text error told
    at_end : {error : RunError} {samples : List Sample} {ts more : List Recorded} {last told : S} →
        samples_of scl sda text ≡ Ok samples →
        quiet_transactions least samples ≡ ts ++ more →
        HasTaken sink start ts last →
        sink.stops last more error told →
        StopsAtEnd text error told
