-- What is kept of the transactions that are seen.
use Rattle.std.specs.Prelude.{◌≡◌, ◌≢◌, ◌⊎◌, ℕ, List, [], Option, None, All, Contains, Ok, string_bytes}
use Rattle.capture_check.specs.Explained.{Leaver}
use Rattle.capture_check.specs.Transactions.{Recorded}
use Rattle.capture_check.specs.declared.listening.Until.{Until}
use Rattle.capture_check.specs.declared.listening.Until.TheVariants.{Stopped}
use Rattle.capture_check.specs.declared.listening.Mark.{Mark}
use Rattle.decoding.specs.Sinks.{Sink}
use Rattle.plan_core.specs.Contents.{Contents}
use Rattle.pulses.specs.Following.{quiet_transactions}
use Rattle.run_parts.specs.declared.runs.Status.{Status}
use Rattle.run_parts.specs.declared.runs.Status.TheVariants.{Good}
use Rattle.vcd_read.specs.declared.samples.Sample.{Sample}
use Rattle.vcd_read.specs.Dumps.{samples_of}
use Rattle.vcd_read.specs.Probes.{Finder}
use Rattle.lessons.specs.declared.checking.Learned.{Learned}
use Rattle.lessons.specs.declared.paths.Step.{Step}
use Rattle.lessons.specs.declared.seen.Sights.{Sights}
use Rattle.lessons.specs.Lessons.{Teaches, odd_in, paths_in}
use Rattle.lessons.specs.Plans.{HasMarks}

abbrev pub IsStopped : Until → Type 0
IsStopped (Stopped time) = Unit {0}
IsStopped _ = ⊥

-- one of these paths is that of a transaction with these marks
abbrev pub IsAmong : List (List Step) → List Mark → Type 0
IsAmong paths marks = (path : List Step) × Contains paths path × HasMarks path marks

-- a path that was seen is that of the transaction, or there are some that are no path of a message
abbrev pub IsKept : Sights → Recorded → Type 0
IsKept seen t = IsAmong (paths_in seen) t.marks ⊎ (odd_in seen ≢ [])

-- transactions are told whenever they begin
abbrev pub HasEveryTime : Sights → Type 0
HasEveryTime seen = (seen.view.window.from ≡ None) × (seen.view.window.to ≡ None)

-- all transactions are told, and no brief before has some of them
abbrev pub KeepsAll : Sights → Type 0
KeepsAll seen = (seen.before ≡ None) × HasEveryTime seen

-- a transaction among these that a STOP ended has the path
abbrev pub IsOfOne : List Recorded → List Step → Type 0
IsOfOne ts path = (t : Recorded) × Contains ts t × IsStopped t.until × HasMarks path t.marks

-- Each transaction of these that a STOP ended is kept, and what was kept before still is. Each path that is new is of one of them.
pub record Sees (before : Sights) (ts : List Recorded) (after : Sights) : Type 0 where
  pub same_brief : after.before ≡ before.before
  pub same_view : after.view ≡ before.view
  pub shown : (path : List Step) → Contains (paths_in after) path → Contains (paths_in before) path ⊎ IsOfOne ts path
  pub stays : (t : Recorded) → IsKept before t → IsKept after t
  pub kept : KeepsAll before → All (λ t. IsStopped t.until → IsKept after t) ts

-- a call sees its transactions, or stops
abbrev pub seeing_sink : Sink Sights
seeing_sink = record { takes = Sees; stops = λ before ts error after. Unit {0} }

-- each transaction that a STOP ended is explained by a participant of the plan
abbrev pub ExplainsAll : Contents → List Recorded → Type 0
ExplainsAll plan ts = All (λ t. IsStopped t.until → (p : ℕ) × Leaver plan t.marks p) ts

-- What was seen of the transactions in the dump is taught. Where the status is good, the plan that the brief means explains all
-- of them that a STOP ended.
pub record Learns (least : ℕ) (scl sda : Finder) (start : Sights) (dump : List ℕ) (learned : Learned) : Type 0 where
  pub samples : List Sample
  pub read : samples_of scl sda dump ≡ Ok samples
  pub seen : Sights
  pub sees : Sees start (quiet_transactions least samples) seen
  pub teaches : Teaches seen learned
  pub explains : KeepsAll start → learned.status ≡ Good →
      ExplainsAll teaches.plan (quiet_transactions least samples)

-- the report is the brief that was learned of this dump, and the status is its own
pub record TaughtBy (least : ℕ) (scl sda : Finder) (start : Sights) (dump report : List ℕ) (status : Status) : Type 0 where
  pub learned : Learned
  pub learns : Learns least scl sda start dump learned
  pub brief : report ≡ string_bytes learned.brief
  pub ended : status ≡ learned.status
