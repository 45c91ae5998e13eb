-- The transactions of a capture whose short pulses are left out.
use Rattle.std.specs.Prelude.{◌≡◌, ℕ, List, ◌∷◌, Option, Some, None}
use Rattle.vcd_read.specs.declared.samples.Sample.{Sample}
use Rattle.capture_check.specs.Following.{transactions_behind, transactions_in}
use Rattle.capture_check.specs.Transactions.{Recorded}
use Rattle.capture_check.specs.Views.{place_of}
use Rattle.pulses.specs.declared.filtering.Filter.{Filter}
use Rattle.pulses.specs.declared.following.QuietFollower.{QuietFollower}
use Rattle.pulses.specs.Filtering.{behind, least_of, HaveGoneOn}
use Rattle.pulses.specs.Pulses.{quiet}

-- the transactions of a capture without the runs that last less than this time
abbrev pub quiet_transactions : ℕ → List Sample → List Recorded
quiet_transactions least samples = transactions_in (quiet least samples)

-- how long a level has to last
abbrev pub least_among : Option Filter → ℕ
least_among None = 0
least_among (Some filter) = least_of filter

abbrev pub least_in : QuietFollower → ℕ
least_in f = least_among f.filter

-- the samples that are handed on where these come, and then the end
abbrev pub handed_on : Option Filter → List Sample → List Sample
handed_on None samples = samples
handed_on (Some filter) samples = behind filter samples

-- the transactions that end in these samples, and the one that goes on then
abbrev pub quiet_behind : QuietFollower → List Sample → List Recorded
quiet_behind f samples = transactions_behind (place_of f.follower) (handed_on f.filter samples)

-- each level that has lasted was handed on, and each transaction that had ended was handed out
abbrev pub HandsOn : Option Filter → Type 0
HandsOn None = Unit {0}
HandsOn (Some filter) = HaveGoneOn filter

abbrev pub HasHandedOut : QuietFollower → Type 0
HasHandedOut f = HandsOn f.filter

-- none of the transactions that are left has ended: none comes first whatever samples follow
abbrev pub NoneHasEnded : QuietFollower → Type 0
NoneHasEnded f = (t : Recorded) → ((more : List Sample) → (later : List Recorded) × (quiet_behind f more ≡ t ∷ later)) → ⊥
