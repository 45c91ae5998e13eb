-- Numbers for names in a plan: those of its messages from 0 on, one for all names that no message has, then those of its
-- interrupts, and one for all names that no interrupt has.
-- Only private contracts and proofs use this.
use Rattle.std.specs.Prelude.{◌≡◌, ℕ, ◌+◌, ◌*◌, ◌<◌, Bool, List, length, map, All, Some, slice_get}
use Rattle.std.specs.List.{list_any, position_or_len, slice_index_or}
use Rattle.std.specs.Map.{keys_of}
use Rattle.std.specs.Str.{bytes_eq}
use Rattle.certificate.specs.declared.values.Fault.{Fault}
use Rattle.plan_core.specs.declared.plans.Participant.{Participant}
use Rattle.plan_core.specs.declared.plans.Participant.TheVariants.{Sending, Interrupt}
use Rattle.plan_core.specs.Contents.{Contents}
use Rattle.plan_core.specs.Labels.{name_at}
use Rattle.plan_core.specs.Pairs.{pairs_of}
use Rattle.plan_core.specs.Participants.{participants_of, names_both}

-- where this name stands among those of these entries, and how many they are where it does not
abbrev pub place_of : {X : Type 0} → List ℕ → List (List ℕ × X) → ℕ
place_of name entries = position_or_len (bytes_eq name) (keys_of entries)

-- the number in the plan of what a participant of the other plan sends
abbrev pub number_in : Contents → Contents → Participant → ℕ
number_in plan other (Sending c m) = place_of (name_at other.messages m) plan.messages
number_in plan other (Interrupt k) = length plan.messages + 1 + place_of (name_at other.interrupts k) plan.interrupts

-- each of them is below this
abbrev pub number_count : Contents → ℕ
number_count plan = length plan.messages + length plan.interrupts + 2

abbrev pub number_at : Contents → Contents → ℕ → ℕ
number_at plan other x = number_in plan other (slice_index_or (participants_of other) x (Interrupt 0))

abbrev pub numbers_in : Contents → Contents → List ℕ
numbers_in plan other = map (number_in plan other) (participants_of other)

abbrev pub numbers_at : Contents → Contents → ℕ × ℕ → ℕ × ℕ
numbers_at plan other two = (number_at plan other two.0, number_at plan other two.1)

-- the two numbers of the pair of a fault
abbrev pub numbers_of : Contents → Contents → ℕ × Fault → ℕ × ℕ
numbers_of plan other found = numbers_at plan other (slice_index_or (pairs_of other) found.0 (0, 0))

-- those of all
abbrev pub all_numbers : Contents → Contents → List (ℕ × Fault) → List (ℕ × ℕ)
all_numbers plan other faults = map (numbers_of plan other) faults

-- these two stand among the others, in this order or the other one
abbrev pub is_among : List (ℕ × ℕ) → ℕ × ℕ → Bool
is_among others two = list_any (names_both two.0 two.1) others

-- both of each are below n
abbrev pub AreBelow : ℕ → List (ℕ × ℕ) → Type 0
AreBelow n pairs = All (λ two. (two.0 < n) × (two.1 < n)) pairs

-- for each two numbers below n whether they are among these
pub record IsTable (n : ℕ) (pairs : List (ℕ × ℕ)) (table : List Bool) : Type 0 where
  pub sized : length table ≡ n * n
  pub each : (a b : ℕ) → a < n → b < n → slice_get table (a * n + b) ≡ Some (is_among pairs (a, b))
