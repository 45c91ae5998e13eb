-- A dispatch log: the events of a first-in first-out list of numbers, in the order in which they happened to it. A seat
-- that is told to ask again (Busy) leaves no event.
use Rattle.std.specs.Prelude.{◌≡◌, ℕ, ◌+◌, ◌<◌, if◌then◌else◌, ◌==◌, List, [], ◌∷◌, ◌++◌, All}
use Rattle.std.specs.List.{range_with_len}
use Rattle.std.specs.List.Sorted.{IsStrictlyIncreasing}

pub data Event : Type 0 where
  -- this number was added
  Push : (i : ℕ) → Event
  -- the seat took this number
  Take : (seat i : ℕ) → Event
  -- the seat found no number
  Empty : (seat : ℕ) → Event

-- what the list is before the event, and after it: Push adds at the end, Take removes the first, Empty finds nothing
abbrev pub Happens : Event → List ℕ → List ℕ → Type 0
Happens (Push i) before after = after ≡ before ++ i ∷ []
Happens (Take seat i) before after = before ≡ i ∷ after
Happens (Empty seat) before after = (before ≡ []) × (after ≡ [])

-- The log, its latest event first, is legal on a list that starts empty, and leaves `rest`
abbrev pub Leaves : List Event → List ℕ → Type 0
Leaves [] rest = rest ≡ []
Leaves (event ∷ log) rest = (before : List ℕ) × Leaves log before × Happens event before rest

-- the numbers that were pushed, the first one first
abbrev pub pushed : List Event → List ℕ
pushed [] = []
pushed (Push i ∷ log) = pushed log ++ i ∷ []
pushed (Take seat i ∷ log) = pushed log
pushed (Empty seat ∷ log) = pushed log

-- the numbers that were taken, by whichever seat, the first one first
abbrev pub taken : List Event → List ℕ
taken [] = []
taken (Push i ∷ log) = taken log
taken (Take seat i ∷ log) = taken log ++ i ∷ []
taken (Empty seat ∷ log) = taken log

-- those of them that this seat took
abbrev pub taken_by : ℕ → List Event → List ℕ
taken_by seat [] = []
taken_by seat (Push i ∷ log) = taken_by seat log
taken_by seat (Take other i ∷ log) = if other == seat then taken_by seat log ++ i ∷ [] else taken_by seat log
taken_by seat (Empty other ∷ log) = taken_by seat log

-- 0 to n - 1, in order
abbrev pub first_numbers : ℕ → List ℕ
first_numbers n = range_with_len 0 n

-- the log is legal, leaves `rest`, and pushed 0 to n - 1 in this order
pub record IsPushed (n : ℕ) (log : List Event) (rest : List ℕ) : Type 0 where
  pub legal : Leaves log rest
  pub pushes : pushed log ≡ first_numbers n

-- Of n numbers the first k were taken, in order, and the others are left, in order. Each seat took some of those k, and
-- its takes rise strictly
pub record IsHandedOut (n : ℕ) (log : List Event) (rest : List ℕ) : Type 0 where
  pub k : ℕ
  pub left : ℕ
  pub all : k + left ≡ n
  pub takes : taken log ≡ first_numbers k
  pub rest_is : rest ≡ range_with_len k left
  pub rising : (seat : ℕ) → IsStrictlyIncreasing (taken_by seat log)
  pub below : (seat : ℕ) → All (λ i. i < k) (taken_by seat log)
