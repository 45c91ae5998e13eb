-- What callers see of a queue's seats: which queue it is, what the seat took, whether it has ended, and what it knows of
-- the numbers that others took.
use Rattle.std.specs.Prelude.{◌≡◌, ℕ, ◌+◌, ◌<◌, ◌≤◌, Bool, true, false, List, [], ◌∷◌, ◌++◌, All, ⊤, Option, Some, None}
use Rattle.std.specs.List.Sorted.{IsStrictlyIncreasing}
use Rattle.pair_queue.specs.declared.answers.Take.{Take}
use Rattle.pair_queue.specs.declared.answers.Take.TheVariants.{Pair, Empty, Busy}

-- the deque's name, how many numbers were pushed, and how many thieves were made
pub record Queue : Type 0 where
  pub name : ℕ × ℕ
  pub numbers : ℕ
  pub thieves : ℕ

-- a seat of the queue, the numbers that it took, the first one first, and whether it has answered None or Empty. It knows
-- that all numbers below `past` were taken, by whichever seat
pub record Seat : Type 0 where
  pub queue : Queue
  pub taken : List ℕ
  pub ended : Bool
  pub past : ℕ

-- a seat that has taken nothing yet, and knows of no number that was taken
abbrev pub fresh : Queue → Seat
fresh queue = record { queue = queue; taken = []; ended = false; past = 0 }

-- the seat took this number, so that all numbers up to it were taken, and changed in nothing else
abbrev pub took : ℕ → Seat → Seat
took i seat = record { queue = seat.queue; taken = seat.taken ++ i ∷ []; ended = seat.ended; past = i + 1 }

-- the seat found that all numbers were taken, and changed in nothing else
abbrev pub ended : Seat → Seat
ended seat = record { queue = seat.queue; taken = seat.taken; ended = true; past = seat.queue.numbers }

-- the owner's seat after an answer
abbrev pub after_answer : Option ℕ → Seat → Seat
after_answer (Some i) seat = took i seat
after_answer None seat = ended seat

-- a thief's seat after an answer
abbrev pub after_take : Take → Seat → Seat
after_take (Pair i) seat = took i seat
after_take Empty seat = ended seat
after_take Busy seat = seat

-- a number of the queue, and above all that the seat took before
abbrev pub IsNext : ℕ → Seat → Type 0
IsNext i seat = (i < seat.queue.numbers) × All (λ j. j < i) seat.taken

-- a number that the seat did not know to be taken, and now it knows that all numbers up to this one were taken
abbrev pub IsFirstLeft : ℕ → Seat → Seat → Type 0
IsFirstLeft i before after = (before.past ≤ i) × (after.past ≡ i + 1)

-- all numbers of the queue were taken, and the seat knows it
abbrev pub IsUsedUp : Seat → Type 0
IsUsedUp seat = seat.past ≡ seat.queue.numbers

abbrev pub IfPair : Take → (ℕ → Type 0) → Type 0
IfPair (Pair i) P = P i
IfPair Empty P = ⊤
IfPair Busy P = ⊤

-- the seat took numbers of the queue, in strictly increasing order
abbrev pub IsInOrder : Seat → Type 0
IsInOrder seat = IsStrictlyIncreasing seat.taken × All (λ i. i < seat.queue.numbers) seat.taken
