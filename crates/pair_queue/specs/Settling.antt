-- When a queue is settled, and why it is not.
use Rattle.std.specs.Prelude.{◌≡◌, Bool, true, false, ◌||◌, List, ◌++◌, length, flat_map}
use Rattle.std.specs.List.{list_any}
use Rattle.std.specs.List.Sorted.{IsPermutation}
use Rattle.pair_queue.specs.declared.answers.SettleFault.{SettleFault}
use Rattle.pair_queue.specs.declared.answers.SettleFault.TheVariants.{Missing, Left}
use Rattle.pair_queue.specs.Dispatch.{first_numbers}
use Rattle.pair_queue.specs.Seats.{Seat}

-- some seat has answered None or Empty
abbrev pub has_ended : Seat → List Seat → Bool
has_ended owner thieves = owner.ended || list_any (λ thief. thief.ended) thieves

-- all thieves are there
abbrev pub AreAll : Seat → List Seat → Type 0
AreAll owner thieves = length thieves ≡ owner.queue.thieves

-- all thieves are there, and some seat has ended: the queue can be settled
abbrev pub IsComplete : Seat → List Seat → Type 0
IsComplete owner thieves = AreAll owner thieves × (has_ended owner thieves ≡ true)

-- the fault is the one that is to be told: a wrong number of thieves comes first
abbrev pub IsFault : SettleFault → Seat → List Seat → Type 0
IsFault Missing owner thieves = ¬ AreAll owner thieves
IsFault Left owner thieves = AreAll owner thieves × (has_ended owner thieves ≡ false)

-- the numbers that all of them took together are 0 to n - 1, each once
abbrev pub TookEachOnce : Seat → List Seat → Type 0
TookEachOnce owner thieves =
    IsPermutation (first_numbers owner.queue.numbers) (owner.taken ++ flat_map (λ thief. thief.taken) thieves)
