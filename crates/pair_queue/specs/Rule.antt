-- The rule of the queue: at every moment there is a legal dispatch log that leaves what the deque holds, and the seats'
-- lists are what they took in it.
use Rattle.std.specs.Prelude.{◌≡◌, ℕ, ◌+◌, ◌<◌, ◌≤◌, true, ◌==◌, List, [], ◌∷◌, ◌++◌, length, map, replicate, count_by}
use mathlib.Core.Option.{some}
use lib.ListN.{get_elem?}
use Rattle.pair_queue.specs.declared.tickets.Ticket.{Ticket}
use Rattle.pair_queue.specs.declared.tickets.Ticket.TheVariants.{Number, End}
use Rattle.pair_queue.specs.declared.tickets.Hand.{Hand}
use Rattle.pair_queue.specs.Dispatch.{Event, IsPushed, taken, taken_by}

-- numbers, and end marks after them
abbrev pub tickets : List ℕ → ℕ → List Ticket
tickets numbers ends = map Number numbers ++ replicate ends End

abbrev pub total : (Hand → ℕ) → List Hand → ℕ
total f [] = 0
total f (v ∷ views) = f v + total f views

-- how often i stands in the list
abbrev pub times : ℕ → List ℕ → ℕ
times i xs = count_by (λ j. j == i) xs

abbrev pub parts_of : List Hand → ℕ
parts_of views = total (λ v. v.parts) views

abbrev pub ended_of : List Hand → ℕ
ended_of views = total (λ v. v.ended) views

-- What a seat knows is so: how many numbers and end marks there are, that it took no more end marks than its own, that
-- there is no number left where it took one, that its list is what it took, and that at least `past` numbers were taken,
-- by whichever seat: they were taken in order from 0 on, so these are all numbers below `past`
pub record Fits (n : ℕ) (log : List Event) (left : List ℕ) (views : List Hand) (seat : ℕ) (v : Hand) : Type 0 where
  pub alone : v.alone ≡ true → length views ≡ 1
  pub made : v.live ≡ true → v.made ≡ n
  pub seats : v.live ≡ true → v.seats ≡ parts_of views
  pub ended : v.ended ≤ v.parts
  pub idle : v.parts ≡ 0 → v.taken ≡ []
  pub last : 0 < v.ended → left ≡ []
  pub own : v.own ≡ true → v.taken ≡ taken_by seat log
  pub past : v.past ≤ length (taken log)

-- all numbers below this one were taken: each stands once in the seats' lists
abbrev pub AreTaken : ℕ → List Hand → Type 0
AreTaken past views = (i : ℕ) → i < past → total (λ v. times i v.taken) views ≡ 1

-- Some numbers are left, and end marks after them. A legal log pushed 0 to n - 1 in order and leaves just these
-- numbers. What it took stands in the seats' lists, each number as often as it was taken. Each end mark was taken by a
-- seat or is left
pub record IsDispatched (items : List Ticket) (views : List Hand) : Type 0 where
  pub n : ℕ
  pub log : List Event
  pub left : List ℕ
  pub ends : ℕ
  pub holds : items ≡ tickets left ends
  pub played : IsPushed n log left
  pub takes : (i : ℕ) → total (λ v. times i v.taken) views ≡ times i (taken log)
  pub marks : parts_of views ≡ ended_of views + ends
  pub fits : (seat : ℕ) (v : Hand) → get_elem? views seat ≡ some v → Fits n log left views seat v
  -- a seat that is not there yet has taken nothing
  pub later : (seat : ℕ) → length views ≤ seat → taken_by seat log ≡ []
