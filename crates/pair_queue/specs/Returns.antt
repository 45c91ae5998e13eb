-- What the owner's view is while seats are given back.
use Rattle.std.specs.Prelude.{◌≡◌, ◌+◌, ◌<◌, true, cond, List, ◌++◌, length, flat_map}
use Rattle.pair_queue.specs.declared.tickets.Hand.{Hand}
use Rattle.pair_queue.specs.Seats.{Seat}
use Rattle.pair_queue.specs.Settling.{has_ended}

-- the view w after this seat was given back, of the view v before
pub record IsGivenBack (seat : Seat) (v w : Hand) : Type 0 where
  pub live : w.live ≡ v.live
  pub made : w.made ≡ v.made
  pub all : w.seats ≡ v.seats
  pub parts : w.parts ≡ v.parts + 1
  pub marks : w.ended ≡ v.ended + cond seat.ended 1 0
  pub takes : w.taken ≡ v.taken ++ seat.taken

-- the owner's view, with these thieves' lists in it
pub record HasTakenBack (owner : Seat) (thieves : List Seat) (v : Hand) : Type 0 where
  pub live : v.live ≡ true
  pub made : v.made ≡ owner.queue.numbers
  pub all : v.seats ≡ owner.queue.thieves + 1
  pub parts : v.parts ≡ length thieves + 1
  pub marks : has_ended owner thieves ≡ true → 0 < v.ended
  pub takes : v.taken ≡ owner.taken ++ flat_map (λ thief. thief.taken) thieves
