-- What a seat is while it is in use.
use Rattle.std.specs.Prelude.{◌≡◌, ℕ, ◌+◌, ◌-◌, ◌<◌, ◌≤◌, Bool, true, cond, All, length}
use Rattle.std.specs.List.Sorted.{IsStrictlyIncreasing}
use Rattle.crossbeam_deque.specs.declared.handles.Worker.{Worker}
use Rattle.crossbeam_deque.specs.declared.handles.Stealer.{Stealer}
use Rattle.crossbeam_deque.specs.Handles.{Pass, view, IsPassOf, worker_deque, worker_flavor, worker_view}
use Rattle.crossbeam_deque.specs.Handles.{stealer_deque, stealer_flavor}
use Rattle.pair_queue.specs.declared.tickets.Ticket.{Ticket}
use Rattle.pair_queue.specs.declared.tickets.Hand.{Hand}
use Rattle.pair_queue.specs.Seats.{Queue, Seat}

-- its view has one part, it took in order what it took, and where it has ended its part was used and it knows that all
-- numbers were taken
pub record IsSeated (v : Hand) (ended : Bool) : Type 0 where
  pub live : v.live ≡ true
  pub own : v.own ≡ true
  pub one : v.parts ≡ 1
  pub marks : v.ended ≡ cond ended 1 0
  pub rising : IsStrictlyIncreasing v.taken
  pub below : All (λ i. i < v.made) v.taken
  pub count : length v.taken ≤ v.made
  pub over : ended ≡ true → v.past ≡ v.made

-- the queue that a view knows, and the seat that callers see
abbrev pub queue_of : ℕ × ℕ → Hand → Queue
queue_of name v = record { name = name; numbers = v.made; thieves = v.seats - 1 }

abbrev pub seat_of : ℕ × ℕ → Hand → Bool → Seat
seat_of name v ended = record { queue = queue_of name v; taken = v.taken; ended = ended; past = v.past }

module _ {A P : Type 0} where
  abbrev pub owner_seat : Worker Ticket A Hand P → Bool → Seat
  owner_seat w ended = seat_of (worker_deque w).0 (worker_view w) ended

  abbrev pub thief_seat : Stealer Ticket A Hand P → Pass Ticket Hand A → Bool → Seat
  thief_seat s p ended = seat_of (stealer_deque s).0 (view p) ended

  -- the owner's worker takes at the front, and knows how many thieves there are
  pub record IsOwner (w : Worker Ticket A Hand P) (thieves : ℕ) (ended : Bool) : Type 0 where
    pub flavor : worker_flavor w ≡ 0
    pub thieves_made : (worker_view w).seats ≡ thieves + 1
    pub seated : IsSeated (worker_view w) ended

  -- a thief's pass is of the deque that it steals from
  pub record IsThief (s : Stealer Ticket A Hand P) (p : Pass Ticket Hand A) (ended : Bool) : Type 0 where
    pub flavor : stealer_flavor s ≡ 0
    pub pass : IsPassOf (stealer_deque s) p
    pub seated : IsSeated (view p) ended
