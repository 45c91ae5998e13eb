-- What the owner's deque is while it is filled, and while its seats are made.
use Rattle.std.specs.Prelude.{◌≡◌, ℕ, ◌+◌, true, []}
use Rattle.crossbeam_deque.specs.declared.handles.Worker.{Worker}
use Rattle.crossbeam_deque.specs.Handles.{worker_flavor, worker_view, worker_index}
use Rattle.pair_queue.specs.declared.tickets.Ticket.{Ticket}
use Rattle.pair_queue.specs.declared.tickets.Hand.{Hand}
use Rattle.pair_queue.specs.Steps.{opening}

-- nothing but so many numbers and end marks was pushed, and nothing was taken
abbrev pub filled : ℕ → ℕ → Hand
filled numbers ends = record opening { made = numbers; seats = ends; parts = ends }

-- the owner's view has so many parts, and nothing was taken
pub record IsUntouched (numbers seats parts : ℕ) (v : Hand) : Type 0 where
  pub live : v.live ≡ true
  pub own : v.own ≡ true
  pub made : v.made ≡ numbers
  pub all : v.seats ≡ seats
  pub mine : v.parts ≡ parts
  pub none_ended : v.ended ≡ 0
  pub none_taken : v.taken ≡ []
  pub none_past : v.past ≡ 0

module _ {A P : Type 0} where
  pub record IsFilled (numbers ends : ℕ) (w : Worker Ticket A Hand P) : Type 0 where
    pub flavor : worker_flavor w ≡ 0
    pub index : worker_index w ≡ numbers + ends
    pub known : worker_view w ≡ filled numbers ends

  pub record IsSeating (numbers seats parts : ℕ) (w : Worker Ticket A Hand P) : Type 0 where
    pub flavor : worker_flavor w ≡ 0
    pub known : IsUntouched numbers seats parts (worker_view w)
