use Rattle.std.proofs.Common.{◌≡◌, ◌+◌, ◌-◌, replicate}
use Rattle.crossbeam_deque.specs.Handles.{worker_deque}
use Rattle.pair_queue.specs.Opening.{IsSeating}
use Rattle.pair_queue.specs.Seats.{fresh}
use Rattle.pair_queue.proofs.open.open_queue.Given as goal

abbrev pub invariant-loop : goal.invariant-loop
invariant-loop l =
    IsSeating l.n (l.thieves + 1) (l.thieves + 1 - l.counter) l.deque
    × (l.others.items ≡ replicate l.counter (fresh (record { name = (worker_deque l.deque).0; numbers = l.n; thieves = l.thieves })))
