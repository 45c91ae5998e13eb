use Rattle.std.proofs.Common.{◌≡◌}
use Rattle.crossbeam_deque.specs.Handles.{worker_deque, worker_view}
use Rattle.pair_queue.specs.Returns.{HasTakenBack}
use Rattle.pair_queue.proofs.settling.take_back.Given as goal

abbrev pub invariant-loop-thief : goal.invariant-loop-thief
invariant-loop-thief l =
    (goal.iterator-loop-thief).can_next l.thief-iterator
    × (goal.iterator-loop-thief).is_finite l.thief-iterator
    × ((worker_deque l.deque).0 ≡ l.fn.owner.queue.name)
    × HasTakenBack l.fn.owner l.yielded (worker_view l.deque)
