use Rattle.std.proofs.Common.{◌+◌, ◌≤◌}
use Rattle.crossbeam_deque.specs.Handles.{worker_capacity}
use Rattle.pair_queue.specs.Opening.{IsFilled}
use Rattle.pair_queue.proofs.open.filled.Given as goal

abbrev pub invariant-loop-i : goal.invariant-loop-i
invariant-loop-i l = IsFilled l.i 0 l.deque × (l.n + l.seats ≤ worker_capacity l.deque)

abbrev pub invariant-loop-ends : goal.invariant-loop-ends
invariant-loop-ends l = IsFilled l.n l.ends l.deque × (l.n + l.seats ≤ worker_capacity l.deque)
