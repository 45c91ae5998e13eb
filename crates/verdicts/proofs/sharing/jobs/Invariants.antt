use Rattle.std.proofs.Common.{◌≡◌, map, length}
use Rattle.verdicts.proofs.sharing.jobs.Given as goal

abbrev pub invariant-loop-thief : goal.invariant-loop-thief
invariant-loop-thief l =
    (goal.iterator-loop-thief).can_next l.thief-iterator
    × (goal.iterator-loop-thief).is_finite l.thief-iterator
    × (map (λ j. j.thief) l.jobs.items ≡ l.yielded)
    × (l.worker ≡ length l.yielded)
