use Rattle.std.proofs.Common.{◌≡◌, ◌-◌, Ok, length}
use Rattle.verdicts.specs.Parts.{IsFoundOf}
use Rattle.verdicts.proofs.workers.steal_all.Given as goal

abbrev pub invariant-loop-number : goal.invariant-loop-number
invariant-loop-number g l =
    (l.thief.queue ≡ l.initial.thief.queue) × IsFoundOf (λ i x. goal.F-post g l.f i (Ok x)) l.thief.taken l.found.items

abbrev pub decreases-loop-number : goal.decreases-loop-number
decreases-loop-number g l = l.thief.queue.numbers - length l.thief.taken
