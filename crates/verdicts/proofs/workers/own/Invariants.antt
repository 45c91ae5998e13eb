use Rattle.std.proofs.Common.{◌≡◌, ◌-◌, Ok, length}
use Rattle.verdicts.specs.Parts.{IsFoundOf}
use Rattle.verdicts.proofs.workers.own.Given as goal

abbrev pub invariant-loop-number : goal.invariant-loop-number
invariant-loop-number g l =
    (l.owner.queue ≡ l.initial.owner.queue) × IsFoundOf (λ i x. goal.F-post g l.f i (Ok x)) l.owner.taken l.found.items

abbrev pub decreases-loop-number : goal.decreases-loop-number
decreases-loop-number g l = l.owner.queue.numbers - length l.owner.taken
