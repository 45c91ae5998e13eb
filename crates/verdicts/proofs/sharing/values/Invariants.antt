use Rattle.std.proofs.Common.{◌≡◌, map}
use Rattle.verdicts.proofs.sharing.values.Given as goal

abbrev pub invariant-loop-f : goal.invariant-loop-f
invariant-loop-f g l =
    (goal.iterator-loop-f g).can_next l.f-iterator
    × (goal.iterator-loop-f g).is_finite l.f-iterator
    × (l.values.items ≡ map (λ f. f.value) l.yielded)
