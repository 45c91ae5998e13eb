use Rattle.std.proofs.Common.{◌≡◌, ◌++◌, All, length, flat_map}
use Rattle.verdicts.specs.Parts.{numbers_of, items_of}
use Rattle.verdicts.proofs.sharing.gathered.Given as goal

abbrev pub invariant-loop-part : goal.invariant-loop-part
invariant-loop-part g l =
    (goal.iterator-loop-part g).can_next l.part-iterator
    × (goal.iterator-loop-part g).is_finite l.part-iterator
    × (l.all.items ≡ l.initial.all.items ++ flat_map items_of l.yielded)
    × (numbers_of l.all.items ≡ l.fn.owner.taken ++ flat_map (λ t. t.taken) l.thieves.items)
    × All (λ t. t.queue ≡ l.fn.owner.queue) l.thieves.items
    × (length l.thieves.items ≡ length l.yielded)
