use Rattle.std.proofs.Common.{◌≡◌}
use Rattle.plan_text.specs.Places.{so_far, ahead}
use Rattle.plan_text.specs.Reader.{items_at, size}
use Rattle.plan_text.proofs.items.Reader.items.Given as goal

-- what is left is read as all items are
abbrev pub invariant-loop : goal.invariant-loop
invariant-loop l = items_at l.self.version (so_far l.self) (ahead l.self) ≡ items_at l.initial.self.version (so_far l.initial.self) (ahead l.initial.self)

abbrev pub decreases-loop : goal.decreases-loop
decreases-loop l = size (ahead l.self).tokens
