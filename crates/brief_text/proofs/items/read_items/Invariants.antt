use Rattle.std.proofs.Common.{◌≡◌, ◌-◌}
use Rattle.brief_text.specs.Briefs.{items_in}
use Rattle.brief_text.specs.Standing.{draft, place}
use Rattle.brief_text.proofs.items.read_items.Given as goal

-- what is left is read as all items are
abbrev pub invariant-loop : goal.invariant-loop
invariant-loop l = items_in l.letters (l.fn.most - l.counter) (draft l.board) (place l.source) ≡ items_in l.letters l.fn.most (draft l.initial.board) (place l.initial.source)
