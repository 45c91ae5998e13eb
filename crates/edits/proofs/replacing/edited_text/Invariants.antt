use Rattle.std.proofs.Common.{◌≡◌, ◌++◌, length}
use Rattle.edits.specs.Edited.{edited_from}
use Rattle.edits.proofs.replacing.edited_text.Given as goal

-- what is there, and what comes of the edits that are left, is all
abbrev pub invariant-loop-left : goal.invariant-loop-left
invariant-loop-left l = l.edited.items ++ edited_from l.number l.text l.kept l.left ≡ edited_from l.number l.text 0 l.edits

abbrev pub decreases-loop-left : goal.decreases-loop-left
decreases-loop-left l = length l.left
