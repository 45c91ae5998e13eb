use Rattle.std.proofs.Common.{◌≡◌, map, length}
use Rattle.brief_text.specs.Meanings.{message_of}
use Rattle.brief_text.specs.Standing.{draft}
use Rattle.brief_text.proofs.MessageLemmas.{with_all}
use Rattle.brief_text.proofs.boards.Board.push_messages.Given as goal

abbrev pub invariant-loop-left : goal.invariant-loop-left
invariant-loop-left l = with_all (draft l.self) (map message_of l.left.items) ≡ with_all (draft l.initial.self) (map message_of l.initial.left.items)

abbrev pub decreases-loop-left : goal.decreases-loop-left
decreases-loop-left l = length l.left.items
