use Rattle.std.proofs.Common.{length}
use Rattle.brief_text.proofs.boards.Board.+is_of_one.Given as goal

abbrev pub decreases-is_of_one : goal.decreases-is_of_one
decreases-is_of_one l = length l.names.now
