use Rattle.std.proofs.Common.{length}
use Rattle.board_files.proofs.paths.+folder_of.Given as goal

abbrev pub decreases-folder_of : goal.decreases-folder_of
decreases-folder_of l = length l.path.now
