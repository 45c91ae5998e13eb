use Rattle.std.proofs.Common.{length}
use Rattle.lessons.proofs.had.+path_from.Given as goal

-- the steps that are left
abbrev pub decreases-path_from : goal.decreases-path_from
decreases-path_from l = length l.path.now
