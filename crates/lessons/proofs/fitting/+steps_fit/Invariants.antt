use Rattle.std.proofs.Common.{length}
use Rattle.lessons.proofs.fitting.+steps_fit.Given as goal

-- the steps that are left
abbrev pub decreases-steps_fit : goal.decreases-steps_fit
decreases-steps_fit l = length l.path.now
