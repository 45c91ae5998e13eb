use Rattle.std.proofs.Common.{length}
use Rattle.lessons.proofs.checking.+read_all.Given as goal

-- the texts that are left
abbrev pub decreases-read_all : goal.decreases-read_all
decreases-read_all l = length l.texts.now
