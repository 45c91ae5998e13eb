use Rattle.std.proofs.Common.{length}
use Rattle.brief_text.proofs.groups.+repeats.Given as goal

abbrev pub decreases-repeats : goal.decreases-repeats
decreases-repeats l = length l.names.now
