use Rattle.std.proofs.Common.{length}
use Rattle.brief_text.proofs.groups.+has_long.Given as goal

abbrev pub decreases-has_long : goal.decreases-has_long
decreases-has_long l = length l.devices.now
