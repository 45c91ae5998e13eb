use Rattle.std.proofs.Common.{length, ◌-◌}
use Rattle.given_plans.proofs.sources.+read_from.Given as goal

abbrev pub decreases-read_from : goal.decreases-read_from
decreases-read_from g l = length l.readers.now - l.place
