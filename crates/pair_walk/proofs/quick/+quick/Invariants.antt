use Rattle.std.proofs.Common.{◌+◌, ◌*◌}
use Rattle.pair_walk.proofs.quick.+quick.Given as goal

abbrev pub decreases-never_clash : goal.decreases-never_clash
decreases-never_clash l = 3 * l.a + 2

abbrev pub decreases-nodes_never_clash : goal.decreases-nodes_never_clash
decreases-nodes_never_clash l = 3 * l.a + 1

abbrev pub decreases-both : goal.decreases-both
decreases-both l = 3 * l.a
