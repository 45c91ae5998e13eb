use Rattle.std.proofs.Common.{◌+◌, ◌*◌}
use Rattle.certificate.proofs.sources.Source.+proof.Given as goal

-- each node leaves room for one less
abbrev pub decreases-proof : goal.decreases-proof
decreases-proof l = 3 * l.room

abbrev pub decreases-node : goal.decreases-node
decreases-node l = 3 * l.room + 2

abbrev pub decreases-below : goal.decreases-below
decreases-below l = 3 * l.room + 1
