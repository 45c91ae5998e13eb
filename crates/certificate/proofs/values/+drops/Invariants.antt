-- How much there is left to let go of: four for each unit of weight, and a rank for each function.
use Rattle.std.proofs.Common.{◌+◌, ◌*◌, ◌≤◌}
use Rattle.certificate.specs.Drops.{weight, node_weight}
use Rattle.certificate.specs.Proofs.{proof_tree}
use Rattle.certificate.proofs.values.+drops.Given as goal

abbrev pub invariant-Cert::drop-loop-self : goal.invariant-Cert::drop-loop-self
invariant-Cert::drop-loop-self l = weight (proof_tree l.self) ≤ weight (proof_tree l.initial.self)

abbrev pub decreases-Cert::drop-loop-self : goal.decreases-Cert::drop-loop-self
decreases-Cert::drop-loop-self l = weight (proof_tree l.self)

abbrev pub decreases-Cert::drop : goal.decreases-Cert::drop
decreases-Cert::drop l = 4 * weight (proof_tree l.self) + 3

abbrev pub decreases-turned : goal.decreases-turned
decreases-turned l = 4 * node_weight (proof_tree l.first.value) (proof_tree l.second.value) + 2
