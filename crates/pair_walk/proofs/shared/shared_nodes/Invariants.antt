use Rattle.plan_core.specs.PlanContents.{plan_contents}
use Rattle.pair_walk.specs.Shared.{AreRoots}
use Rattle.pair_walk.proofs.shared.shared_nodes.Given as goal

abbrev pub invariant-loop-k : goal.invariant-loop-k
invariant-loop-k l = AreRoots (plan_contents l.plan) l.gathering.nodes.items l.roots.items l.k
