use Rattle.std.proofs.Common.{arith}
use Rattle.plan_core.specs.PlanContents.{plan_contents}
use Rattle.plan_core.proofs.PlanLemmas.{limits_of}
use Rattle.plan_core.proofs.ContentsLemmas.{pairs_few}
use Rattle.verdicts.proofs.shared_walks.walked.Goals as goal

pub share-requires-clause-numbers : goal.share-requires-clause-numbers
share-requires-clause-numbers g c κs within =
    let plan = c.args.plan.now in
    omega (arith, c.pair_count.ensures, pairs_few (plan_contents plan) (limits_of plan))
