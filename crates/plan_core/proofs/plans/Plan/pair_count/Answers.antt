use Rattle.plan_core.proofs.PlanLemmas.{pair_count_is}
use Rattle.plan_core.proofs.plans.Plan.pair_count.Goals as goal

pub returns : goal.returns
returns c = pair_count_is c.args.self.now
