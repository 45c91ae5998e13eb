use Rattle.std.proofs.Common.{arith}
use Rattle.plan_core.proofs.PlanLemmas.{participants_few}
use Rattle.plan_core.proofs.plans.Plan.participants.Goals as goal

pub overflow_cast-result : goal.overflow_cast-result
overflow_cast-result c = omega (arith, participants_few c.args.self.now)
