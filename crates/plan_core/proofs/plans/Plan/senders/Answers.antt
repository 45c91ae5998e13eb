use Rattle.std.proofs.Common.{arith}
use Rattle.plan_core.proofs.PlanLemmas.{limits_of}
use Rattle.plan_core.proofs.plans.Plan.senders.Goals as goal

pub returns-clause-few : goal.returns-clause-few
returns-clause-few c =
    let limits = limits_of c.args.self.now in
    omega (arith, limits.messages.count, limits.interrupts.count, c.messages.ensures, c.interrupts.ensures)
