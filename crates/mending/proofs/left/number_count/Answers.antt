use Rattle.std.proofs.Common.{arith}
use Rattle.plan_core.proofs.PlanLemmas.{limits_of}
use Rattle.mending.proofs.left.number_count.Goals as goal

pub returns-clause-few : goal.returns-clause-few
returns-clause-few c =
    let limits = limits_of c.args.plan.now in
    omega (arith, c.messages.ensures, c.interrupts.ensures, limits.messages.count, limits.interrupts.count)
