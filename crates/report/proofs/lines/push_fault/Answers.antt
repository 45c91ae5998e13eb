use Rattle.std.proofs.Common.{arith}
use Rattle.plan_core.specs.PlanContents.{plan_contents}
use Rattle.pair_walk.proofs.Faulty.{pair_is_below}
use Rattle.report.proofs.lines.push_fault.Goals as goal

pub label-requires : goal.label-requires
label-requires c =
    let b = pair_is_below (plan_contents c.args.plan.now) c.args.i c.pair-x.result c.pair-x.ensures in
    omega (arith, b.0, b.1)

pub label-requires-2 : goal.label-requires-2
label-requires-2 c = (pair_is_below (plan_contents c.args.plan.now) c.args.i c.pair-x.result c.pair-x.ensures).1
