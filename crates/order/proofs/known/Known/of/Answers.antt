use Rattle.order.proofs.MemoLemmas.{between_exchanged}
use Rattle.plan_core.specs.PlanContents.{plan_contents}
use Rattle.order.proofs.known.Known.of.Goals as goal

pub returns-else-sender-clause-outcomes : goal.returns-else-sender-clause-outcomes
returns-else-sender-clause-outcomes c =
    let other = c.exchanged.ensures in
    between_exchanged (plan_contents c.args.plan.now) c.args.x c.args.y c.at-else-sender.result c.exchanged.result c.at-else-sender.ensures.outcomes other.both other.first other.second
