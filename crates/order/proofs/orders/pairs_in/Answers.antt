use Rattle.order.proofs.OrderLemmas.{next_taken}
use Rattle.plan_core.specs.Pairs.{pairs_of}
use Rattle.plan_core.specs.PlanContents.{plan_contents}
use Rattle.order.proofs.orders.pairs_in.Goals as goal

pub loop-i-preserved : goal.loop-i-preserved
loop-i-preserved c =
    next_taken (pairs_of (plan_contents c.args.plan.now)) c.loop-i.i c.pair.result c.loop-i.pairs.items c.push.new.self.items c.pair.ensures c.loop-i.invariant c.in_ok-push.ensures.items
