use Rattle.std.proofs.Common.{arith}
use Rattle.plan_core.specs.PlanContents.{plan_contents}
use Rattle.plan_core.specs.SenderPlaces.{sender_count}
use Rattle.plan_core.proofs.SenderPlaceLemmas.{pair_within, place_in}
use Rattle.plan_core.proofs.plans.Plan.sender_place.Goals as goal

pub sender-requires : goal.sender-requires
sender-requires c =
    let b = pair_within (plan_contents c.args.self.now) c.args.i c.pair-x.result.0 c.pair-x.result.1 c.pair-x.ensures in
    omega (arith, b.0, b.1)

pub sender-requires-2 : goal.sender-requires-2
sender-requires-2 c =
    (pair_within (plan_contents c.args.self.now) c.args.i c.pair-x.result.0 c.pair-x.result.1 c.pair-x.ensures).1

pub returns-clause-within : goal.returns-clause-within
returns-clause-within c =
    rw c.senders.ensures.value (place_in c.sender.result c.sender-2.result (sender_count (plan_contents c.args.self.now)) c.sender.ensures.within c.sender-2.ensures.within)
