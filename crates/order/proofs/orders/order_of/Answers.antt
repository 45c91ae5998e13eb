use Rattle.std.proofs.Common.{length, slice_get, ap, sym, ◌∙◌, arith}
use Rattle.plan_core.proofs.ContentsLemmas.{pairs_few}
use Rattle.plan_core.proofs.PlanLemmas.{limits_of}
use Rattle.plan_core.proofs.SenderPlaceLemmas.{pair_within}
use Rattle.plan_core.specs.PlanContents.{plan_contents}
use Rattle.order.proofs.orders.order_of.Goals as goal

pub totals_of-requires-clause-few : goal.totals_of-requires-clause-few
totals_of-requires-clause-few c =
    omega (arith, pairs_few (plan_contents c.args.plan.now) (limits_of c.args.plan.now), ap length (c.deref.ensures.value ∙ c.in_ok-pairs.ensures))

pub totals_of-requires-clause-within : goal.totals_of-requires-clause-within
totals_of-requires-clause-within c k x y e =
    let same = c.deref.ensures.value ∙ c.in_ok-pairs.ensures in
    let b = pair_within (plan_contents c.args.plan.now) k x y (ap (λ ps. slice_get ps k) (sym same) ∙ e) in
    (b.0, omega (arith, b.1, c.participants.ensures))
