use Rattle.std.proofs.Common.{ℕ, ap, sym, ◌∙◌, arith}
use Rattle.std.proofs.lemmas.Option.{get_or_from_slice_get}
use Rattle.plan_core.specs.PlanContents.{plan_contents}
use Rattle.plan_core.specs.Pairs.{pairs_of}
use Rattle.plan_core.proofs.SenderPlaceLemmas.{pair_within}
use Rattle.causes.specs.Causes.{in_order, side_at}
use Rattle.causes.proofs.meetings.sides_of.Goals as goal

pub side_at-a-requires-clause-within : goal.side_at-a-requires-clause-within
side_at-a-requires-clause-within c =
    let b = pair_within (plan_contents c.args.plan.now) c.args.pair c.pair-x.result.0 c.pair-x.result.1 c.pair-x.ensures in
    omega (arith, b.0, b.1)

pub side_at-b-requires-clause-within : goal.side_at-b-requires-clause-within
side_at-b-requires-clause-within c =
    (pair_within (plan_contents c.args.plan.now) c.args.pair c.pair-x.result.0 c.pair-x.result.1 c.pair-x.ensures).1

pub returns : goal.returns
returns c =
    let plan = plan_contents c.args.plan.now in
    let families = c.args.families.now in
    let tie = get_or_from_slice_get (pairs_of plan) c.args.pair c.pair-x.result (0, 0) c.pair-x.ensures in
    let a = c.side_at-a.ensures ∙ ap (λ (q : ℕ × ℕ). side_at plan families q.0 c.args.fault.now.first) (sym tie) in
    let b = c.side_at-b.ensures ∙ ap (λ (q : ℕ × ℕ). side_at plan families q.1 c.args.fault.now.second) (sym tie) in
    c.in_order.ensures ∙ (λ i. in_order (a i) (b i))
