use Rattle.std.proofs.Common.{◌≡◌, ◌+◌, ◌++◌, ◌∷◌, [], List, Vec, Global, Option, Some, None, length, ap, sym, ◌∙◌, subst, arith}
use Rattle.std.proofs.lemmas.List.{length_push}
use Rattle.arbitration.specs.declared.spans.Outcomes.{Outcomes}
use Rattle.order.specs.Known.{IsMemo}
use Rattle.order.proofs.WayLemmas.{unsafe_next, safe_next, so_far_is}
use Rattle.plan_core.proofs.ListLemmas.{some_at}
use Rattle.plan_core.proofs.SenderPlaceLemmas.{pair_within}
use Rattle.plan_core.specs.Pairs.{pairs_of}
use Rattle.plan_core.specs.PlanContents.{plan_contents}
use Rattle.verdicts.specs.Faults.{fault_list}
use Rattle.order.proofs.orders.ways_in.Goals as goal
use Rattle.order.proofs.orders.ways_in.Goals.{then-is_next+in_ok-push, else-is_next+in_ok-push-2}

pub of-requires-clause-x_within : goal.of-requires-clause-x_within
of-requires-clause-x_within c =
    let b = pair_within (plan_contents c.args.plan.now) c.loop-i.i c.pair-x.result.0 c.pair-x.result.1 c.pair-x.ensures in
    omega (arith, b.0, b.1)

pub of-requires-clause-y_within : goal.of-requires-clause-y_within
of-requires-clause-y_within c =
    (pair_within (plan_contents c.args.plan.now) c.loop-i.i c.pair-x.result.0 c.pair-x.result.1 c.pair-x.ensures).1

pub loop-i-preserved : goal.loop-i-preserved
loop-i-preserved c =
    let plan = plan_contents c.args.plan.now in
    let faults = fault_list c.args.faults.now in
    let before = c.loop-i.invariant in
    let p = some_at (pairs_of plan) c.loop-i.i (omega (arith, c.loop-i-test.true, c.pair_count-i-end.ensures)) in
    elim c.if-is_next.branch [
      | then-is_next+in_ok-push w ↦
          let items : c.if-is_next.ways.items ≡ c.loop-i.ways.items ++ None ∷ [] = ap (λ (v : Vec (Option Outcomes) Global). v.items) w.ways-is ∙ w.in_ok-push.ensures.items in
          record {
            memo = subst (IsMemo plan) (sym w.known-is) before.memo;
            count = omega (arith, ap length items, length_push c.loop-i.ways.items None, before.count);
            met = omega (arith, w.met-is, before.met);
            so_far = λ right.
                so_far_is plan faults right.verdicts (c.loop-i.met + 1) c.if-is_next.met (c.loop-i.i + 1) (c.loop-i.ways.items ++ None ∷ []) c.if-is_next.ways.items w.met-is items
                (unsafe_next plan faults right c.loop-i.met c.loop-i.i p.0.0 p.0.1 c.loop-i.ways.items p.1 before.count (before.so_far right) (sym c.is_next.ensures ∙ w.if-is_next.true));
          }
      | else-is_next+in_ok-push-2 w ↦
          let items : c.if-is_next.ways.items ≡ c.loop-i.ways.items ++ Some w.of.result ∷ [] = ap (λ (v : Vec (Option Outcomes) Global). v.items) w.ways-is ∙ w.in_ok-push-2.ensures.items in
          let two = pair_within plan c.loop-i.i w.pair-x.result.0 w.pair-x.result.1 w.pair-x.ensures in
          record {
            memo = subst (IsMemo plan) (sym w.known-is) w.of.ensures.memo;
            count = omega (arith, ap length items, length_push c.loop-i.ways.items (Some w.of.result), before.count);
            met = omega (arith, w.met-is, before.met);
            so_far = λ right.
                so_far_is plan faults right.verdicts c.loop-i.met c.if-is_next.met (c.loop-i.i + 1) (c.loop-i.ways.items ++ Some w.of.result ∷ []) c.if-is_next.ways.items w.met-is items
                (safe_next plan faults right c.loop-i.met c.loop-i.i w.pair-x.result.0 w.pair-x.result.1 c.loop-i.ways.items w.pair-x.ensures before.count (before.so_far right) w.of.result two.0 w.of.ensures.outcomes (sym c.is_next.ensures ∙ w.if-is_next.false));
          }
    ]

pub returns-clause-each : goal.returns-clause-each
returns-clause-each c right = (c.loop-i.invariant.so_far right).each
