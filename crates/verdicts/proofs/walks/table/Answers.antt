use Rattle.std.proofs.Common.{arith, length-append, [], ◌∷◌}
use Rattle.plan_core.specs.PlanContents.{plan_contents}
use Rattle.verdicts.proofs.TableLemmas.{verdicts_more}
use Rattle.verdicts.proofs.walks.table.Goals as goal

pub loop-i-preserved : goal.loop-i-preserved
loop-i-preserved c =
    let last = c.in_ok-walk.field-0 in
    rw c.in_ok-push.ensures.items (record {
      sized = omega (arith, c.loop-i.invariant.sized, length-append c.loop-i.verdicts.items (last ∷ []));
      each = verdicts_more (plan_contents c.args.plan.now) c.loop-i.verdicts.items c.loop-i.i last c.loop-i.invariant.sized c.loop-i.invariant.each c.in_ok-walk.ensures.number c.in_ok-walk.ensures.verdict;
    })
