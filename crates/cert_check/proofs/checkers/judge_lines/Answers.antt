use Rattle.std.proofs.Common.{[], ◌∷◌, ◌++◌, sym, subst, arith}
use Rattle.certificate.specs.Reading.{ReadSoFar}
use Rattle.plan_core.specs.PlanContents.{plan_contents}
use Rattle.cert_check.specs.Judged.{Tallies}
use Rattle.cert_check.proofs.checkers.judge_lines.Goals as goal

pub lines-preserved : goal.lines-preserved
lines-preserved c = record {
  read = λ text before so_far tallied.
      let it = c.lines.invariant.read text before so_far tallied in
      let one = c.in-Ok-true.ensures.more c.in-Ok-true.field-0-test text it.0 it.1 it.2 in
      (it.0 ++ one.0 ∷ [], one.1, one.2);
  left = let less = c.in-Ok-true.ensures.less c.in-Ok-true.field-0-test in omega (arith, less, c.lines.invariant.left);
  memo = c.judge_next.ensures.memo;
}

pub returns-clause-stop : goal.returns-clause-stop
returns-clause-stop c text before so_far tallied =
    let it = c.lines.invariant.read text before so_far tallied in
    (it.0, c.stopped_before-2.ensures.stands text it.0 it.1, it.2)

pub returns-in-Ok-false-clause-stop : goal.returns-in-Ok-false-clause-stop
returns-in-Ok-false-clause-stop c text before so_far tallied =
    let it = c.lines.invariant.read text before so_far tallied in
    let stays = (c.in-Ok-false.ensures.end c.in-Ok-false.field-0-test).1 in
    (it.0, c.stopped_before.ensures.stands text it.0 (subst (ReadSoFar text it.0) (sym stays.0) it.1), subst (Tallies (plan_contents c.args.plan.now) it.0) (sym stays.1) it.2)

pub returns-in-Err-Wrong-clause-stop : goal.returns-in-Err-Wrong-clause-stop
returns-in-Err-Wrong-clause-stop c text before so_far tallied =
    let it = c.lines.invariant.read text before so_far tallied in
    let stays = c.in-Err-Wrong.ensures.unchanged in
    (it.0, c.stopped_before-in-Err-Wrong.ensures.stands text it.0 (subst (ReadSoFar text it.0) (sym stays.0) it.1), subst (Tallies (plan_contents c.args.plan.now) it.0) (sym stays.1) it.2)
