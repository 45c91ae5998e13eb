use Rattle.std.proofs.Common.{◌≡◌, length, subst, arith}
use Rattle.plan_core.specs.PlanContents.{plan_contents}
use Rattle.plan_core.specs.Pairs.{pairs_of}
use Rattle.verdicts.specs.Lines.{HaveLines}
use Rattle.verdicts.proofs.ProofLines.{no_line_is_made, have_next}
use Rattle.verdicts.proofs.lines.proof_lines.Goals as goal

pub loop-i-init : goal.loop-i-init
loop-i-init c =
    let plan = plan_contents c.args.plan.now in
    record {
      lines = no_line_is_made plan c.in_ok-lines.lines.items c.sender_places.result c.in_ok-lines.ensures c.sender_places.ensures;
      made = λ i h x y e. absurd (omega (arith, h));
    }

pub loop-i-preserved : goal.loop-i-preserved
loop-i-preserved c =
    let after = c.in_ok-make_line.ensures in
    record {
      lines = after.lines;
      made = have_next (plan_contents c.args.plan.now) c.make_line.new.lines.items c.loop-i.i (λ j h. after.keeps j (c.loop-i.invariant.made j h)) after.made;
    }

pub returns-clause-made : goal.returns-clause-made
returns-clause-made c =
    let plan = plan_contents c.args.plan.now in
    let end : c.loop-i.i ≡ length (pairs_of plan) = omega (arith, c.loop-i-test.false, c.loop-i.auto.i-end, c.pair_count-i-end.ensures) in
    subst (HaveLines plan c.loop-i.lines.items) end c.loop-i.invariant.made
