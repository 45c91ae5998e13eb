use Rattle.std.proofs.Common.{◌+◌, arith, ap, sym, ◌∙◌, subst, List, ℕ}
use Rattle.plan_core.specs.PlanContents.{plan_contents}
use Rattle.plan_core.specs.Senders.{what_is_sent}
use Rattle.capture_check.proofs.LeaverLemmas.{AreLeaversBelow, asked, leaver_joins, leaver_left_out, leavers_of_all}
use Rattle.capture_check.proofs.explaining.explain_marks.Goals.{then-may_leave+in_ok-push, else-may_leave}
use Rattle.capture_check.proofs.explaining.explain_marks.Goals as goal

pub loop-p-preserved : goal.loop-p-preserved
loop-p-preserved c =
    let plan = plan_contents c.args.plan.now in
    let is = asked plan c.args.marks.now c.loop-p.p (what_is_sent c.sends.result) c.may_leave.result c.sends.ensures c.may_leave.ensures in
    elim c.if-may_leave.branch [
      | then-may_leave+in_ok-push w ↦
          subst (λ (ps : List ℕ). AreLeaversBelow plan c.args.marks.now (c.loop-p.p + 1) ps) (sym (ap (λ v. v.items) w.explainers-is ∙ w.in_ok-push.ensures.items))
          (leaver_joins plan c.args.marks.now c.loop-p.p c.loop-p.explainers.items c.loop-p.invariant (is.0 w.if-may_leave.true))
      | else-may_leave w ↦
          subst (λ (ps : List ℕ). AreLeaversBelow plan c.args.marks.now (c.loop-p.p + 1) ps) (sym (ap (λ v. v.items) w.explainers-is))
          (leaver_left_out plan c.args.marks.now c.loop-p.p c.loop-p.explainers.items c.loop-p.invariant (λ h. cc (is.1 h, w.if-may_leave.false)))
    ]

pub returns : goal.returns
returns c = leavers_of_all (plan_contents c.args.plan.now) c.args.marks.now c.loop-p.p c.loop-p.explainers.items (omega (arith, c.loop-p-test.false, c.loop-p.auto.p-end, c.participants-p-end.ensures)) c.loop-p.invariant
