use Rattle.std.proofs.Common.{[], ◌∷◌, ◌++◌, sym, subst}
use Rattle.std.proofs.lemmas.Result.{err_from_is_err_and}
use Rattle.certificate.specs.Certificates.{proofs}
use Rattle.plan_core.specs.PlanContents.{plan_contents}
use Rattle.cert_check.specs.Accepts.{Judges}
use Rattle.cert_check.specs.Judged.{Tallies}
use Rattle.cert_check.proofs.acceptance.judge_rest.Goals as goal
use Rattle.cert_check.proofs.acceptance.judge_rest.Goals.{in-None, in-Some}

pub returns-in_err-judge_next : goal.returns-in_err-judge_next
returns-in_err-judge_next c text trees so_far tallied =
    let it = c.lines.invariant.0 text trees so_far tallied in
    let p = err_from_is_err_and c.from_residual.result c.from_residual.ensures.1 in
    rw (p.1, p.2) (c.in_err-judge_next.ensures.refused text it.0 it.1)

pub lines-preserved : goal.lines-preserved
lines-preserved c = (
  λ text before so_far tallied.
      let it = c.lines.invariant.0 text before so_far tallied in
      let one = c.in_ok-judge_next.ensures.more c.if-branch.true text it.0 it.1 it.2 in
      (it.0 ++ one.0 ∷ [], one.1, one.2),
  c.in_ok-judge_next.ensures.memo,
)

pub returns : goal.returns
returns c text trees so_far tallied =
    let plan = plan_contents c.args.plan.now in
    let it = c.lines.invariant.0 text trees so_far tallied in
    let ended = c.in_ok-judge_next.ensures.end c.if-branch.false in
    let all = subst (Tallies plan it.0) (sym ended.1.1) it.2 in (
      proofs it.0,
      ended.0 text it.0 it.1,
      elim c.match-fault.branch [
        | in-None w ↦ subst (Judges plan (proofs it.0)) (sym w.result-is) (w.in-None.ensures it.0 all)
        | in-Some w ↦ subst (Judges plan (proofs it.0)) (sym w.result-is) (w.in-Some.ensures it.0 all)
      ],
    )
