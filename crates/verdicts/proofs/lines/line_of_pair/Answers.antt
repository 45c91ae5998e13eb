use Rattle.std.proofs.Common.{subst}
use Rattle.plan_core.specs.PlanContents.{plan_contents}
use Rattle.plan_core.specs.Pairs.{pairs_of}
use Rattle.verdicts.specs.Verdicts.{IsSafeOutcome}
use Rattle.plan_core.proofs.ListLemmas.{some_at}
use Rattle.verdicts.proofs.TableLemmas.{safe_pair}
use Rattle.verdicts.proofs.lines.line_of_pair.Goals as goal

pub unreachable-requires : goal.unreachable-requires
unreachable-requires c =
    let plan = plan_contents c.args.plan.now in
    let p = some_at (pairs_of plan) c.args.i c.requires.pair in
    let verdict = c.in_ok-proof.ensures.verdict p.0.0 p.0.1 p.1 in
    subst IsSafeOutcome c.in-Unsafe.is (safe_pair plan c.args.i p.0.0 p.0.1 c.in_ok-proof.field-0.outcome c.requires.safe p.1 verdict)
