use Rattle.std.proofs.Common.{List, ◌++◌, [], ◌∷◌, map, take, arith, sym, subst}
use Rattle.std.proofs.lemmas.Slice.Zip.{AllZip-long}
use Rattle.plan_core.specs.PlanContents.{plan_contents}
use Rattle.capture_check.specs.Explained.{AreExplainers}
use Rattle.capture_check.specs.Transactions.{Recorded}
use Rattle.capture_check.specs.Views.{recorded}
use Rattle.report.specs.CaptureLines.{Tells, Tally, next_transaction}
use Rattle.report.specs.CaptureViews.{tally_of}
use Rattle.report.proofs.CaptureLemmas.{said_at, one_more_told}
use Rattle.report.proofs.telling.TellingExplainedSink.take.Goals as goal

pub bounds-explainers-k : goal.bounds-explainers-k
bounds-explainers-k c = omega (arith, AllZip-long _ _ _ c.requires, c.loop-k-test.true)

pub push-requires : goal.push-requires
push-requires c =
    said_at (λ v. v.items) (λ t ps. AreExplainers (plan_contents c.args.plan.now) (recorded t) ps) c.args.transactions.now c.args.explainers.now c.loop-k.k c.index-transactions-k.result c.index-explainers-k.result c.as_slice.result.now c.requires c.loop-k-test.true c.index-transactions-k.is c.index-explainers-k.is c.as_slice.ensures.value

pub loop-k-preserved : goal.loop-k-preserved
loop-k-preserved c = λ ts told.
    let plan = plan_contents c.args.plan.now in
    let t = c.index-transactions-k.result in
    let right = said_at (λ v. v.items) (λ u ps. AreExplainers plan (recorded u) ps) c.args.transactions.now c.args.explainers.now c.loop-k.k t c.index-explainers-k.result c.as_slice.result.now c.requires c.loop-k-test.true c.index-transactions-k.is c.index-explainers-k.is c.as_slice.ensures.value in
    subst (λ (us : List Recorded). Tells plan us (tally_of c.push.new.self)) (one_more_told recorded ts c.args.transactions.now c.loop-k.k t c.loop-k-test.true c.index-transactions-k.is)
    (subst (λ (tally : Tally). Tells plan ((ts ++ map recorded (take c.loop-k.k c.args.transactions.now)) ++ recorded t ∷ []) tally) (sym c.in_ok-push.ensures)
    (next_transaction (recorded t) c.as_slice.result.now (c.loop-k.invariant ts told) right))
