use Rattle.std.proofs.Common.{ap, sym, ◌∙◌, subst, IfOk, Ok, map}
use Rattle.std.specs.List.{AllZip}
use Rattle.rayon.proofs.ToStd.{slice-AllZip}
use Rattle.plan_core.specs.PlanContents.{plan_contents}
use Rattle.capture_check.specs.Explained.{AreExplainers}
use Rattle.capture_check.specs.Views.{recorded}
use Rattle.capture_check.proofs.WorkerLemmas.{all_answered, ok_part}
use Rattle.capture_check.proofs.workers.explain_all.Goals as goal

pub returns : goal.returns
returns g c =
    let slice = ap (λ it. it.slice.now) c.map.ensures.base ∙ c.par_iter.ensures in
    let plan = ap (λ f. f.1.now) c.map.ensures.f in
    let given = c.in_ok-collect.ensures in
    let chain = given.1 in
    ok_part c.in_ok-collect.field-0 _ _ _ given.2 (λ lists h.
    subst (λ p. AllZip (λ t ps. AreExplainers (plan_contents p) (recorded t) ps.items) c.args.transactions.now lists.items) plan
    (all_answered _ (λ t ps. AreExplainers (plan_contents c.map.result.f.1.now) (recorded t) ps.items) c.args.transactions.now lists.items
    (subst (λ us. AllZip (λ t answer. IfOk answer (λ ps. AreExplainers (plan_contents c.map.result.f.1.now) (recorded t) ps.items)) c.args.transactions.now us) (h.1 ∙ ap (λ l. map Ok l) (sym h.2))
    (slice-AllZip chain.0 c.args.transactions.now (chain.1 ∙ slice) (λ t answer. IfOk answer (λ ps. AreExplainers (plan_contents c.map.result.f.1.now) (recorded t) ps.items)) given.0 chain.2))))
