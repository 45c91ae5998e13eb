use Rattle.std.proofs.Common.{◌<◌, ℕ, List, Bor, length, map, sym, subst, take}
use Rattle.std.proofs.lemmas.List.{take_more}
use Rattle.plan_core.specs.PlanContents.{plan_contents}
use Rattle.bench_run.specs.Starters.{AreNumbersOf}
use Rattle.bench_run.proofs.StarterLemmas.{label_more}
use Rattle.bench_run.proofs.starters.numbers_of.Goals as goal

pub loop-label-preserved : goal.loop-label-preserved
loop-label-preserved c =
    let plan = plan_contents c.args.plan.now in
    let labels = c.args.labels.now in
    let k = c.loop-label.label-index in
    subst (λ (ls : List (Bor (List ℕ))). AreNumbersOf plan (map (λ x. x.now) ls) c.push.new.self.items) (sym (take_more labels k _ c.loop-label-test.true))
    (label_more plan (take k labels) _ c.loop-label.numbers.items c.push.new.self.items c.number_of.result c.loop-label.invariant c.number_of.ensures c.in_ok-push.ensures.items)
