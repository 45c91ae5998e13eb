use Rattle.std.proofs.Common.{◌≡◌, ◌+◌, ◌<◌, sym, subst, true, length, take, All, map, List, Bool, arith}
use Rattle.std.proofs.lemmas.List.{take_all}
use Rattle.plan_core.specs.PlanContents.{plan_contents}
use Rattle.lessons.specs.declared.paths.Step.{Step}
use Rattle.lessons.specs.declared.seen.Sight.{Sight}
use Rattle.lessons.specs.Lessons.{marked, path_seen}
use Rattle.lessons.specs.Plans.{HasPath}
use Rattle.lessons.proofs.MarkLemmas.{one_more}
use Rattle.lessons.proofs.checking.had_in.Goals as goal

pub loop-number-preserved : goal.loop-number-preserved
loop-number-preserved c =
    let P : List Step → Type 0 = HasPath (plan_contents c.args.plan.now) in
    let sights = c.args.sights.now in
    let i = c.loop-number.number in
    let sight = c.index-sights-number.result in
    let within : i < length sights = omega arith in
    let has = λ (e : c.is_had.result ≡ true). subst (λ (s : Sight). P (path_seen s)) c.index-sights-number.is (c.is_had.ensures e) in
    let more = one_more P c.loop-number.had.items sights i c.is_had.result sight c.loop-number.invariant.length within has c.loop-number.invariant.has in
    record {
      length = grind arith;
      has = subst (λ (bs : List Bool). All P (map path_seen (marked bs (take (i + 1) sights)))) (sym c.in_ok-push.ensures.items) more;
    }

pub returns : goal.returns
returns c =
    let P : List Step → Type 0 = HasPath (plan_contents c.args.plan.now) in
    let all = take_all c.loop-number.number c.args.sights.now (omega arith) in
    subst (λ (ss : List Sight). All P (map path_seen (marked c.loop-number.had.items ss))) all c.loop-number.invariant.has
