use Rattle.std.proofs.Common.{◌++◌, map, ap, sym, ◌∙◌}
use Rattle.std.specs.List.{flat_map}
use Rattle.plan_core.specs.NameBytes.{name_bytes}
use Rattle.brief_text.proofs.PushLemmas.{one_further}
use Rattle.std.proofs.lemmas.List.{take_all}
use Rattle.std.proofs.lemmas.List.Folds.{flat_map-map}
use Rattle.brief_text.specs.Parting.{apart}
use Rattle.brief_text.proofs.splitting.push_pairs_between.Goals as goal

pub loop-first-preserved : goal.loop-first-preserved
loop-first-preserved c =
    one_further (λ it. map (λ second. (name_bytes it, second)) (map name_bytes c.args.seconds.now)) c.args.firsts.now _ _ _ c.loop-first.first-index c.first-item.result c.loop-first-test.true c.first-item.is c.loop-first.invariant c.in_ok-push_pairs_with.ensures

pub returns : goal.returns
returns c =
    let before = map apart c.args.pairs.now.items in
    let others = map name_bytes c.args.seconds.now in
    c.loop-first.invariant
    ∙ ap (λ os. before ++ flat_map (λ it. map (λ second. (name_bytes it, second)) others) os) (take_all c.loop-first.first-index c.args.firsts.now c.loop-first-test.false)
    ∙ ap (λ ps. before ++ ps) (sym (flat_map-map (λ first. map (λ second. (first, second)) others) name_bytes c.args.firsts.now))
