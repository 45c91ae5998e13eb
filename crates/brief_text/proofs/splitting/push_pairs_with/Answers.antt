use Rattle.std.proofs.Common.{[], ◌∷◌, ◌++◌, map, ap, ◌∙◌}
use Rattle.std.specs.List.{flat_map}
use Rattle.plan_core.specs.NameBytes.{name_bytes}
use Rattle.brief_text.proofs.PushLemmas.{one_further}
use Rattle.std.proofs.lemmas.List.{take_all}
use Rattle.std.proofs.lemmas.List.Concat.{flat_map_single}
use Rattle.std.proofs.lemmas.List.{map_push}
use Rattle.brief_text.specs.Parting.{apart}
use Rattle.brief_text.proofs.SplitLemmas.{with_each}
use Rattle.brief_text.proofs.splitting.push_pairs_with.Goals as goal

pub loop-second-preserved : goal.loop-second-preserved
loop-second-preserved c =
    let so_far = map apart c.loop-second.pairs.items in
    let adds = ap (map apart) c.in_ok-push.ensures.items ∙ map_push apart c.loop-second.pairs.items _
    ∙ (λ i. so_far ++ (c.in_ok-copied.ensures i, c.in_ok-copied-2.ensures i) ∷ []) in
    one_further (λ it. (name_bytes c.args.first.now, name_bytes it) ∷ []) c.args.seconds.now _ _ _ c.loop-second.second-index c.second-item.result c.loop-second-test.true c.second-item.is c.loop-second.invariant adds

pub returns : goal.returns
returns c =
    let before = map apart c.args.pairs.now.items in
    let first = name_bytes c.args.first.now in
    c.loop-second.invariant
    ∙ ap (λ os. before ++ flat_map (λ it. (first, name_bytes it) ∷ []) os) (take_all c.loop-second.second-index c.args.seconds.now c.loop-second-test.false)
    ∙ ap (λ ps. before ++ ps) (flat_map_single (λ it. (first, name_bytes it)) c.args.seconds.now ∙ with_each name_bytes first c.args.seconds.now)
