use Rattle.std.proofs.Common.{map, drop, ◌+◌, ap, sym, ◌∙◌}
use Rattle.plan_core.specs.BuilderContents.{builder_contents}
use Rattle.brief_text.specs.Parting.{apart}
use Rattle.brief_text.specs.Splitting.{with_pairs}
use Rattle.brief_text.proofs.SplitLemmas.{drop_one, drop_none}
use Rattle.brief_text.proofs.splitting.add_pairs.Goals as goal

pub loop-pair-preserved : goal.loop-pair-preserved
loop-pair-preserved c =
    let i = c.loop-pair.pair-index in
    let pairs = c.args.pairs.now in
    ap (λ plan. with_pairs plan (map apart (drop (i + 1) pairs))) c.in_ok-add_pair.ensures
    ∙ ap (λ them. with_pairs (builder_contents c.loop-pair.builder) (map apart them)) (sym (drop_one pairs i c.pair-item.result c.loop-pair-test.true c.pair-item.is))
    ∙ c.loop-pair.invariant

pub returns : goal.returns
returns c =
    ap (λ them. with_pairs (builder_contents c.loop-pair.builder) (map apart them)) (sym (drop_none c.args.pairs.now c.loop-pair.pair-index c.loop-pair-test.false)) ∙ c.loop-pair.invariant
