use Rattle.std.proofs.Common.{map, drop, ◌+◌, ap, sym, ◌∙◌}
use Rattle.plan_core.specs.BuilderContents.{builder_contents}
use Rattle.brief_text.specs.Parting.{part}
use Rattle.brief_text.specs.Splitting.{with_parts}
use Rattle.brief_text.proofs.SplitLemmas.{drop_one, drop_none}
use Rattle.brief_text.proofs.splitting.add_parts.Goals as goal

pub loop-part-preserved : goal.loop-part-preserved
loop-part-preserved c =
    let i = c.loop-part.part-index in
    let parts = c.args.parts.now in
    ap (λ plan. with_parts plan (map part (drop (i + 1) parts))) c.in_ok-add_part.ensures
    ∙ ap (λ them. with_parts (builder_contents c.loop-part.builder) (map part them)) (sym (drop_one parts i c.part-item.result c.loop-part-test.true c.part-item.is))
    ∙ c.loop-part.invariant

pub returns : goal.returns
returns c =
    ap (λ them. with_parts (builder_contents c.loop-part.builder) (map part them)) (sym (drop_none c.args.parts.now c.loop-part.part-index c.loop-part-test.false)) ∙ c.loop-part.invariant
