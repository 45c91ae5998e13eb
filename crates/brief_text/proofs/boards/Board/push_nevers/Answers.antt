use Rattle.std.proofs.Common.{◌++◌, map, ap, ◌∙◌}
use Rattle.std.specs.List.{flat_map}
use Rattle.brief_text.proofs.PushLemmas.{one_further}
use Rattle.std.proofs.lemmas.List.{take_all}
use Rattle.brief_text.specs.Parting.{apart, names_of}
use Rattle.brief_text.specs.Splitting.{pairs_meant}
use Rattle.brief_text.specs.Standing.{draft, sides}
use Rattle.brief_text.proofs.SplitLemmas.{names_each}
use Rattle.brief_text.proofs.boards.Board.push_nevers.Goals as goal

pub loop-never-preserved : goal.loop-never-preserved
loop-never-preserved c =
    one_further (λ it. map names_of (pairs_meant (draft c.args.self.now) (sides it))) c.as_slice-never-items.result.now _ _ _ c.loop-never.never-index c.never-item.result c.loop-never-test.true c.never-item.is c.loop-never.invariant c.in_ok-push_never.ensures

pub returns : goal.returns
returns c =
    let d = draft c.args.self.now in
    let before = map apart c.args.pairs.now.items in
    c.loop-never.invariant
    ∙ ap (λ ns. before ++ flat_map (λ it. map names_of (pairs_meant d (sides it))) ns) (take_all c.loop-never.never-index c.as_slice-never-items.result.now c.loop-never-test.false ∙ c.as_slice-never-items.ensures.value)
    ∙ ap (λ ps. before ++ ps) (names_each names_of (pairs_meant d) sides c.args.self.now.nevers.items)
