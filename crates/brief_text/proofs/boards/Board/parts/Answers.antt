use Rattle.std.proofs.Common.{[], ap, sym, ◌∙◌}
use Rattle.std.specs.List.{flat_map}
use Rattle.brief_text.proofs.PushLemmas.{one_further}
use Rattle.std.proofs.lemmas.List.{take_all}
use Rattle.std.proofs.lemmas.List.Folds.{flat_map-map}
use Rattle.brief_text.specs.Splitting.{parts, parts_of}
use Rattle.brief_text.specs.Standing.{draft, listing}
use Rattle.brief_text.proofs.boards.Board.parts.Goals as goal

pub loop-controller-preserved : goal.loop-controller-preserved
loop-controller-preserved c =
    one_further (λ it. parts_of (draft c.args.self.now) (listing it)) c.as_slice-controller-items.result.now [] _ _ c.loop-controller.controller-index c.controller-item.result c.loop-controller-test.true c.controller-item.is c.loop-controller.invariant c.in_ok-push_parts.ensures

pub returns : goal.returns
unfolding parts
returns c =
    let d = draft c.args.self.now in
    c.loop-controller.invariant
    ∙ ap (flat_map (λ it. parts_of d (listing it))) (take_all c.loop-controller.controller-index c.as_slice-controller-items.result.now c.loop-controller-test.false ∙ c.as_slice-controller-items.ensures.value)
    ∙ sym (flat_map-map (parts_of d) listing c.args.self.now.controllers.items)
