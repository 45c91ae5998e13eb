use Rattle.std.proofs.Common.{[], ap, sym, ◌∙◌}
use Rattle.std.specs.List.{flat_map}
use Rattle.std.proofs.lemmas.List.{take_all}
use Rattle.std.proofs.lemmas.List.Folds.{flat_map-map}
use Rattle.plan_core.specs.NameBytes.{name_bytes}
use Rattle.plan_core.specs.declared.names.Name.{Name}
use Rattle.brief_text.specs.Drafts.{stands_alone_for}
use Rattle.brief_text.specs.Standing.{draft}
use Rattle.brief_text.proofs.PushLemmas.{one_further}
use Rattle.brief_text.proofs.boards.Board.all_named.Goals as goal

pub loop-name-preserved : goal.loop-name-preserved
loop-name-preserved c =
    one_further (λ (it : Name). stands_alone_for (draft c.args.self.now) (name_bytes it)) c.args.names.now [] _ _ c.loop-name.name-index c.name-item.result c.loop-name-test.true c.name-item.is c.loop-name.invariant c.in_ok-push_named_alone.ensures

pub returns : goal.returns
returns c =
    c.loop-name.invariant
    ∙ ap (flat_map (λ (it : Name). stands_alone_for (draft c.args.self.now) (name_bytes it))) (take_all c.loop-name.name-index c.args.names.now c.loop-name-test.false)
    ∙ sym (flat_map-map (stands_alone_for (draft c.args.self.now)) name_bytes c.args.names.now)
