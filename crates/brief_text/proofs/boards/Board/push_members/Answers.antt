use Rattle.std.proofs.Common.{ℕ, List, ◌++◌, map, ap, sym, ◌∙◌}
use Rattle.std.specs.List.{flat_map}
use Rattle.std.proofs.lemmas.List.{take_all}
use Rattle.std.proofs.lemmas.List.Folds.{flat_map-map}
use Rattle.plan_core.specs.NameBytes.{name_bytes}
use Rattle.plan_core.specs.declared.names.Name.{Name}
use Rattle.brief_text.specs.Drafts.{members}
use Rattle.brief_text.proofs.PushLemmas.{one_further}
use Rattle.brief_text.proofs.boards.Board.push_members.Goals as goal

pub loop-name-preserved : goal.loop-name-preserved
loop-name-preserved c =
    one_further (λ (it : Name). members (name_bytes it) c.args.range) c.args.names.now (map name_bytes c.args.further.now.items) _ _ c.loop-name.name-index c.name-item.result c.loop-name-test.true c.name-item.is c.loop-name.invariant c.in_ok-push_members_of.ensures

pub returns : goal.returns
returns c =
    c.loop-name.invariant
    ∙ ap (λ (them : List Name). map name_bytes c.args.further.now.items ++ flat_map (λ (it : Name). members (name_bytes it) c.args.range) them) (take_all c.loop-name.name-index c.args.names.now c.loop-name-test.false)
    ∙ ap (λ them. map name_bytes c.args.further.now.items ++ them) (sym (flat_map-map (λ (name : List ℕ). members name c.args.range) name_bytes c.args.names.now))
