use Rattle.std.proofs.Common.{[], ap, ◌∙◌}
use Rattle.brief_text.specs.declared.syntax.Party.{Party}
use Rattle.brief_text.specs.Trees.{Side}
use Rattle.std.specs.Prelude.{if◌then◌else◌}
use Rattle.std.specs.List.{flat_map}
use Rattle.std.specs.Str.{bytes_eq}
use Rattle.plan_core.specs.NameBytes.{name_bytes}
use Rattle.brief_text.proofs.PushLemmas.{one_further, flat_where}
use Rattle.std.proofs.lemmas.List.{take_all}
use Rattle.brief_text.specs.Splitting.{label_messages}
use Rattle.brief_text.specs.Standing.{draft, side}
use Rattle.brief_text.proofs.boards.Board.labelled.Goals as goal

pub loop-label-preserved : goal.loop-label-preserved
loop-label-preserved c =
    let g = λ (it : Party). if bytes_eq (side it).controller (name_bytes c.args.controller.now) then label_messages (draft c.args.self.now) (side it) else [] in
    one_further g c.as_slice-label-items.result.now [] _ _ c.loop-label.label-index c.label-item.result c.loop-label-test.true c.label-item.is c.loop-label.invariant c.in_ok-push_labelled.ensures

pub returns : goal.returns
returns c =
    let d = draft c.args.self.now in
    let p = λ (s : Side). bytes_eq s.controller (name_bytes c.args.controller.now) in
    c.loop-label.invariant
    ∙ ap (flat_map (λ it. if p (side it) then label_messages d (side it) else [])) (take_all c.loop-label.label-index c.as_slice-label-items.result.now c.loop-label-test.false ∙ c.as_slice-label-items.ensures.value)
    ∙ flat_where side p (label_messages d) c.args.self.now.labels.items
