use Rattle.std.proofs.Common.{[], ◌∷◌, ◌++◌, map, ap, ◌∙◌, refl}
use Rattle.brief_text.specs.declared.syntax.Party.{Party}
use Rattle.brief_text.specs.Trees.{Side}
use Rattle.std.specs.Prelude.{if◌then◌else◌}
use Rattle.std.specs.List.{flat_map}
use Rattle.std.specs.Str.{bytes_eq}
use Rattle.brief_text.proofs.PushLemmas.{one_further}
use Rattle.std.proofs.lemmas.List.{take_all}
use Rattle.std.specs.List.{filter}
use Rattle.std.proofs.lemmas.List.{append_assoc}
use Rattle.brief_text.specs.Parting.{part}
use Rattle.brief_text.specs.Splitting.{labels_of, label_part, sends_any}
use Rattle.brief_text.specs.Standing.{draft, listing, side}
use Rattle.brief_text.proofs.SplitLemmas.{parts_pushed}
use Rattle.brief_text.proofs.boards.Board.push_split.Goals as goal

pub loop-label-preserved : goal.loop-label-preserved
loop-label-preserved c =
    let d = draft c.args.self.now in
    let it = listing c.args.controller.now in
    let g = λ (label : Party). if bytes_eq (side label).controller it.0 then filter sends_any (label_part d (labels_of d it.0) it.1 (side label) ∷ []) else [] in
    one_further g c.as_slice-label-items.result.now _ _ _ c.loop-label.label-index c.label-item.result c.loop-label-test.true c.label-item.is c.loop-label.invariant c.in_ok-push_label.ensures

pub returns : goal.returns
returns c =
    let d = draft c.args.self.now in
    let it = listing c.args.controller.now in
    let p = λ (s : Side). bytes_eq s.controller it.0 in
    let g = λ (label : Party). if p (side label) then filter sends_any (label_part d (labels_of d it.0) it.1 (side label) ∷ []) else [] in
    let labels = c.args.self.now.labels.items in
    c.loop-label.invariant
    ∙ ap (λ ls. map part c.push_rest.new.parts.items ++ flat_map g ls) (take_all c.loop-label.label-index c.as_slice-label-items.result.now c.loop-label-test.false ∙ c.as_slice-label-items.ensures.value)
    ∙ ap (λ ps. ps ++ flat_map g labels) c.in_ok-push_rest.ensures
    ∙ append_assoc (map part c.args.parts.now.items) _ (flat_map g labels)
    ∙ ap (λ ps. map part c.args.parts.now.items ++ ps) (parts_pushed d it.0 it.1 (labels_of d it.0) labels p refl)
