use Rattle.std.proofs.Common.{◌||◌, ap, sym, ◌∙◌}
use Rattle.brief_text.specs.Trees.{Side}
use Rattle.std.specs.Prelude.{not}
use Rattle.std.specs.List.{list_any}
use Rattle.std.specs.Str.{bytes_eq}
use Rattle.plan_core.specs.NameBytes.{name_bytes}
use Rattle.brief_text.specs.Splitting.{is_label, labels_of}
use Rattle.brief_text.specs.Standing.{draft, side}
use Rattle.brief_text.proofs.SplitLemmas.{any_where}
use Rattle.brief_text.proofs.boards.Board.is_left_to.Goals as goal

pub returns-else-is_label : goal.returns-else-is_label
returns-else-is_label c =
    let m = name_bytes c.args.message.now in
    let s = side c.args.label.now in
    let p = λ (x : Side). bytes_eq x.controller s.controller in
    ap not (c.has_label_of.ensures ∙ sym (any_where side p (is_label m) c.args.self.now.labels.items))
    ∙ ap (λ t. t || not (list_any (is_label m) (labels_of (draft c.args.self.now) s.controller))) c.if-is_label.ensures
