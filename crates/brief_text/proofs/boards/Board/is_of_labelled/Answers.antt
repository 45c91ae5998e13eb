use Rattle.std.proofs.Common.{◌≡◌, ◌&&◌, true, false, List, ℕ, map, ap, sym, ◌∙◌}
use Rattle.std.specs.List.{list_any}
use Rattle.std.specs.Str.{bytes_eq}
use Rattle.plan_core.specs.NameBytes.{name_bytes}
use Rattle.brief_text.specs.Drafts.{stands_alone_for}
use Rattle.brief_text.specs.Splitting.{is_label, labels_of}
use Rattle.brief_text.specs.Standing.{draft, side}
use Rattle.brief_text.specs.Trees.{Side}
use Rattle.brief_text.proofs.SplitLemmas.{any_where}
use Rattle.brief_text.proofs.boards.Board.is_of_labelled.Goals as goal

pub returns-then-not-has_label_of : goal.returns-then-not-has_label_of
returns-then-not-has_label_of c =
    let d = draft c.args.self.now in
    let n = name_bytes c.args.name.now in
    let p = λ (s : Side). bytes_eq s.controller (name_bytes c.args.controller.now) in
    let stands = list_any (λ other. bytes_eq other (name_bytes c.args.message.now)) (stands_alone_for d n) in
    let none : list_any (is_label n) (labels_of d (name_bytes c.args.controller.now)) ≡ false =
    any_where side p (is_label n) c.args.self.now.labels.items ∙ sym c.has_label_of.ensures ∙ c.if-not-has_label_of.true in
    ap (λ t. t && stands) (sym none)

pub returns : goal.returns
returns c =
    let d = draft c.args.self.now in
    let n = name_bytes c.args.name.now in
    let p = λ (s : Side). bytes_eq s.controller (name_bytes c.args.controller.now) in
    let q = λ (other : List ℕ). bytes_eq other (name_bytes c.args.message.now) in
    let some : list_any (is_label n) (labels_of d (name_bytes c.args.controller.now)) ≡ true =
    any_where side p (is_label n) c.args.self.now.labels.items ∙ sym c.has_label_of.ensures ∙ c.if-not-has_label_of.false in
    c.is_among.ensures ∙ ap (list_any q) (ap (map name_bytes) c.as_slice.ensures.value ∙ c.in_ok-named.ensures)
    ∙ ap (λ t. t && list_any q (stands_alone_for d n)) (sym some)
