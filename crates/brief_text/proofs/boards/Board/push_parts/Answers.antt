use Rattle.std.proofs.Common.{◌≡◌, ◌++◌, map, sym, subst}
use Rattle.std.specs.Result.{OnOk}
use Rattle.std.specs.Str.{bytes_eq}
use Rattle.brief_text.specs.Trees.{Side}
use Rattle.brief_text.specs.Parting.{part}
use Rattle.brief_text.specs.Splitting.{labels_of}
use Rattle.brief_text.specs.Standing.{draft, listing, side}
use Rattle.brief_text.proofs.SplitLemmas.{split_by_one, whole_by_none, none_where}
use Rattle.brief_text.proofs.boards.Board.push_parts.Goals as goal

pub returns-then-is_split : goal.returns-then-is_split
returns-then-is_split c =
    let d = draft c.args.self.now in
    let it = listing c.args.controller.now in
    let p = λ (s : Side). bytes_eq s.controller it.0 in
    subst (λ them. OnOk c.push_split.result (map part c.push_split.new.parts.items ≡ map part c.args.parts.now.items ++ them)) (sym (split_by_one d it.0 it.1 c.args.self.now.labels.items p (sym c.if-is_split.ensures))) c.push_split.ensures

pub returns-else-is_split : goal.returns-else-is_split
returns-else-is_split c =
    let d = draft c.args.self.now in
    let it = listing c.args.controller.now in
    let p = λ (s : Side). bytes_eq s.controller it.0 in
    subst (λ them. OnOk c.push_whole.result (map part c.push_whole.new.parts.items ≡ map part c.args.parts.now.items ++ them)) (sym (whole_by_none d it.0 it.1 (labels_of d it.0) (none_where side p c.args.self.now.labels.items (sym c.if-is_split.ensures)))) c.push_whole.ensures
