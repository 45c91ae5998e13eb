use Rattle.std.proofs.Common.{◌||◌, sym, ◌∙◌}
use Rattle.std.specs.List.{list_any}
use Rattle.plan_core.specs.NameBytes.{name_bytes}
use Rattle.brief_text.specs.Judging.{is_side_of}
use Rattle.brief_text.specs.Standing.{draft}
use Rattle.brief_text.proofs.ExtendLemmas.{labels_of_board, sides_of}
use Rattle.brief_text.proofs.boards.Board.is_kept_apart.Goals as goal

pub returns-then-is_split : goal.returns-then-is_split
returns-then-is_split c =
    let d = draft c.args.self.now in
    let name = name_bytes c.args.name.now in
    let split = labels_of_board name c.args.self.now.labels.items ∙ sym c.is_split.ensures ∙ c.if-is_split.true in
    c.if-is_split.true ∙ (λ i. sym split i || list_any (is_side_of name) d.nevers)

pub returns-else-is_split : goal.returns-else-is_split
returns-else-is_split c =
    let d = draft c.args.self.now in
    let name = name_bytes c.args.name.now in
    let whole = labels_of_board name c.args.self.now.labels.items ∙ sym c.is_split.ensures ∙ c.if-is_split.false in
    sym ((λ i. whole i || list_any (is_side_of name) d.nevers) ∙ sides_of name c.args.self.now.nevers.items ∙ sym c.has_never_of.ensures)
