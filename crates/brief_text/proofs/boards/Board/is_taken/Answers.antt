use Rattle.std.proofs.Common.{◌||◌, refl, sym, ◌∙◌}
use Rattle.std.specs.List.{list_any}
use Rattle.std.specs.Str.{bytes_eq}
use Rattle.brief_text.specs.declared.syntax.Party.{Party}
use Rattle.brief_text.specs.Splitting.{side_name}
use Rattle.brief_text.specs.Standing.{draft, side}
use Rattle.brief_text.proofs.BoardLemmas.{taken}
use Rattle.brief_text.proofs.boards.Board.is_taken.Goals as goal

pub returns-then-has_controller : goal.returns-then-has_controller
returns-then-has_controller c =
    let name = c.args.name.now in
    let labels = c.args.self.now.labels.items in
    let one = sym c.has_controller.ensures ∙ c.if-has_controller.true in
    c.if-has_controller.true ∙ sym (taken (draft c.args.self.now) name c.args.self.now.controllers.items labels refl refl ∙ (λ i. one i || list_any (λ (it : Party). bytes_eq name (side_name (side it))) labels))

pub returns-else-has_controller : goal.returns-else-has_controller
returns-else-has_controller c =
    let name = c.args.name.now in
    let labels = c.args.self.now.labels.items in
    let none = sym c.has_controller.ensures ∙ c.if-has_controller.false in
    sym (taken (draft c.args.self.now) name c.args.self.now.controllers.items labels refl refl ∙ (λ i. none i || list_any (λ (it : Party). bytes_eq name (side_name (side it))) labels) ∙ sym c.has_part.ensures)
