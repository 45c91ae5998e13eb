use Rattle.std.proofs.Common.{true, false, not, ap, sym, ◌∙◌, refl}
use Rattle.plan_core.specs.NameBytes.{name_bytes}
use Rattle.brief_text.specs.Standing.{draft}
use Rattle.brief_text.proofs.BoardLemmas.{extend_judged}
use Rattle.brief_text.proofs.ExtendLemmas.{found_as}
use Rattle.brief_text.proofs.boards.Board.extend_refusal.Goals as goal

pub returns-then-is_none : goal.returns-then-is_none
returns-then-is_none c =
    let d = draft c.args.self.now in
    let name = name_bytes c.args.name.now in
    sym (extend_judged d name false _ (found_as _ c.controller.result _ c.controller.ensures ∙ c.is_none.ensures ∙ ap not c.if-is_none.true) refl)

pub returns-then-is_kept_apart : goal.returns-then-is_kept_apart
returns-then-is_kept_apart c =
    let d = draft c.args.self.now in
    let name = name_bytes c.args.name.now in
    sym (extend_judged d name true true (found_as _ c.controller.result _ c.controller.ensures ∙ c.is_none.ensures ∙ ap not c.if-is_none.false) (sym c.is_kept_apart.ensures ∙ c.if-is_kept_apart.true))

pub returns-else-is_kept_apart : goal.returns-else-is_kept_apart
returns-else-is_kept_apart c =
    let d = draft c.args.self.now in
    let name = name_bytes c.args.name.now in
    sym (extend_judged d name true false (found_as _ c.controller.result _ c.controller.ensures ∙ c.is_none.ensures ∙ ap not c.if-is_none.false) (sym c.is_kept_apart.ensures ∙ c.if-is_kept_apart.false))
