use Rattle.std.proofs.Common.{◌≡◌, true, false, sym, ◌∙◌, subst}
use Rattle.std.specs.Prelude.{IfOk, Option}
use Rattle.plan_core.specs.declared.builder.BuildError.{BuildError}
use Rattle.brief_text.specs.Standing.{draft, side}
use Rattle.brief_text.proofs.BoardLemmas.{first_judged}
use Rattle.brief_text.proofs.boards.Board.name_first.Goals as goal

pub returns-then-branch-clause-refusal : goal.returns-then-branch-clause-refusal
returns-then-branch-clause-refusal c =
    let known = sym c.in_ok-is_side.ensures ∙ c.if-branch.true in
    subst (λ (due : Option BuildError). IfOk c.name_label.result (λ it. it ≡ due)) (sym (first_judged (draft c.args.self.now) (side c.args.first.now) true known)) c.name_label.ensures.refusal

pub returns-else-branch-clause-refusal : goal.returns-else-branch-clause-refusal
returns-else-branch-clause-refusal c = sym (first_judged (draft c.args.self.now) (side c.args.first.now) false (sym c.in_ok-is_side.ensures ∙ c.if-branch.false))
