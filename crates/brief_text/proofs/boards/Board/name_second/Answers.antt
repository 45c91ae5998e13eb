use Rattle.std.proofs.Common.{◌≡◌, true, false, sym, ◌∙◌, subst, refl}
use Rattle.std.specs.Prelude.{IfOk, Option}
use Rattle.std.specs.List.{list_any}
use Rattle.plan_core.specs.declared.builder.BuildError.{BuildError}
use Rattle.brief_text.specs.Judging.{is_side, are_sides}
use Rattle.brief_text.specs.Standing.{draft, side}
use Rattle.brief_text.proofs.BoardLemmas.{second_judged, nevers_of}
use Rattle.brief_text.proofs.boards.Board.name_second.Goals as goal

pub returns-then-eq-clause-refusal : goal.returns-then-eq-clause-refusal
returns-then-eq-clause-refusal c =
    let d = draft c.args.self.now in
    let first = side c.args.first.now in
    let second = side c.args.second.now in
    sym (second_judged d first second true (is_side d second) (list_any (are_sides first second) d.nevers) (sym c.if-eq.ensures) refl refl)

pub returns-then-not-branch-clause-refusal : goal.returns-then-not-branch-clause-refusal
returns-then-not-branch-clause-refusal c =
    let d = draft c.args.self.now in
    let first = side c.args.first.now in
    let second = side c.args.second.now in
    sym (second_judged d first second false false (list_any (are_sides first second) d.nevers) (sym c.if-eq.ensures) (sym c.in_ok-is_side.ensures ∙ c.if-not-branch.true) refl)

pub returns-then-has_never-clause-refusal : goal.returns-then-has_never-clause-refusal
returns-then-has_never-clause-refusal c =
    let d = draft c.args.self.now in
    let first = side c.args.first.now in
    let second = side c.args.second.now in
    sym (second_judged d first second false true true (sym c.if-eq.ensures) (sym c.in_ok-is_side.ensures ∙ c.if-not-branch.false) (nevers_of first second c.args.self.now.nevers.items ∙ sym c.if-has_never.ensures))

pub returns-else-has_never-clause-refusal : goal.returns-else-has_never-clause-refusal
returns-else-has_never-clause-refusal c =
    let d = draft c.args.self.now in
    let first = side c.args.first.now in
    let second = side c.args.second.now in
    let judged = second_judged d first second false true false (sym c.if-eq.ensures) (sym c.in_ok-is_side.ensures ∙ c.if-not-branch.false) (nevers_of first second c.args.self.now.nevers.items ∙ sym c.if-has_never.ensures) in
    subst (λ (due : Option BuildError). IfOk c.name_label.result (λ it. it ≡ due)) (sym judged) c.name_label.ensures.refusal
