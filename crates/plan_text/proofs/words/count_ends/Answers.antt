use Rattle.std.proofs.Common.{◌≡◌, ◌&&◌, false, sym, ◌∙◌}
use Rattle.std.proofs.lemmas.Bool.{and_left, and_right}
use Rattle.plan_text.specs.Words.{is_digits}
use Rattle.plan_text.proofs.WordLemmas.{ends_whole, ends_apart, ends_absent, ends_not_digits}
use Rattle.plan_text.proofs.words.count_ends.Goals.{else-is_digits-2-via-then-is_digits-2+else-is_digits-3, else-is_digits-2-via-else-is_digits-2}
use Rattle.plan_text.proofs.words.count_ends.Goals as goal

pub returns-then-is_digits : goal.returns-then-is_digits
returns-then-is_digits c = ends_whole c.args.word.now (sym c.is_digits.ensures ∙ c.if-is_digits.true)

pub returns-in_err-least : goal.returns-in_err-least
returns-in_err-least c =
    rw c.from_residual.ensures (ends_absent c.args.word.now (sym c.is_digits.ensures ∙ c.if-is_digits.false) c.in_err-least.ensures)

pub returns-then-is_digits-3 : goal.returns-then-is_digits-3
returns-then-is_digits-3 c =
    ends_apart c.args.word.now _ _ (sym c.is_digits.ensures ∙ c.if-is_digits.false) c.in_ok-least.ensures (sym c.is_digits-2.ensures ∙ c.if-is_digits-2.true) (sym c.is_digits-then-is_digits-2.ensures ∙ c.if-is_digits-3.true)

pub returns-else-is_digits-2 : goal.returns-else-is_digits-2
returns-else-is_digits-2 c =
    let neither : (is_digits c.in_ok-least.least.now && is_digits c.in_ok-least.greatest.now) ≡ false =
    elim c.else-is_digits-2.branch [
      | else-is_digits-2-via-then-is_digits-2+else-is_digits-3 w ↦ and_right _ _ (sym w.is_digits-then-is_digits-2.ensures ∙ w.if-is_digits-3.false)
      | else-is_digits-2-via-else-is_digits-2 w ↦ and_left _ _ (sym c.is_digits-2.ensures ∙ w.if-is_digits-2.false)
    ] in
    ends_not_digits c.args.word.now _ _ (sym c.is_digits.ensures ∙ c.if-is_digits.false) c.in_ok-least.ensures neither
